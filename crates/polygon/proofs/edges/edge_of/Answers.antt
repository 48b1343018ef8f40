use mir.Syntax.{w32}
use mir.Val.{to_z, of_z}
use mir.Facts.{to_z-of_z}
use Rattle.laws.specs.Bounds.{Some, some, arg, ld, ldw, is-, is*, fits-, fits*}
use mathlib.Core.Path.{sym, ap, ◌∙◌}
use Rattle.polygon.specs.Polygon.{at}
use Rattle.polygon.specs.EdgeLaws.{cuts_sloped, cuts_along}
use Rattle.polygon.proofs.edges.edge_of.Goals as goal
use Rattle.polygon.proofs.edges.edge_of.Goals.{Start}

-- `polygon::edge_of` meets its contract: along the rows, or a half plane whose offset is a line down the rows.

-- the differences, by the winding
abbrev dx : Start → Some
dx s = some (is- w32 tt (ldw w32 tt s.requires.to.x) (ldw w32 tt s.requires.from.x))

abbrev up : Start → Some
up s = some (is- w32 tt (ldw w32 tt s.requires.from.y) (ldw w32 tt s.requires.to.y))

abbrev slope : Start → Some
slope s = some (is* w32 tt (ld s.ranges.sign s.requires.sign) (up s).is)

abbrev fall : Start → Some
fall s = some (is* w32 tt (ld s.ranges.sign s.requires.sign) (dx s).is)

-- the two products and theirs
abbrev dy : Start → Some
dy s = some (is- w32 tt (ldw w32 tt s.requires.to.y) (ldw w32 tt s.requires.from.y))

abbrev left : Start → Some
left s = some (is* w32 tt (dy s).is (ldw w32 tt s.requires.from.x))

abbrev right : Start → Some
right s = some (is* w32 tt (dx s).is (ldw w32 tt s.requires.from.y))

abbrev base : Start → Some
base s = some (is- w32 tt (left s).is (right s).is)

abbrev offset : Start → Some
offset s = some (is* w32 tt (ld s.ranges.sign s.requires.sign) (base s).is)

pub overflow_sub-slope : goal.overflow_sub-slope
overflow_sub-slope c = fits- tt (ldw w32 tt c.requires.from.y) (ldw w32 tt c.requires.to.y)

pub overflow_mul-slope : goal.overflow_mul-slope
overflow_mul-slope c = fits* tt (ld c.ranges.sign c.requires.sign) (up (goal.at.overflow_mul-slope c).Start).is

pub overflow_sub-fall : goal.overflow_sub-fall
overflow_sub-fall c = fits- tt (ldw w32 tt c.requires.to.x) (ldw w32 tt c.requires.from.x)

pub overflow_mul-fall : goal.overflow_mul-fall
overflow_mul-fall c = fits* tt (ld c.ranges.sign c.requires.sign) (dx (goal.at.overflow_mul-fall c).Start).is

pub level_edge-requires : goal.level_edge-requires
level_edge-requires c = arg tt (ldw w32 tt c.requires.from.y)

pub returns-then-slope-eq0 : goal.returns-then-slope-eq0
returns-then-slope-eq0 c =
    cuts_along c.args.sign (at c.args.xi c.args.yi) (at c.args.xj c.args.yj) c.level_edge.result
    (sym (slope (goal.at.returns-then-slope-eq0 c).Start).is.is ∙ ap (to_z w32) c.if-slope-eq0.true)
    (rw ((fall (goal.at.returns-then-slope-eq0 c).Start).is.is, (ldw w32 tt c.requires.from.y).is) at c.level_edge.ensures)

pub overflow_sub-base : goal.overflow_sub-base
overflow_sub-base c = fits- tt (ldw w32 tt c.requires.to.y) (ldw w32 tt c.requires.from.y)

pub overflow_mul-base : goal.overflow_mul-base
overflow_mul-base c = fits* tt (dy (goal.at.overflow_mul-base c).Start).is (ldw w32 tt c.requires.from.x)

pub overflow_sub-base-2 : goal.overflow_sub-base-2
overflow_sub-base-2 c = fits- tt (ldw w32 tt c.requires.to.x) (ldw w32 tt c.requires.from.x)

pub overflow_mul-base-2 : goal.overflow_mul-base-2
overflow_mul-base-2 c = fits* tt (dx (goal.at.overflow_mul-base-2 c).Start).is (ldw w32 tt c.requires.from.y)

pub overflow_sub-base-3 : goal.overflow_sub-base-3
overflow_sub-base-3 c = fits- tt (left (goal.at.overflow_sub-base-3 c).Start).is (right (goal.at.overflow_sub-base-3 c).Start).is

pub overflow_mul-sign : goal.overflow_mul-sign
overflow_mul-sign c = fits* tt (ld c.ranges.sign c.requires.sign) (base (goal.at.overflow_mul-sign c).Start).is

pub sloped_edge-requires : goal.sloped_edge-requires
sloped_edge-requires c = record {
  some = λ e. c.if-slope-eq0.false (ap (of_z w32) (sym (to_z-of_z {w = w32} (fits* tt (ld c.ranges.sign c.requires.sign) (up (goal.at.sloped_edge-requires c).Start).is)) ∙ e));
  slope = arg tt (slope (goal.at.sloped_edge-requires c).Start).is;
  offset = arg tt (offset (goal.at.sloped_edge-requires c).Start).is;
  fall = arg tt (fall (goal.at.sloped_edge-requires c).Start).is;
}

pub returns : goal.returns
returns c =
    cuts_sloped c.args.sign (at c.args.xi c.args.yi) (at c.args.xj c.args.yj) c.sloped_edge.result
    (rw ((slope (goal.at.returns c).Start).is.is, (offset (goal.at.returns c).Start).is.is, (fall (goal.at.returns c).Start).is.is) at c.sloped_edge.ensures)
