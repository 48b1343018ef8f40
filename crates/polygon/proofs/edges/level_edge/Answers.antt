use borrow.Author.Rules.{sfits_of}
use mathlib.Core.Path.{refl}
use lib.IntN.{pos}
use mir.Syntax.{w32}
use mir.Facts.{to_z-of_z}
use Rattle.laws.specs.Bounds.{Some, some, ld, ldr, lit, is-, is*, fits-, fits*}
use Rattle.polygon.specs.EdgeLaws.{turn_bounded, cuts_level}
use Rattle.polygon.proofs.edges.level_edge.Goals as goal
use Rattle.polygon.proofs.edges.level_edge.Goals.{After-turn_of-turn}

-- `polygon::level_edge` meets its contract.

abbrev turn : After-turn_of-turn → Some
turn c =
    some (ldr {w = w32} (sfits_of c.turn_of-turn.type_inv) (rw (to_z-of_z c.ranges.s) at c.turn_of-turn.ensures) (turn_bounded c.args.s))

abbrev moved : After-turn_of-turn → Some
moved c = some (is* w32 tt (turn c).is (ld c.ranges.yi c.requires))

pub overflow_mul-start : goal.overflow_mul-start
overflow_mul-start c = fits* tt (turn (goal.at.overflow_mul-start c).After-turn_of-turn).is (ld c.ranges.yi c.requires)

pub overflow_mul-step : goal.overflow_mul-step
overflow_mul-step c = fits* tt (turn (goal.at.overflow_mul-step c).After-turn_of-turn).is (lit (pos 257))

pub returns : goal.returns
returns c =
    cuts_level c.args.s c.args.yi _ c.requires (is* w32 tt (is- w32 tt (lit (pos 1)) (moved (goal.at.returns c).After-turn_of-turn).is) (lit (pos 257))).is (is* w32 tt (turn (goal.at.returns c).After-turn_of-turn).is (lit (pos 257))).is refl refl refl refl

pub overflow_sub-start : goal.overflow_sub-start
overflow_sub-start c = fits- tt (lit (pos 1)) (moved (goal.at.overflow_sub-start c).After-turn_of-turn).is

pub overflow_mul-start-2 : goal.overflow_mul-start-2
overflow_mul-start-2 c = fits* tt (is- w32 tt (lit (pos 1)) (moved (goal.at.overflow_mul-start-2 c).After-turn_of-turn).is) (lit (pos 257))
