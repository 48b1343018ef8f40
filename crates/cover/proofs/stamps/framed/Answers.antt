use mathlib.Core.Path.{◌≡◌, refl, ◌∙◌, ap}
use mathlib.Core.List.{List}
use native.Mathlib.Omega.{arith}
use lib.IntN.{ℤ}
use mir.Syntax.{w32}
use mir.Val.{SFits, to_z, of_z}
use mir.Facts.{to_z-of_z}
use Rattle.laws.specs.Bools.{and_left, and_right}
use Rattle.laws.specs.Bounds.{wle, weq}
use Rattle.polygon.specs.Polygon.{least_of, greatest_of, InRange}
use Rattle.polygon.specs.OneRow.{four}
use Rattle.polygon.specs.StepLaws.{least_bounded, greatest_bounded}
use Rattle.cover.specs.CoverLaws.{AllBounded}
use Rattle.cover.specs.StepLaws.{read_all, in_range}
use borrow.Author.Rules.{rules}
use Rattle.cover.proofs.stamps.framed.Goals as goal
use Rattle.cover.proofs.stamps.framed.Goals.{After-struct_told-2-1, Start}

-- `cover::stamps::framed` meets its contract: the corners lie between the ends of their columns and rows.

module _ (s : Start) where
  abbrev xs : List ℤ
  xs = four s.args.x0 s.args.x1 s.args.x2 s.args.x3

  abbrev ys : List ℤ
  ys = four s.args.y0 s.args.y1 s.args.y2 s.args.y3

  xs-bounded : AllBounded xs
  xs-bounded = let p = s.requires.corners in (p.0, (p.2, (p.4, (p.6, tt))))

  ys-bounded : AllBounded ys
  ys-bounded = let p = s.requires.corners in (p.1, (p.3, (p.5, (p.7, tt))))

  ranged : InRange xs ys
  ranged = in_range xs ys refl (omega arith) xs-bounded ys-bounded

-- the ends, as they are read
module _ (c : After-struct_told-2-1) where
  abbrev start : Start
  start = c.before.before.before.before.before.before.before

  first-column : to_z w32 (of_z w32 c.extent_of-columns.result.least) ≡ least_of (xs start)
  first-column =
      let e = c.extent_of-columns in
      let p : SFits w32 e.result.least = search rules in
      to_z-of_z p ∙ e.ensures.low ∙ ap least_of (read_all (xs start) (xs-bounded start))

  last-column : to_z w32 (of_z w32 c.extent_of-columns.result.greatest) ≡ greatest_of (xs start)
  last-column =
      let e = c.extent_of-columns in
      let p : SFits w32 e.result.greatest = search rules in
      to_z-of_z p ∙ e.ensures.high ∙ ap greatest_of (read_all (xs start) (xs-bounded start))

  first-row : to_z w32 (of_z w32 c.extent_of-rows.result.least) ≡ least_of (ys start)
  first-row =
      let e = c.extent_of-rows in
      let p : SFits w32 e.result.least = search rules in
      to_z-of_z p ∙ e.ensures.low ∙ ap least_of (read_all (ys start) (ys-bounded start))

  last_row : to_z w32 (of_z w32 c.extent_of-rows.result.greatest) ≡ greatest_of (ys start)
  last_row =
      let e = c.extent_of-rows in
      let p : SFits w32 e.result.greatest = search rules in
      to_z-of_z p ∙ e.ensures.high ∙ ap greatest_of (read_all (ys start) (ys-bounded start))

pub among-requires : goal.among-requires
among-requires c =
    let s = start (goal.at.among-requires c).After-struct_told-2-1 in
    let r = ranged s in
    record { rows = (weq (first-column (goal.at.among-requires c).After-struct_told-2-1) (wle tt (least_bounded (xs s) r.x)), weq (last-column (goal.at.among-requires c).After-struct_told-2-1) (wle tt (greatest_bounded (xs s) r.x))); places = (s.requires.window.0, s.requires.window.2) }

pub among-requires-2 : goal.among-requires-2
among-requires-2 d =
    let c = (goal.at.among-requires-2 d).After-struct_told-2-1 in
    let s = start c in
    let r = ranged s in
    record { rows = (weq (first-row c) (wle tt (least_bounded (ys s) r.y)), weq (last_row c) (wle tt (greatest_bounded (ys s) r.y))); places = (s.requires.window.1, s.requires.window.3) }

-- what the two comparisons show
pub returns : goal.returns
returns c e =
    let t = (goal.at.returns c).After-struct_told-2-1 in record {
      columns = rw (first-column t, last-column t) at (c.among.ensures (and_left c.among.result c.among-2.result e));
      rows = rw (first-row t, last_row t) at (c.among-2.ensures (and_right c.among.result c.among-2.result e));
    }
