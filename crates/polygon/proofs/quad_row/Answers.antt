use native.Mathlib.Omega.{arith}
use mathlib.Core.Path.{subst}
use mathlib.Core.List.{List}
use Prim.Native.Nat.{ℕ, ◌≤◌}
use lib.IntN.{ℤ, pos}
use mir.Facts.{to_z-of_z}
use Rattle.polygon.specs.Polygon.{Point, at}
use Rattle.polygon.specs.Steps.{Kept, Inner, Closed, RowRun}
use Rattle.polygon.specs.OneRow.{four}
use Rattle.polygon.specs.OneRowLaws.{one-corner, four_edges, no_edge}
use Rattle.polygon.proofs.quad_row.Goals as goal
use Rattle.polygon.proofs.quad_row.Goals.{After-cut_row-c, Start}

-- `polygon::quad_row` meets its contract: the columns that are left after four edges, or after three where the third is none.

module _ (s : Start) where
  abbrev xs : List ℤ
  xs = four s.args.x0 s.args.x1 s.args.x2 s.args.x3

  abbrev ys : List ℤ
  ys = four s.args.y0 s.args.y1 s.args.y2 s.args.y3

pub overflow_cast-w : goal.overflow_cast-w
overflow_cast-w c = record { fits = omega (arith, c.requires.columns) }

pub cut_row-a-requires : goal.cut_row-a-requires
cut_row-a-requires s =
    simp (to_z-of_z, s.ranges.x0, s.ranges.y0, s.ranges.x1, s.ranges.y1, s.ranges.sign) (record { edge = s.requires.edges.one; row = s.requires.row; columns = s.requires.columns })

pub cut_row-b-requires : goal.cut_row-b-requires
cut_row-b-requires c =
    simp (to_z-of_z, c.ranges.x1, c.ranges.y1, c.ranges.x2, c.ranges.y2, c.ranges.sign)
    (record { edge = c.requires.edges.two; row = c.requires.row; columns = omega (arith, c.cut_row-a.ensures.within, c.requires.columns) })

pub cut_row-c-requires : goal.cut_row-c-requires
cut_row-c-requires c =
    simp (to_z-of_z, c.ranges.x3, c.ranges.y3, c.ranges.x0, c.ranges.y0, c.ranges.sign)
    (record { edge = c.requires.edges.four; row = c.requires.row; columns = omega (arith, c.cut_row-b.ensures.within, c.cut_row-a.ensures.within, c.requires.columns) })

-- after three edges, the one that may be none
module _ (e : After-cut_row-c) where
  abbrev start : Start
  start = e.before.before.before

  row : (i j left right : ℕ) → Kept (Inner start.args.sign (at start.args.x2 start.args.y2) (at start.args.x3 start.args.y3) (pos start.args.y)) e.cut_row-c.result.left e.cut_row-c.result.right i j
      → Closed i j left right → RowRun (xs start) (ys start) start.args.w start.args.y left right × (left ≤ start.args.w) × (right ≤ start.args.w)
  row i j left right k t =
      let s = start in
      let g = s.args in
      four_edges g.x0 g.y0 g.x1 g.y1 g.x2 g.y2 g.x3 g.y3 g.sign s.requires.sign g.w g.y _ _ _ _ _ _ i j left right
      (simp (to_z-of_z, s.ranges.x0, s.ranges.y0, s.ranges.x1, s.ranges.y1, s.ranges.sign) at e.cut_row-a.ensures)
      (simp (to_z-of_z, s.ranges.x1, s.ranges.y1, s.ranges.x2, s.ranges.y2, s.ranges.sign) at e.cut_row-b.ensures)
      (simp (to_z-of_z, s.ranges.x3, s.ranges.y3, s.ranges.x0, s.ranges.y0, s.ranges.sign) at e.cut_row-c.ensures)
      k t

pub returns-then-x2-x3 : goal.returns-then-x2-x3
returns-then-x2-x3 c =
    let s = start (goal.at.returns-then-x2-x3 c).After-cut_row-c in
    let g = s.args in
    let r = c.cut_row-c.result in
    let last = one-corner s.ranges.x2 s.ranges.x3 s.ranges.y2 s.ranges.y3 c.if-x2-x3.true in
    row (goal.at.returns-then-x2-x3 c).After-cut_row-c _ _ _ _
    (subst (λ (z : Point). Kept (Inner g.sign (at g.x2 g.y2) z (pos g.y)) r.left r.right r.left r.right) last (no_edge g.sign (at g.x2 g.y2) (pos g.y) r.left r.right))
    c.closed.ensures

pub cut_row-d-requires : goal.cut_row-d-requires
cut_row-d-requires c =
    let s = start (goal.at.cut_row-d-requires c).After-cut_row-c in
    simp (to_z-of_z, s.ranges.x2, s.ranges.y2, s.ranges.x3, s.ranges.y3, s.ranges.sign)
    (record { edge = s.requires.edges.three; row = s.requires.row; columns = omega (arith, c.cut_row-c.ensures.within, c.cut_row-b.ensures.within, c.cut_row-a.ensures.within, s.requires.columns) })

pub returns : goal.returns
returns c =
    let s = start (goal.at.returns c).After-cut_row-c in
    row (goal.at.returns c).After-cut_row-c _ _ _ _ (simp (to_z-of_z, s.ranges.x2, s.ranges.y2, s.ranges.x3, s.ranges.y3, s.ranges.sign) at c.cut_row-d.ensures) c.closed-2.ensures
