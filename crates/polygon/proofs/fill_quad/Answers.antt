use borrow.Author.Rules.{sfits_of}
use mathlib.Core.Path.{◌≡◌, ◌∙◌, sym, ap, subst}
use mathlib.Core.List.{List}
use Prim.Native.Nat.{ℕ, ◌≤◌}
use native.Mathlib.Omega.{arith}
use lib.IntN.{ℤ, pos, ◌+ℤ◌}
use lib.ListN.{get_or}
use mir.Syntax.{w32, w64}
use mir.Val.{to_z, of_z}
use mir.Facts.{to_z-of_z}
use Rattle.laws.specs.Fit.{bits_zero, bits_nonzero, read}
use Rattle.laws.specs.Bound.{Bounded}
use Rattle.laws.specs.Bounds.{Is, ldr, lit, cast, is+, fits_as, fits+, weq, wfits}
use Rattle.whole.specs.Whole.{ClampI64Says}
use Rattle.whole.specs.WholeLaws.{clamp_is}
use Rattle.polygon.specs.Polygon.{at, side, area2, corners, least_of, greatest_of}
use Rattle.polygon.specs.Steps.{Placed, Room, Signed, Edges, sign_of}
use Rattle.polygon.specs.OneRow.{four}
use Rattle.polygon.specs.StepLaws.{sign_bounded, least_bounded, greatest_bounded, corner_placed}
use Rattle.polygon.specs.FillLaws.{some_area, no_area_none, blank_room, fill_done}
use Rattle.polygon.proofs.fill_quad.Goals as goal
use Rattle.polygon.proofs.fill_quad.Goals.{After-clamp_i64-past, After-edge_of-e3, After-extent_of-rows, After-side-turn, After-sign_of-sign, Start}

-- `polygon::fill_quad` meets its contract: the rows of the box are their runs; the box shows that the rows outside it are empty.

module _ (s : Start) where
  abbrev xs : List ℤ
  xs = (four s.args.x0 s.args.x1 s.args.x2 s.args.x3)

  abbrev ys : List ℤ
  ys = (four s.args.y0 s.args.y1 s.args.y2 s.args.y3)

pub side-turn-requires : goal.side-turn-requires
side-turn-requires s = let p = corner_placed (xs (goal.at.side-turn-requires s).Start) (ys (goal.at.side-turn-requires s).Start) s.requires.corners in record { from = p 0; to = p 1; point = p 2 }

-- the side of the third corner, as the numbers are read
told : (a : After-side-turn) → a.side-turn.result ≡ side (at a.args.x0 a.args.y0) (at a.args.x1 a.args.y1) (at a.args.x2 a.args.y2)
told a =
    simp (to_z-of_z, a.ranges.x0, a.ranges.y0, a.ranges.x1, a.ranges.y1, a.ranges.x2, a.ranges.y2) at a.side-turn.ensures

pub returns-then-turn-eq0 : goal.returns-then-turn-eq0
returns-then-turn-eq0 c =
    c.requires.blank ∙ no_area_none (xs (goal.at.returns-then-turn-eq0 c).Start) (ys (goal.at.returns-then-turn-eq0 c).Start) c.args.w c.args.h (sym (told (goal.at.returns-then-turn-eq0 c).After-side-turn) ∙ bits_zero {w = w64} (sfits_of c.side-turn.type_inv) c.if-turn-eq0.true)

-- the two rows, as they are read
module _ (c : After-extent_of-rows) where
  abbrev from : Start
  from = c.before.before.before.before

  low-is : c.extent_of-rows.result.least ≡ least_of (ys from)
  low-is = let s = from in simp (to_z-of_z, s.ranges.y0, s.ranges.y1, s.ranges.y2, s.ranges.y3) at c.extent_of-rows.ensures.low

  low_read : Is (to_z w32 (of_z w32 c.extent_of-rows.result.least)) (least_of (ys from)) 8191
  low_read = let b = least_bounded (ys from) from.requires.corners.y in ldr {w = w32} (wfits tt (weq low-is b)) low-is b

  high_is : c.extent_of-rows.result.greatest ≡ greatest_of (ys from)
  high_is = let s = from in simp (to_z-of_z, s.ranges.y0, s.ranges.y1, s.ranges.y2, s.ranges.y3) at c.extent_of-rows.ensures.high

  high_read : Is (to_z w32 (of_z w32 c.extent_of-rows.result.greatest)) (greatest_of (ys from)) 8191
  high_read = let b = greatest_bounded (ys from) from.requires.corners.y in ldr {w = w32} (wfits tt (weq high_is b)) high_is b

pub overflow_cast-rows : goal.overflow_cast-rows
overflow_cast-rows c = fits_as tt (low_read (goal.at.overflow_cast-rows c).After-extent_of-rows)

pub overflow_cast-rows-2 : goal.overflow_cast-rows-2
overflow_cast-rows-2 c = fits_as tt (high_read (goal.at.overflow_cast-rows-2 c).After-extent_of-rows)

pub overflow_add-rows : goal.overflow_add-rows
overflow_add-rows c = fits+ tt (cast w64 tt (high_read (goal.at.overflow_add-rows c).After-extent_of-rows)) (lit _)

-- ---- what is known before the rows
module _ (d : After-clamp_i64-past) where
  abbrev reached : After-extent_of-rows
  reached = d.before.before.before.before.before.before

  abbrev start : Start
  start = from reached

  first-is : ClampI64Says (least_of (ys start)) start.args.h d.clamp_i64-first.result
  first-is =
      subst (λ (z : ℤ). ClampI64Says z start.args.h d.clamp_i64-first.result) (cast w64 tt (low_read reached)).is d.clamp_i64-first.ensures

  past_is : ClampI64Says (greatest_of (ys start) +ℤ pos 1) start.args.h d.clamp_i64-past.result
  past_is =
      subst (λ (z : ℤ). ClampI64Says z start.args.h d.clamp_i64-past.result) (is+ w64 tt (cast w64 tt (high_read reached)) (lit (pos 1))).is d.clamp_i64-past.ensures

  past-most : d.clamp_i64-past.result ≤ 256
  past-most = omega (arith, (clamp_is (greatest_of (ys start) +ℤ pos 1) start.args.h d.clamp_i64-past.result past_is).0, start.requires.size.h_high)

-- ---- the sign
signed : (c : After-sign_of-sign) → let s = start c.before in Signed (xs s) (ys s) (to_z w32 (of_z w32 c.sign_of-sign.result))
signed c =
    let area-is = read w64 c.side-turn.result c.side-turn.type_inv ∙ told (reached c.before).before.before.before in
    let apart : of_z w64 c.side-turn.result ≡ 0 → ⊥ = λ e. omega arith in record {
      some = some_area _ (λ z. bits_nonzero w64 apart (told (reached c.before).before.before.before ∙ z));
      is = read w32 c.sign_of-sign.result c.sign_of-sign.type_inv ∙ c.sign_of-sign.ensures ∙ ap sign_of area-is;
    }

-- ---- the edges
turned : (c : After-sign_of-sign) → Bounded 1 (to_z w32 (of_z w32 c.sign_of-sign.result))
turned c = let s = start c.before in weq (signed c).is (sign_bounded (area2 (corners (xs s) (ys s))))

module _ (c : After-sign_of-sign) (i j : ℕ) where
  ends : let s = start c.before in Placed (at (to_z w32 (of_z w32 (get_or (xs s) i (pos 0)))) (to_z w32 (of_z w32 (get_or (ys s) i (pos 0))))) × (Placed (at (to_z w32 (of_z w32 (get_or (xs s) j (pos 0)))) (to_z w32 (of_z w32 (get_or (ys s) j (pos 0))))) × Bounded 1 (to_z w32 (of_z w32 c.sign_of-sign.result)))
  ends = let s = start c.before in let p = corner_placed (xs s) (ys s) s.requires.corners in (p i, (p j, turned c))

pub edge_of-e0-requires : goal.edge_of-e0-requires
edge_of-e0-requires c = let e = ends (goal.at.edge_of-e0-requires c).After-sign_of-sign 0 1 in record { from = e.0; to = e.1.0; sign = e.1.1 }

pub edge_of-e1-requires : goal.edge_of-e1-requires
edge_of-e1-requires c = let e = ends (goal.at.edge_of-e1-requires c).After-sign_of-sign 1 2 in record { from = e.0; to = e.1.0; sign = e.1.1 }

pub edge_of-e2-requires : goal.edge_of-e2-requires
edge_of-e2-requires c = let e = ends (goal.at.edge_of-e2-requires c).After-sign_of-sign 2 3 in record { from = e.0; to = e.1.0; sign = e.1.1 }

pub edge_of-e3-requires : goal.edge_of-e3-requires
edge_of-e3-requires c = let e = ends (goal.at.edge_of-e3-requires c).After-sign_of-sign 3 0 in record { from = e.0; to = e.1.0; sign = e.1.1 }

module _ (c : After-edge_of-e3) where
  abbrev turn : After-sign_of-sign
  turn = c.before.before.before.before

  abbrev outset : Start
  outset = start turn.before

  edges : let s = outset.args in Edges s.x0 s.y0 s.x1 s.y1 s.x2 s.y2 s.x3 s.y3 (to_z w32 (of_z w32 turn.sign_of-sign.result))
      c.edge_of-e0.result c.edge_of-e1.result c.edge_of-e2.result c.edge_of-e3.result
  edges =
      let s = outset.ranges in record {
        one = rw (to_z-of_z s.x0, to_z-of_z s.y0, to_z-of_z s.x1, to_z-of_z s.y1) at c.edge_of-e0.ensures;
        two = rw (to_z-of_z s.x1, to_z-of_z s.y1, to_z-of_z s.x2, to_z-of_z s.y2) at c.edge_of-e1.ensures;
        three = rw (to_z-of_z s.x2, to_z-of_z s.y2, to_z-of_z s.x3, to_z-of_z s.y3) at c.edge_of-e2.ensures;
        four = rw (to_z-of_z s.x3, to_z-of_z s.y3, to_z-of_z s.x0, to_z-of_z s.y0) at c.edge_of-e3.ensures;
      }

pub quad_rows-requires : goal.quad_rows-requires
quad_rows-requires c =
    let g = turn (goal.at.quad_rows-requires c).After-edge_of-e3 in
    let d = g.before in
    let s = start d in
    rw (to_z-of_z s.ranges.x0, to_z-of_z s.ranges.y0, to_z-of_z s.ranges.x1, to_z-of_z s.ranges.y1, to_z-of_z s.ranges.x2, to_z-of_z s.ranges.y2, to_z-of_z s.ranges.x3, to_z-of_z s.ranges.y3) (record { sign = signed g; edges = edges (goal.at.quad_rows-requires c).After-edge_of-e3; columns = s.requires.size.w_high; rows = past-most d; places = subst Room (sym s.requires.blank) blank_room })

pub returns : goal.returns
returns c =
    let g = turn (goal.at.returns c).After-edge_of-e3 in
    let d = g.before in
    let s = start d in
    fill_done (xs s) (ys s) s.requires.corners.same s.args.w s.args.h d.clamp_i64-first.result d.clamp_i64-past.result _
    s.requires.size.h_high (first-is d) (past_is d) (rw (to_z-of_z s.ranges.x0, to_z-of_z s.ranges.y0, to_z-of_z s.ranges.x1, to_z-of_z s.ranges.y1, to_z-of_z s.ranges.x2, to_z-of_z s.ranges.y2, to_z-of_z s.ranges.x3, to_z-of_z s.ranges.y3, s.requires.blank) at c.quad_rows.ensures)
