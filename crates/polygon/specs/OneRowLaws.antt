-- Laws: a row from the four edges, one after another; one answer for the promise.
use Rattle.std.specs.Prelude.{◌≡◌, refl, true, ◌&&◌, List, ℕ, zero, suc, ◌≤◌, ◌<◌, eqb, ℤ, pos, ◌≤ℤ◌}
use Rattle.std.proofs.Common.{sym, ap₂, subst, arith, eqb→eq, SFits, of_z}
use Rattle.std.proofs.Math.Decide.{dec_le}
use Rattle.std.specs.Int.{w32}
use Rattle.laws.specs.Parts.{zord}
use Rattle.laws.specs.Bools.{true_is, and_left, and_right}
use Rattle.laws.specs.Fit.{of_z_inj}
use Rattle.polygon.specs.Polygon.{Point, at}
use Rattle.polygon.specs.Sides.{no_side}
use Rattle.polygon.specs.PolygonLaws.{FillRunsSays-unique}
use Rattle.polygon.specs.Steps.{Kept, Inner, First, Closed, Signed, RowRun}
use Rattle.polygon.specs.OneRow.{four, FillQuadSays}
use Rattle.polygon.specs.Around.{first_none, first_more, row_closed}

pub FillQuadSays-unique : (x0 y0 x1 y1 x2 y2 x3 y3 : ℤ) (w h : ℕ) (r s : List ℕ)
    → FillQuadSays x0 y0 x1 y1 x2 y2 x3 y3 w h r → FillQuadSays x0 y0 x1 y1 x2 y2 x3 y3 w h s → r ≡ s
FillQuadSays-unique x0 y0 x1 y1 x2 y2 x3 y3 = FillRunsSays-unique (four x0 x1 x2 x3) (four y0 y1 y2 y3)

closed_within : (n lo hi left right : ℕ) → hi ≤ n → Closed lo hi left right → (left ≤ n) × (right ≤ n)
closed_within n lo hi left right l c = by (dec_le hi lo)
  where
    by : Dec (hi ≤ lo) → (left ≤ n) × (right ≤ n)
    by (yes h) = (omega (arith, (c.none h).0), omega (arith, (c.none h).1))
    by (no h) = let g : lo < hi = omega arith in (omega (arith, (c.some g).0), omega (arith, (c.some g).1))

module _ (x0 y0 x1 y1 x2 y2 x3 y3 sign : ℤ) (g : Signed (four x0 x1 x2 x3) (four y0 y1 y2 y3) sign) (w y : ℕ) where
  abbrev xs : List ℤ
  xs = four x0 x1 x2 x3

  abbrev ys : List ℤ
  ys = four y0 y1 y2 y3

  -- the third edge may come last
  pub four_edges : (a b c d e f i j left right : ℕ) → Kept (Inner sign (at x0 y0) (at x1 y1) (pos y)) 0 w a b → Kept (Inner sign (at x1 y1) (at x2 y2) (pos y)) a b c d
      → Kept (Inner sign (at x3 y3) (at x0 y0) (pos y)) c d e f → Kept (Inner sign (at x2 y2) (at x3 y3) (pos y)) e f i j → Closed i j left right
      → RowRun xs ys w y left right × (left ≤ w) × (right ≤ w)
  four_edges a b c d e f i j left right p q r s t =
      let m : j ≤ w = omega (arith, p.within, q.within, r.within, s.within) in
      let n = closed_within w i j left right m t in
      (row_closed xs ys refl sign g y w i j left right all t, n.0, n.1)
    where
      two : Kept (First xs ys sign (pos y) 2) 0 w c d
      two =
          first_more xs ys refl sign (pos y) 1 0 w a b c d
          (first_more xs ys refl sign (pos y) 0 0 w 0 w a b (first_none xs ys refl sign (pos y) 0 w) p) q

      each : (x : ℕ) → First xs ys sign (pos y) 2 x → Inner sign (at x2 y2) (at x3 y3) (pos y) x → Inner sign (at x3 y3) (at x0 y0) (pos y) x → First xs ys sign (pos y) 4 x
      each x h k l zero b = h 0 (omega arith)
      each x h k l (suc zero) b = h 1 (omega arith)
      each x h k l (suc (suc zero)) b = k
      each x h k l (suc (suc (suc zero))) b = l
      each x h k l (suc (suc (suc (suc n)))) b = absurd (omega arith)

      all : Kept (First xs ys sign (pos y) 4) 0 w i j
      all = record {
        within = omega (arith, p.within, q.within, r.within, s.within);
        to = λ x u v.
            let k = s.to x u v in
            let l = r.to x k.0 (omega (arith, s.within)) in
            let h = two.to x l.0 (omega (arith, s.within, r.within)) in
            (h.0, each x h.1 k.1 l.1);
        from = λ x u v h.
            let k = two.from x u v (λ n b. h n (omega arith)) in
            let l = r.from x k.0 k.1 (h 3 (omega arith)) in
            s.from x l.0 l.1 (h 2 (omega arith));
      }

-- `(a == b) & (e == d)`, as a fact of the two corners
pub one-corner : {a b e d : ℤ} → SFits w32 a → SFits w32 b → SFits w32 e → SFits w32 d → eqb (of_z w32 a) (of_z w32 b) && eqb (of_z w32 e) (of_z w32 d) ≡ true → at a e ≡ at b d
one-corner {a} {b} {e} {d} f g h k once =
    let x = eqb (of_z w32 a) (of_z w32 b) in
    let y = eqb (of_z w32 e) (of_z w32 d) in
    ap₂ at (of_z_inj f g (eqb→eq _ _ (true_is x (and_left x y once)))) (of_z_inj h k (eqb→eq _ _ (true_is y (and_right x y once))))

-- from a corner to itself there is no edge: every column is kept
pub no_edge : (sign : ℤ) (i : Point) (y : ℤ) (lo hi : ℕ) → Kept (Inner sign i i y) lo hi lo hi
no_edge sign i y lo hi = record {
  within = omega arith;
  to = λ x p q. (p, subst (λ (z : ℤ). pos 0 ≤ℤ z) (sym (no_side sign i (at (pos x) y))) (omega (arith, zord)));
  from = λ x p q h. (p, q);
}
