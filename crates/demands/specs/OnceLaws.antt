-- Laws: a span score sums a covered pixel once and no other; the numbers of one pixel in a sum pixel by pixel.
use Rattle.std.specs.Prelude.{◌≡◌, Bool, true, false, ◌&&◌, [], ◌∷◌, eqb, ℤ, nat_abs}
use Rattle.std.proofs.Math.Path.{refl, ap}
use Rattle.std.proofs.Common.{◌∙◌, arith, eq-eqb, ne_eqb}
use Rattle.std.proofs.Math.Bool.{cond}
use Prim.Native.Nat.{ℕ, zero, suc, ◌≤◌, ◌<◌}
use Rattle.std.proofs.Math.Decide.{ℕ_discrete}
use Rattle.std.proofs.Math.IntN.{pos, ◌+ℤ◌, ◌-ℤ◌}
use Rattle.laws.specs.Poly.{x, c, ◌⊞◌, ring}
use Rattle.laws.specs.PixelSums.{point_row, point_sum}
use Rattle.laws.specs.PixelSumLaws.{spans_are_points}
use Rattle.cover.specs.declared.Kind.{Kind}
use Rattle.cover.specs.Cover.{covered}
use Rattle.cover.specs.CoverLaws.{convex}
use Rattle.demands.specs.PaintCalls.{only, times_summed}

plus_none : (s : ℤ) → s +ℤ pos 0 ≡ s
plus_none s = ring (s ∷ []) (x 0 ⊞ c (pos 0)) (x 0) tt

-- a pixel that counts nothing
skipped : (b : Bool) (s v : ℤ) → v ≡ pos 0 → cond b (s +ℤ v) s ≡ s
skipped true s v e = ap (λ (z : ℤ). s +ℤ z) e ∙ plus_none s
skipped false s v e = refl

-- the only pixel's number, and another's
only_here : (a b : ℕ) → only a b b a ≡ pos 1
only_here a b = rw (eq-eqb b b refl, eq-eqb a a refl) refl

only_row : (a b j i : ℕ) → (j ≡ b → ⊥) → only a b j i ≡ pos 0
only_row a b j i n = rw (ne_eqb j b n) refl

only-column : (a b j i : ℕ) → (i ≡ a → ⊥) → only a b j i ≡ pos 0
only-column a b j i n = by (eqb j b)
  where
    by : (t : Bool) → cond (t && eqb i a) (pos 1) (pos 0) ≡ pos 0
    by true = rw (ne_eqb i a n) refl
    by false = refl

module _ (a b : ℕ) (q : ℕ → Bool) where
  abbrev R : ℕ → ℕ → ℤ → ℤ
  R j n s = point_row (pos 0) ◌+ℤ◌ ◌-ℤ◌ (only a b j) q n s

  -- another row, or the columns before the pixel
  row_other : (j n : ℕ) (s : ℤ) → ((i : ℕ) → i < n → only a b j i ≡ pos 0) → R j n s ≡ s
  unfolding point_row
  row_other j zero s e = refl
  row_other j (suc n) s e = skipped (q n) (R j n s) (only a b j n) (e n (omega arith)) ∙ row_other j n s (λ i l. e i (omega arith))

  -- its own row
  row_own : (n : ℕ) (s : ℤ) → a < n → R b n s ≡ cond (q a) (s +ℤ pos 1) s
  unfolding point_row
  row_own zero s l = absurd (omega arith)
  row_own (suc n) s l = by (ℕ_discrete n a) (row_own n s)
    where
      by : Dec (n ≡ a) → (a < n → R b n s ≡ cond (q a) (s +ℤ pos 1) s) → cond (q n) (R b n s +ℤ only a b b n) (R b n s) ≡ cond (q a) (s +ℤ pos 1) s
      by (yes e) i =
          let o = row_other b n s (λ i g. only-column a b b i (λ h. absurd (omega arith))) in
          ap (λ (z : ℤ). cond (q n) (z +ℤ only a b b n) z) o
          ∙ ap (λ (k : ℕ). cond (q k) (s +ℤ only a b b k) s) e
          ∙ ap (λ (z : ℤ). cond (q a) (s +ℤ z) s) (only_here a b)
      by (no e) i = skipped (q n) (R b n s) (only a b b n) (only-column a b b n e) ∙ i (omega arith)

module _ (p : ℕ → ℕ → Bool) (w a b : ℕ) (m : a < w) where
  abbrev S : ℕ → ℤ
  S h = point_sum (pos 0) ◌+ℤ◌ ◌-ℤ◌ (only a b) p w h

  rows_above : (h : ℕ) → h ≤ b → S h ≡ pos 0
  unfolding point_sum
  rows_above zero l = refl
  rows_above (suc h) l = row_other a b (λ i. p i h) h w (S h) (λ i g. only_row a b h i (λ e. absurd (omega arith))) ∙ rows_above h (omega arith)

  pub points_once : (h : ℕ) → b < h → S h ≡ cond (p a b) (pos 1) (pos 0)
  unfolding point_sum
  points_once zero l = absurd (omega arith)
  points_once (suc h) l = by (ℕ_discrete h b) (points_once h)
    where
      by : Dec (h ≡ b) → (b < h → S h ≡ cond (p a b) (pos 1) (pos 0)) → point_row (pos 0) ◌+ℤ◌ ◌-ℤ◌ (only a b h) (λ i. p i h) w (S h) ≡ cond (p a b) (pos 1) (pos 0)
      by (yes e) i =
          ap (λ (z : ℤ). point_row (pos 0) ◌+ℤ◌ ◌-ℤ◌ (only a b h) (λ i. p i h) w z) (rows_above h (omega arith))
          ∙ ap (λ (k : ℕ). point_row (pos 0) ◌+ℤ◌ ◌-ℤ◌ (only a b k) (λ i. p i k) w (pos 0)) e
          ∙ row_own a b (λ i. p i b) w (pos 0) m
      by (no e) i = row_other a b (λ k. p k h) h w (S h) (λ k g. only_row a b h k e) ∙ i (omega arith)

-- a span score's own rule
pub summed_once : (kind : Kind) (w h a b : ℕ) → a < w → b < h → times_summed kind w h a b ≡ cond (covered kind a b) 1 0
summed_once kind w h a b m l =
    ap nat_abs (spans_are_points (covered kind) w (convex kind) (only a b) h ∙ points_once (covered kind) w a b m h l)
    ∙ by (covered kind a b)
  where
    by : (t : Bool) → nat_abs (cond t (pos 1) (pos 0)) ≡ cond t 1 0
    by true = refl
    by false = refl
