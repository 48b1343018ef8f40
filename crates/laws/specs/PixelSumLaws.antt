-- Laws: in whole numbers a sum by runs is the sum one by one, for every f: so it sums exactly the pixels at which the test holds, each once.
-- And the steps of the loops that work the two sums out.
use Rattle.std.specs.Prelude.{Bool, cond, ◌≡◌, [], ◌∷◌, ℤ, pos}
use Rattle.std.proofs.Math.Bool.{true, false}
use Rattle.std.proofs.Math.Path.{refl, sym, ap}
use Rattle.std.proofs.Common.{◌∙◌, arith}
use Prim.Native.Nat.{ℕ, zero, suc, ◌+◌, ◌≤◌, ◌<◌}
use Rattle.std.proofs.Math.Numerals.{add-one}
use Rattle.std.proofs.Math.Decide.{dec_le}
use Rattle.std.proofs.Math.IntN.{◌+ℤ◌, ◌-ℤ◌}
use Rattle.laws.specs.Poly.{x, ◌⊞◌, ◌⊟◌, ring}
use Rattle.laws.specs.Before.{before}
use Rattle.laws.specs.Ends.{Ends, none, ends, grow, ends_of}
use Rattle.laws.specs.EndsLaws.{Ended, ended, ended_unique, Convex}
use Rattle.laws.specs.PixelSums.{add_span, span_sum, point_row, point_sum}

module _ (p : ℕ → Bool) (f : ℕ → ℤ) (v : Convex p) where
  abbrev B : ℕ → ℤ
  B = before (pos 0) ◌+ℤ◌ f

  abbrev R : ℕ → ℤ → ℤ
  R = point_row (pos 0) ◌+ℤ◌ ◌-ℤ◌ f p

  abbrev S : Ends → ℤ → ℤ
  S = add_span (pos 0) ◌+ℤ◌ ◌-ℤ◌ B

  touching : (n l r : ℕ) → p n ≡ true → Ended p n (ends l r) → r + 1 ≡ n
  touching n l r h g = by (dec_le n (r + 1))
    where
      by : Dec (n ≤ r + 1) → r + 1 ≡ n
      by (yes a) = omega (arith, g.1)
      by (no a) = absurd (omega (arith, (g.4 (r + 1) (omega arith) (v l (r + 1) n (omega (arith, g.0)) (omega arith) g.2 h)).1))

  more : (n : ℕ) (s t : ℤ) (b : Bool) → p n ≡ b → (e : Ends) → Ended p n e → t ≡ S e s → cond b (t +ℤ f n) t ≡ S (grow b n e) s
  unfolding before
  more n s t false h e g q = q
  more n s t true h none g q =
      rw add-one (ap (λ (z : ℤ). z +ℤ f n) q ∙ ring (s ∷ f n ∷ B n ∷ []) (x 0 ⊞ x 1) (x 0 ⊞ ((x 2 ⊞ x 1) ⊟ x 2)) tt)
  more n s t true h (ends l r) g q =
      rw (add-one n)
      (ap (λ (z : ℤ). z +ℤ f n) (q ∙ ap (λ (i : ℕ). s +ℤ (B i -ℤ B l)) (touching n l r h g))
      ∙ ring (s ∷ f n ∷ B n ∷ B l ∷ []) (x 0 ⊞ (x 2 ⊟ x 3) ⊞ x 1) (x 0 ⊞ ((x 2 ⊞ x 1) ⊟ x 3)) tt)

  pub row_exact : (n : ℕ) (s : ℤ) → R n s ≡ S (ends_of p n) s
  unfolding point_row ends_of
  row_exact zero s = refl
  row_exact (suc n) s = more n s (R n s) (p n) refl (ends_of p n) (ended p n) (row_exact n s)

-- the whole picture: the span sum over prefix sums of f is the sum of f over the pixels at which p holds, each once, in row order
module _ (p : ℕ → ℕ → Bool) (w : ℕ) (v : (y : ℕ) → Convex (λ x. p x y)) (f : ℕ → ℕ → ℤ) where
  pub spans_are_points : (h : ℕ)
      → span_sum (pos 0) ◌+ℤ◌ ◌-ℤ◌ (λ y. before (pos 0) ◌+ℤ◌ (f y)) p w h ≡ point_sum (pos 0) ◌+ℤ◌ ◌-ℤ◌ f p w h
  unfolding point_sum span_sum
  spans_are_points zero = refl
  spans_are_points (suc y) =
      ap (add_span (pos 0) ◌+ℤ◌ ◌-ℤ◌ (before (pos 0) ◌+ℤ◌ (f y)) (ends_of (λ i. p i y) w)) (spans_are_points y)
      ∙ sym (row_exact (λ i. p i y) (f y) (v y) w (point_sum (pos 0) ◌+ℤ◌ ◌-ℤ◌ f p w y))

-- ---- the loops' steps, over any kind of number
module _ {E : Type 0} (nothing : E) (plus minus : E → E → E) where
  pub span_step : (place : ℕ → ℕ → E) (p : ℕ → ℕ → Bool) (w y : ℕ)
      → span_sum nothing plus minus place p w (y + 1)
      ≡ add_span nothing plus minus (place y) (ends_of (λ i. p i y) w) (span_sum nothing plus minus place p w y)
  unfolding span_sum
  span_step place p w y = rw add-one refl

  -- rows without a pixel add nothing
  pub span_skip : (place : ℕ → ℕ → E) (p : ℕ → ℕ → Bool) (w a k : ℕ)
      → ((y : ℕ) → a ≤ y → y < a + k → ends_of (λ i. p i y) w ≡ none)
      → span_sum nothing plus minus place p w (a + k) ≡ span_sum nothing plus minus place p w a
  span_skip place p w a zero h = ap (span_sum nothing plus minus place p w) (omega arith)
  span_skip place p w a (suc k) h =
      let e : a + suc k ≡ a + k + 1 = omega arith in
      ap (span_sum nothing plus minus place p w) e
      ∙ span_step place p w (a + k)
      ∙ ap (λ (d : Ends). add_span nothing plus minus (place (a + k)) d (span_sum nothing plus minus place p w (a + k))) (h (a + k) (omega arith) (omega arith))
      ∙ span_skip place p w a k (λ y g l. h y g (omega arith))
