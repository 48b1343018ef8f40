-- Laws: a step for each row: the loop's turn, rows whose step changes nothing, and the two sums over pixels as such steps.
use Rattle.std.specs.Prelude.{◌≡◌, Bool, cond, ◌⊎◌}
use Rattle.std.proofs.Math.Path.{refl, sym, ap}
use Rattle.std.proofs.Common.{◌∙◌, inl, inr, ⊎_elim, add-zero}
use Rattle.std.proofs.Math.Bool.{true, false}
use Prim.Native.Nat.{ℕ, zero, suc, ◌+◌, ◌-◌, ◌≤◌, ◌<◌, min}
use native.Mathlib.Omega.{arith}
use Rattle.std.proofs.Math.Decide.{dec_le}
use Rattle.laws.specs.Bools.{true_or_false}
use Rattle.laws.specs.Fit.{no_both}
use Rattle.laws.specs.Ends.{ends_of}
use Rattle.laws.specs.EndsLaws.{RunOf}
use Rattle.laws.specs.PixelSums.{add_span, span_sum, point_row, point_sum}
use Rattle.laws.specs.RowFold.{rows_from}

module _ {E : Type 0} (step : ℕ → E → E) where
  pub rows_none : (a : ℕ) (s : E) → rows_from step a 0 s ≡ s
  unfolding rows_from
  rows_none a s = refl

  -- the turn of a loop at row y
  pub rows_more : (a y : ℕ) (s : E) → a ≤ y → step y (rows_from step a (y - a) s) ≡ rows_from step a (y + 1 - a) s
  unfolding rows_from
  rows_more a y s l =
      let e : y + 1 - a ≡ suc (y - a) = omega arith in
      let g : a + (y - a) ≡ y = omega arith in
      rw (e, g) refl

  -- rows one after another
  pub rows_split : (a k j : ℕ) (s : E) → rows_from step (a + k) j (rows_from step a k s) ≡ rows_from step a (k + j) s
  unfolding rows_from
  rows_split a k zero s = ap (λ (n : ℕ). rows_from step a n s) (sym (add-zero k))
  rows_split a k (suc j) s =
      let e : k + suc j ≡ suc (k + j) = omega arith in
      let g : a + k + j ≡ a + (k + j) = omega arith in
      rw (e, g) (ap (step (a + (k + j))) (rows_split a k j s))

  rows-after : (k j : ℕ) (s : E) → rows_from step k j (rows_from step 0 k s) ≡ rows_from step 0 (k + j) s
  rows-after k j s =
      let e : 0 + k ≡ k = omega arith in
      ap (λ (a : ℕ). rows_from step a j (rows_from step 0 k s)) (sym e) ∙ rows_split 0 k j s

  -- rows whose step changes nothing
  pub rows_still : (a k : ℕ) (s : E) → ((y : ℕ) → a ≤ y → y < a + k → (t : E) → step y t ≡ t) → rows_from step a k s ≡ s
  unfolding rows_from
  rows_still a zero s h = refl
  rows_still a (suc k) s h = h (a + k) (omega arith) (omega arith) (rows_from step a k s) ∙ rows_still a k s (λ y g l. h y g (omega arith))

  -- only the rows from top to bottom count
  pub rows-window : (top bottom h : ℕ) (s : E) → top ≤ bottom → (top < bottom → bottom ≤ h)
      → ((y : ℕ) → y < h → (y < top) ⊎ (bottom ≤ y) → (t : E) → step y t ≡ t)
      → rows_from step top (bottom - top) s ≡ rows_from step 0 h s
  rows-window top bottom h s o r still = by (dec_le bottom top)
    where
      side : (y : ℕ) → bottom ≤ top → Dec (top ≤ y) → (y < top) ⊎ (bottom ≤ y)
      side y g (yes q) = inr (omega arith)
      side y g (no q) = inl (omega arith)

      by : Dec (bottom ≤ top) → rows_from step top (bottom - top) s ≡ rows_from step 0 h s
      by (yes g) =
          let z : bottom - top ≡ 0 = omega arith in
          ap (λ (n : ℕ). rows_from step top n s) z ∙ rows_none top s
          ∙ sym (rows_still 0 h s (λ y a b t. still y (omega arith) (side y g (dec_le top y)) t))
      by (no g) =
          let hi = r (omega arith) in
          let e : top + (bottom - top) ≡ bottom = omega arith in
          let f : bottom + (h - bottom) ≡ h = omega arith in
          ap (rows_from step top (bottom - top)) (sym (rows_still 0 top s (λ y a b t. still y (omega arith) (inl (omega arith)) t)))
          ∙ rows-after top (bottom - top) s
          ∙ ap (λ (n : ℕ). rows_from step 0 n s) e
          ∙ sym (rows_still bottom (h - bottom) (rows_from step 0 bottom s) (λ y a b t. still y (omega arith) (inr a) t))
          ∙ rows-after bottom (h - bottom) s
          ∙ ap (λ (n : ℕ). rows_from step 0 n s) f

-- steps that do the same
pub rows_same : {E : Type 0} (f g : ℕ → E → E) (a k : ℕ) (s : E) → ((y : ℕ) → a ≤ y → y < a + k → (t : E) → f y t ≡ g y t)
    → rows_from f a k s ≡ rows_from g a k s
unfolding rows_from
rows_same f g a zero s h = refl
rows_same f g a (suc k) s h = ap (f (a + k)) (rows_same f g a k s (λ y u l. h y u (omega arith))) ∙ h (a + k) (omega arith) (omega arith) (rows_from g a k s)

-- ---- the two sums over pixels
module _ {E : Type 0} (nothing : E) (plus minus : E → E → E) where
  pub span_rows : (place : ℕ → ℕ → E) (p : ℕ → ℕ → Bool) (w h : ℕ)
      → span_sum nothing plus minus place p w h ≡ rows_from (λ y. add_span nothing plus minus (place y) (ends_of (λ x. p x y) w)) 0 h nothing
  unfolding span_sum rows_from
  span_rows place p w zero = refl
  span_rows place p w (suc y) =
      let e : 0 + y ≡ y = omega arith in
      rw e (ap (add_span nothing plus minus (place y) (ends_of (λ x. p x y) w)) (span_rows place p w y))

  pub point_rows : (pixel : ℕ → ℕ → E) (p : ℕ → ℕ → Bool) (w h : ℕ)
      → point_sum nothing plus minus pixel p w h ≡ rows_from (λ y. point_row nothing plus minus (pixel y) (λ x. p x y) w) 0 h nothing
  unfolding point_sum rows_from
  point_rows pixel p w zero = refl
  point_rows pixel p w (suc y) =
      let e : 0 + y ≡ y = omega arith in
      rw e (ap (point_row nothing plus minus (pixel y) (λ x. p x y) w) (point_rows pixel p w y))

  -- a row's pixels are those of its run, one after another
  module _ (pixel : ℕ → E) (q : ℕ → Bool) (n lo hi : ℕ) (r : RunOf q n lo hi) (s : E) where
    low : lo ≤ hi
    low = ⊎_elim (λ a. omega arith) (λ a. omega arith) r.empty

    run_more : (m : ℕ) → m < n → (b : Bool) → q m ≡ b → (t : E) → t ≡ rows_from (λ x u. plus u (pixel x)) lo (min m hi - lo) s
        → cond b (plus t (pixel m)) t ≡ rows_from (λ x u. plus u (pixel x)) lo (min (suc m) hi - lo) s
    unfolding rows_from
    run_more m l true e t i =
        let b = r.back m l e in
        let g : min (suc m) hi - lo ≡ suc (m - lo) = omega (arith, b.0, b.1) in
        let f : min m hi - lo ≡ m - lo = omega (arith, b.0, b.1) in
        let k : lo + (m - lo) ≡ m = omega (arith, b.0) in
        rw (g, k) (ap (λ (u : E). plus u (pixel m)) (i ∙ ap (λ (j : ℕ). rows_from (λ x u. plus u (pixel x)) lo j s) f))
    run_more m l false e t i = i ∙ ap (λ (j : ℕ). rows_from (λ x u. plus u (pixel x)) lo j s) (same (dec_le lo m) (dec_le hi m))
      where
        same : Dec (lo ≤ m) → Dec (hi ≤ m) → min m hi - lo ≡ min (suc m) hi - lo
        same a (yes b) = omega arith
        same (no a) (no b) = omega arith
        same (yes a) (no b) = no_both (r.into m l a (omega arith)) e

    run_to : (m : ℕ) → m ≤ n → point_row nothing plus minus pixel q m s ≡ rows_from (λ x u. plus u (pixel x)) lo (min m hi - lo) s
    unfolding point_row
    run_to zero l = let z : 0 ≡ min 0 hi - lo = omega arith in sym (rows_none (λ x u. plus u (pixel x)) lo s) ∙ ap (λ (j : ℕ). rows_from (λ x u. plus u (pixel x)) lo j s) z
    run_to (suc m) l = run_more m (omega arith) (q m) refl (point_row nothing plus minus pixel q m s) (run_to m (omega arith))

    pub run-pixels : point_row nothing plus minus pixel q n s ≡ rows_from (λ x u. plus u (pixel x)) lo (hi - lo) s
    run-pixels = let e : min n hi - lo ≡ hi - lo = omega (arith, r.high) in run_to n (omega arith) ∙ ap (λ (j : ℕ). rows_from (λ x u. plus u (pixel x)) lo j s) e
