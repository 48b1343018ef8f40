-- Laws: sums over the pixels of a picture at which a test holds are those over the stamp, where all of them lie in its window.
use Rattle.std.specs.Prelude.{◌≡◌, ℕ, zero, suc, ◌+◌, ◌-◌, ◌*◌, ◌/◌, ◌%◌, ◌<◌, ◌≤◌, max, Bool, true, false, cond, ◌⊎◌, ◌==◌, ◌≢◌, nat_eq}
use Rattle.std.proofs.Math.Path.{refl, sym, ap, ap₂}
use Rattle.std.proofs.Common.{◌∙◌, inl, inr, ⊎_elim}
use native.Mathlib.Omega.{arith}
use Rattle.laws.specs.Bools.{true_or_false}
use Rattle.laws.specs.Ends.{Ends, none, ends, ends_of, bit}
use Rattle.laws.specs.EndsLaws.{Ended, ended, ended_unique}
use Rattle.laws.specs.RunPlaces.{ends_same}
use Rattle.laws.specs.PixelSums.{add_span, span_sum, point_row, point_sum}
use Rattle.laws.specs.RowFold.{rows_from}
use Rattle.laws.specs.RowFoldLaws.{rows_split, rows_still, rows-window, rows_same, point_rows, span_rows}
use Rattle.stamp.specs.Stamp.{digits_from, stamp_of}
use Rattle.stamp.specs.Digits.{InWindow, digit_is, moved, row_ends, digit_steps, row_steps}
use Rattle.stamp.specs.DigitLaws.{steps_test, digit_is_lem, row_steps-test}

-- ---- steps one after another
module _ {E : Type 0} where
  -- counted from 0
  rows-from : (f : ℕ → E → E) (a k : ℕ) (s : E) → rows_from (λ j. f (a + j)) 0 k s ≡ rows_from f a k s
  unfolding rows_from
  rows-from f a zero s = refl
  rows-from f a (suc k) s = let e : a + (0 + k) ≡ a + k = omega arith in rw e (ap (f (a + k)) (rows-from f a k s))

  -- eight at a time
  eights : (g : ℕ → ℕ → E → E) (n : ℕ) (s : E) → rows_from (λ i. g (i % 8) (i / 8)) 0 (n * 8) s ≡ rows_from (λ k. rows_from (λ j. g j k) 0 8) 0 n s
  unfolding rows_from
  eights g zero s = refl
  eights g (suc n) s =
      let e : suc n * 8 ≡ n * 8 + 8 = omega arith in
      let z : 0 + n * 8 ≡ n * 8 = omega arith in
      let o : 0 + n ≡ n = omega arith in
      ap (λ (m : ℕ). rows_from (λ i. g (i % 8) (i / 8)) 0 m s) e
      ∙ sym (rows_split (λ i. g (i % 8) (i / 8)) 0 (n * 8) 8 s)
      ∙ ap (λ (a : ℕ). rows_from (λ i. g (i % 8) (i / 8)) a 8 (rows_from (λ i. g (i % 8) (i / 8)) 0 (n * 8) s)) z
      ∙ sym (rows-from (λ i. g (i % 8) (i / 8)) (n * 8) 8 _)
      ∙ rows_same (λ j. g ((n * 8 + j) % 8) ((n * 8 + j) / 8)) (λ j. g j n) 0 8 _ (λ j a b t. one j (omega arith) t)
      ∙ rw o (ap (rows_from (λ j. g j n) 0 8) (eights g n s))
    where
      one : (j : ℕ) → j < 8 → (t : E) → g ((n * 8 + j) % 8) ((n * 8 + j) / 8) t ≡ g j n t
      one j l t =
          let a : (n * 8 + j) % 8 ≡ j = omega arith in
          let b : (n * 8 + j) / 8 ≡ n = omega arith in
          ap₂ (λ (x y : ℕ). g x y t) a b

  -- where only some of the first h change something
  pub rows-over : (f : ℕ → E → E) (top k h : ℕ) (s : E) → ((y : ℕ) → (y < top) ⊎ ((top + k ≤ y) ⊎ (h ≤ y)) → (t : E) → f y t ≡ t) → rows_from f top k s ≡ rows_from f 0 h s
  rows-over f top k h s still =
      let n = max h (top + k) in
      let e : top + k - top ≡ k = omega arith in
      let z : 0 + h ≡ h = omega arith in
      let o : h + (n - h) ≡ n = omega arith in
      ap (λ (m : ℕ). rows_from f top m s) (sym e)
      ∙ rows-window f top (top + k) n s (omega arith) (λ a. omega arith) (λ y l o t. still y (⊎_elim inl (λ g. inr (inl g)) o) t)
      ∙ ap (λ (m : ℕ). rows_from f 0 m s) (sym o)
      ∙ sym (rows_split f 0 h (n - h) s)
      ∙ ap (λ (a : ℕ). rows_from f a (n - h) (rows_from f 0 h s)) z
      ∙ rows_still f h (n - h) (rows_from f 0 h s) (λ y a b t. still y (inr (inr a)) t)

-- ---- one by one
module _ {E : Type 0} (nothing : E) (plus minus : E → E → E) where
  pixel-row : (pixel : ℕ → E) (q : ℕ → Bool) (w : ℕ) (s : E) → point_row nothing plus minus pixel q w s ≡ rows_from (λ x u. cond (q x) (plus u (pixel x)) u) 0 w s
  unfolding point_row rows_from
  pixel-row pixel q zero s = refl
  pixel-row pixel q (suc x) s =
      let e : 0 + x ≡ x = omega arith in
      rw e (ap (λ (u : E). cond (q x) (plus u (pixel x)) u) (pixel-row pixel q x s))

  module _ (pixel : ℕ → ℕ → E) (p : ℕ → ℕ → Bool) (left top w h : ℕ) (v : InWindow p left top w h) where
    not_there : (x y : ℕ) → (p x y ≢ true) → (t : E) → cond (p x y) (plus t (pixel y x)) t ≡ t
    not_there x y n t = ⊎_elim (λ e. absurd (n e)) (λ (e : p x y ≡ false). ap (λ (b : Bool). cond b (plus t (pixel y x)) t) e) (true_or_false (p x y))

    column-window : (y : ℕ) (s : E) → rows_from (λ j u. cond (p (left + j) y) (plus u (pixel y (left + j))) u) 0 8 s ≡ point_row nothing plus minus (pixel y) (λ x. p x y) w s
    column-window y s =
        rows-from (λ x u. cond (p x y) (plus u (pixel y x)) u) left 8 s
        ∙ rows-over (λ x u. cond (p x y) (plus u (pixel y x)) u) left 8 w s (λ x o t. not_there x y (out x o) t)
        ∙ sym (pixel-row (pixel y) (λ x. p x y) w s)
      where
        out : (x : ℕ) → (x < left) ⊎ ((left + 8 ≤ x) ⊎ (w ≤ x)) → p x y ≢ true
        out x o e =
            let c = v.columns x y e in
            ⊎_elim (λ (a : x < left). omega (arith, c.0)) (λ g. ⊎_elim (λ (a : left + 8 ≤ x). omega (arith, c.1)) (λ (a : w ≤ x). omega (arith, c.2)) g) o

    row_out : (y : ℕ) → (y < top) ⊎ ((top + 8 ≤ y) ⊎ (h ≤ y)) → (t : E) → point_row nothing plus minus (pixel y) (λ x. p x y) w t ≡ t
    row_out y o t =
        pixel-row (pixel y) (λ x. p x y) w t
        ∙ rows_still (λ x u. cond (p x y) (plus u (pixel y x)) u) 0 w t (λ x a b u. not_there x y (out x) u)
      where
        out : (x : ℕ) → p x y ≢ true
        out x e =
            let c = v.rows x y e in
            ⊎_elim (λ (a : y < top). omega (arith, c.0)) (λ g. ⊎_elim (λ (a : top + 8 ≤ y). omega (arith, c.1)) (λ (a : h ≤ y). omega (arith, c.2)) g) o

    pub stamp_points_lem : digit_steps (λ i u. plus u (pixel (top + i / 8) (left + i % 8))) 0 64 (stamp_of p left top) nothing ≡ point_sum nothing plus minus pixel p w h
    stamp_points_lem =
        steps_test (λ i u. plus u (pixel (top + i / 8) (left + i % 8))) (λ i. p (left + i % 8) (top + i / 8)) 0 64 nothing
        ∙ eights (λ j k u. cond (p (left + j) (top + k)) (plus u (pixel (top + k) (left + j))) u) 8 nothing
        ∙ rows_same (λ k. rows_from (λ j u. cond (p (left + j) (top + k)) (plus u (pixel (top + k) (left + j))) u) 0 8) (λ k. point_row nothing plus minus (pixel (top + k)) (λ x. p x (top + k)) w) 0 8 nothing
        (λ k a b t. column-window (top + k) t)
        ∙ rows-from (λ y. point_row nothing plus minus (pixel y) (λ x. p x y) w) top 8 nothing
        ∙ rows-over (λ y. point_row nothing plus minus (pixel y) (λ x. p x y) w) top 8 h nothing row_out
        ∙ sym (point_rows nothing plus minus pixel p w h)

-- ---- by runs
-- the ends among eight columns are those of the row
ends-moved : (r : ℕ → Bool) (left w : ℕ) → ((x : ℕ) → r x ≡ true → (left ≤ x) × (x < left + 8) × (x < w)) → moved left (ends_of (λ j. r (left + j)) 8) ≡ ends_of r w
ends-moved r left w v = ended_unique r w (moved left (ends_of (λ j. r (left + j)) 8)) (ends_of r w) (by (ends_of (λ j. r (left + j)) 8) (ended (λ j. r (left + j)) 8)) (ended r w)
  where
    by : (e : Ends) → Ended (λ j. r (left + j)) 8 e → Ended r w (moved left e)
    by none g = λ x l. ⊎_elim (λ (t : r x ≡ true). bad x t) (λ (f : r x ≡ false). f) (true_or_false (r x))
      where
        bad : (x : ℕ) → r x ≡ true → r x ≡ false
        bad x t = let c = v x t in let e : left + (x - left) ≡ x = omega (arith, c.0) in sym (ap r e) ∙ g (x - left) (omega (arith, c.0, c.1))
    by (ends a b) g = (
      omega (arith, g.0),
      (v (left + b) g.3).2,
      g.2,
      g.3,
      λ x l t.
          let c = v x t in
          let e : left + (x - left) ≡ x = omega (arith, c.0) in
          let o = g.4 (x - left) (omega (arith, c.0, c.1)) (ap r e ∙ t) in
          (omega (arith, o.0, c.0), omega (arith, o.1, c.0)),
    )

test_bit : (b : Bool) → (bit b == 1) ≡ b
test_bit true = refl
test_bit false = refl

module _ (p : ℕ → ℕ → Bool) (left top w h : ℕ) (v : InWindow p left top w h) where
  row_is : (k : ℕ) → row_ends left (digits_from (λ i. p (left + i % 8) (top + i / 8)) (k * 8) 8) ≡ ends_of (λ x. p x (top + k)) w
  row_is k =
      ap (moved left) (ends_same (digit_is (digits_from (λ i. p (left + i % 8) (top + i / 8)) (k * 8) 8)) (λ j. p (left + j) (top + k)) 8 one)
      ∙ ends-moved (λ x. p x (top + k)) left w (λ x t. v.columns x (top + k) t)
    where
      one : (j : ℕ) → j < 8 → digit_is (digits_from (λ i. p (left + i % 8) (top + i / 8)) (k * 8) 8) j ≡ p (left + j) (top + k)
      one j l =
          let a : (k * 8 + j) % 8 ≡ j = omega arith in
          let b : (k * 8 + j) / 8 ≡ k = omega arith in
          ap (λ (d : ℕ). nat_eq d 1) (digit_is_lem (λ i. p (left + i % 8) (top + i / 8)) (k * 8) 8 j l)
          ∙ test_bit (p (left + (k * 8 + j) % 8) (top + (k * 8 + j) / 8))
          ∙ ap₂ (λ (x y : ℕ). p (left + x) (top + y)) a b

  module _ {E : Type 0} (nothing : E) (plus minus : E → E → E) (place : ℕ → ℕ → E) where
    pub stamp_spans_lem : row_steps (λ y row s. add_span nothing plus minus (place y) (row_ends left row) s) top 8 (stamp_of p left top) nothing ≡ span_sum nothing plus minus place p w h
    stamp_spans_lem =
        let z : top ≡ top + 0 = omega arith in
        ap (λ (y : ℕ). row_steps (λ y row s. add_span nothing plus minus (place y) (row_ends left row) s) y 8 (stamp_of p left top) nothing) z
        ∙ row_steps-test (λ y row s. add_span nothing plus minus (place y) (row_ends left row) s) (λ i. p (left + i % 8) (top + i / 8)) top 0 8 nothing
        ∙ rows_same (λ k s. add_span nothing plus minus (place (top + k)) (row_ends left (digits_from (λ i. p (left + i % 8) (top + i / 8)) (k * 8) 8)) s) (λ k s. add_span nothing plus minus (place (top + k)) (ends_of (λ x. p x (top + k)) w) s) 0 8 nothing
        (λ k a b t. ap (λ (e : Ends). add_span nothing plus minus (place (top + k)) e t) (row_is k))
        ∙ rows-from (λ y. add_span nothing plus minus (place y) (ends_of (λ x. p x y) w)) top 8 nothing
        ∙ rows-over (λ y. add_span nothing plus minus (place y) (ends_of (λ x. p x y) w)) top 8 h nothing (λ y o t. ap (λ (e : Ends). add_span nothing plus minus (place y) e t) (empty y o))
        ∙ sym (span_rows nothing plus minus place p w h)
      where
        empty : (y : ℕ) → (y < top) ⊎ ((top + 8 ≤ y) ⊎ (h ≤ y)) → ends_of (λ x. p x y) w ≡ none
        empty y o = ended_unique (λ x. p x y) w (ends_of (λ x. p x y) w) none (ended (λ x. p x y) w) (λ x l. ⊎_elim (λ (t : p x y ≡ true). absurd (out x t)) (λ (f : p x y ≡ false). f) (true_or_false (p x y)))
          where
            out : (x : ℕ) → p x y ≢ true
            out x e =
                let c = v.rows x y e in
                ⊎_elim (λ (a : y < top). omega (arith, c.0)) (λ g. ⊎_elim (λ (a : top + 8 ≤ y). omega (arith, c.1)) (λ (a : h ≤ y). omega (arith, c.2)) g) o

-- ---- tests that agree in the picture have the same sums
module _ {E : Type 0} (nothing : E) (plus minus : E → E → E) (p q : ℕ → ℕ → Bool) (w : ℕ) where
  row_agrees : (pixel : ℕ → E) (y n : ℕ) (s : E) → ((x : ℕ) → x < n → p x y ≡ q x y) → point_row nothing plus minus pixel (λ x. p x y) n s ≡ point_row nothing plus minus pixel (λ x. q x y) n s
  unfolding point_row
  row_agrees pixel y zero s e = refl
  row_agrees pixel y (suc n) s e = ap₂ (λ (b : Bool) (t : E). cond b (plus t (pixel n)) t) (e n (omega arith)) (row_agrees pixel y n s (λ x l. e x (omega arith)))

  pub points_agree : (pixel : ℕ → ℕ → E) (h : ℕ) → ((x y : ℕ) → x < w → y < h → p x y ≡ q x y) → point_sum nothing plus minus pixel p w h ≡ point_sum nothing plus minus pixel q w h
  unfolding point_sum
  points_agree pixel zero e = refl
  points_agree pixel (suc y) e =
      ap (point_row nothing plus minus (pixel y) (λ x. p x y) w) (points_agree pixel y (λ x z l m. e x z l (omega arith)))
      ∙ row_agrees (pixel y) y w (point_sum nothing plus minus pixel q w y) (λ x l. e x y l (omega arith))

  pub spans_agree : (place : ℕ → ℕ → E) (h : ℕ) → ((x y : ℕ) → x < w → y < h → p x y ≡ q x y) → span_sum nothing plus minus place p w h ≡ span_sum nothing plus minus place q w h
  unfolding span_sum
  spans_agree place zero e = refl
  spans_agree place (suc y) e =
      ap₂ (add_span nothing plus minus (place y)) (ends_same (λ x. p x y) (λ x. q x y) w (λ x l. e x y l (omega arith))) (spans_agree place y (λ x z l m. e x z l (omega arith)))
