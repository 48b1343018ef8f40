-- Laws: `at` is in range, one to one and onto: a table is known by its entries, and has one place for each.
use Rattle.std.specs.Prelude.{◌≡◌, refl, List, ℕ, zero, suc, ◌+◌, ◌*◌, ◌/◌, ◌%◌, ◌≤◌, ◌<◌, length, get_or, Float}
use Rattle.std.proofs.Math.Path.{sym, ap}
use Rattle.std.proofs.Common.{◌∙◌, div-add-mod', mod-lt, ext_get_or}
use native.Mathlib.Omega.{arith}
use Rattle.std.specs.Float.{nan}
use Rattle.laws.specs.RowLaws.{row-le}
use Rattle.laws.specs.Index.{index_div, index_mod, row_of}
use Rattle.laws.specs.RowSums.{target_values, target_squares, canvas_values, canvas_squares, products}
use Rattle.table.specs.Layout.{Series, of_target, of_canvas, lane, at, entry}

-- the series' number in a place, and back
number : Series → ℕ
number (of_target target_values) = 0
number (of_target target_squares) = 1
number (of_canvas canvas_values) = 2
number (of_canvas canvas_squares) = 3
number (of_canvas products) = 4

named : ℕ → Series
named zero = of_target target_values
named (suc zero) = of_target target_squares
named (suc (suc zero)) = of_canvas canvas_values
named (suc (suc (suc zero))) = of_canvas canvas_squares
named (suc (suc (suc (suc n)))) = of_canvas products

named-number : (s : Series) → named (number s) ≡ s
unfolding named number
named-number (of_target target_values) = refl
named-number (of_target target_squares) = refl
named-number (of_canvas canvas_values) = refl
named-number (of_canvas canvas_squares) = refl
named-number (of_canvas products) = refl

lane-number : (s : Series) → lane s ≡ number s * 3
unfolding number
lane-number (of_target target_values) = refl
lane-number (of_target target_squares) = refl
lane-number (of_canvas canvas_values) = refl
lane-number (of_canvas canvas_squares) = refl
lane-number (of_canvas products) = refl

lane-named : (n : ℕ) → n < 5 → lane (named n) ≡ n * 3
unfolding named
lane-named zero l = refl
lane-named (suc zero) l = refl
lane-named (suc (suc zero)) l = refl
lane-named (suc (suc (suc zero))) l = refl
lane-named (suc (suc (suc (suc zero)))) l = refl
lane-named (suc (suc (suc (suc (suc n))))) l = absurd (omega arith)

pub lane-le : (s : Series) → lane s ≤ 12
lane-le (of_target target_values) = omega arith
lane-le (of_target target_squares) = omega arith
lane-le (of_canvas canvas_values) = omega arith
lane-le (of_canvas canvas_squares) = omega arith
lane-le (of_canvas products) = omega arith

-- in range
pub at_in : (w h : ℕ) (s : Series) (ch y x : ℕ) → ch < 3 → y < h → x ≤ w → at w s ch y x < h * (w + 1) * 15
unfolding at
at_in w h s ch y x c l m = omega (arith, lane-le s, row-le (w + 1) l)

-- the place within its row, and the number within its place
pub at_row : (w : ℕ) (s : Series) (ch y x : ℕ) → at w s ch y x ≡ y * ((w + 1) * 15) + (x * 15 + (lane s + ch))
unfolding at
at_row w s ch y x = omega arith

-- one to one
module _ (w : ℕ) (s t : Series) (ch dh y z x u : ℕ) (c : ch < 3) (d : dh < 3) (m : x ≤ w) (n : u ≤ w) (e : at w s ch y x ≡ at w t dh z u) where
  places : y * (w + 1) + x ≡ z * (w + 1) + u
  unfolding at
  places =
      let p : lane s + ch < 15 = omega (arith, lane-le s) in
      let q : lane t + dh < 15 = omega (arith, lane-le t) in
      let f : (y * (w + 1) + x) * 15 + (lane s + ch) ≡ (z * (w + 1) + u) * 15 + (lane t + dh) = omega arith in
      sym (index_div 15 (y * (w + 1) + x) (lane s + ch) p) ∙ ap (λ (i : ℕ). i / 15) f ∙ index_div 15 (z * (w + 1) + u) (lane t + dh) q

  lanes : number s * 3 + ch ≡ number t * 3 + dh
  unfolding at
  lanes = omega (arith, places, lane-number s, lane-number t)

  pub at-row-only : y ≡ z
  at-row-only = sym (index_div (w + 1) y x (omega arith)) ∙ ap (λ (i : ℕ). i / (w + 1)) places ∙ index_div (w + 1) z u (omega arith)

  pub at-place-only : x ≡ u
  at-place-only = sym (index_mod (w + 1) y x (omega arith)) ∙ ap (λ (i : ℕ). i % (w + 1)) places ∙ index_mod (w + 1) z u (omega arith)

  pub at-series-only : s ≡ t
  at-series-only =
      let k : number s ≡ number t = sym (index_div 3 (number s) ch c) ∙ ap (λ (i : ℕ). i / 3) lanes ∙ index_div 3 (number t) dh d in
      sym (named-number s) ∙ ap named k ∙ named-number t

  pub at-channel-only : ch ≡ dh
  at-channel-only = sym (index_mod 3 (number s) ch c) ∙ ap (λ (i : ℕ). i % 3) lanes ∙ index_mod 3 (number t) dh d

-- onto: what index i holds
pub record Holds (w h i : ℕ) : Type 0 where
  pub series : Series
  pub channel : ℕ
  pub row : ℕ
  pub place : ℕ
  pub channel_in : channel < 3
  pub row_in : row < h
  pub place_in : place ≤ w
  pub index : at w series channel row place ≡ i

pub at_onto : (w h i : ℕ) → i < h * (w + 1) * 15 → Holds w h i
unfolding at
at_onto w h i l =
    let p = i / 15 in
    let k = i % 15 in
    let k< : k < 15 = mod-lt i (omega arith) in
    let p< : p < h * (w + 1) = row_of 15 (h * (w + 1)) i (omega arith) l in
    let three : k / 3 * 3 + k % 3 ≡ k = div-add-mod' k 3 in
    let x< : p % (w + 1) < w + 1 = mod-lt p (omega arith) in
    record {
      series = named (k / 3);
      channel = k % 3;
      row = p / (w + 1);
      place = p % (w + 1);
      channel_in = mod-lt k (omega arith);
      row_in = row_of (w + 1) h p (omega arith) p<;
      place_in = omega arith;
      index = omega (arith, div-add-mod' i 15, div-add-mod' p (w + 1), lane-named (k / 3) (omega arith));
    }

-- so entries that are equal, one by one, make equal tables
pub entries_same : (w h : ℕ) (a b : List Float) → length a ≡ h * (w + 1) * 15 → length b ≡ h * (w + 1) * 15
    → ((s : Series) (ch y x : ℕ) → ch < 3 → y < h → x ≤ w → entry w a s ch y x ≡ entry w b s ch y x) → a ≡ b
unfolding entry
entries_same w h a b m n e = ext_get_or nan a b (m ∙ sym n) by
  where
    by : (i : ℕ) → i < length a → get_or a i nan ≡ get_or b i nan
    by i l =
        let o = at_onto w h i (omega arith) in
        ap (λ (j : ℕ). get_or a j nan) (sym o.index)
        ∙ e o.series o.channel o.row o.place o.channel_in o.row_in o.place_in
        ∙ ap (λ (j : ℕ). get_or b j nan) o.index
