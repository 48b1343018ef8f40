-- Laws: what is read at a place's indexes are its entries; place x of row y of the table is the sums of the pixels before x.
use Rattle.std.specs.Prelude.{◌≡◌, refl, List, ℕ, zero, suc, ◌+◌, ◌-◌, ◌*◌, ◌≤◌, ◌<◌, get_or, Float}
use Rattle.std.proofs.Common.{sym, ap, ◌∙◌, add-zero}
use native.Mathlib.Omega.{arith}
use Rattle.std.specs.Float.{nan}
use Rattle.laws.specs.Before.{before}
use Rattle.laws.specs.BeforeLaws.{before_same}
use Rattle.laws.specs.Rows.{cut}
use Rattle.laws.specs.RowLaws.{get_d_cut}
use Rattle.laws.specs.RowSums.{target_values, target_squares, canvas_values, canvas_squares, products}
use Rattle.sums.specs.declared.ShapeSums.{ShapeSums}
use Rattle.sums.specs.Sums.{three, channel, no_sums, pixel_sums, plus, minus}
use Rattle.rows.specs.Places.{pixel_at, sums_at}
use Rattle.rows.specs.PlaceLaws.{sums-count}
use Rattle.table.specs.Layout.{Series, of_target, of_canvas, lane, at, entry, place_of}
use Rattle.table.specs.Table.{Table}
use Rattle.table.specs.FillLaws.{field, row_rule}

pub series-read : (w : ℕ) (table : List Float) (s : Series) (y x : ℕ)
    → three (get_or table ((y * (w + 1) + x) * 15 + lane s) nan) (get_or table ((y * (w + 1) + x) * 15 + lane s + 1) nan) (get_or table ((y * (w + 1) + x) * 15 + lane s + 2) nan)
    ≡ three (entry w table s 0 y x) (entry w table s 1 y x) (entry w table s 2 y x)
unfolding entry at
series-read w table s y x =
    ap (λ (i : ℕ). three (get_or table i nan) (get_or table ((y * (w + 1) + x) * 15 + lane s + 1) nan) (get_or table ((y * (w + 1) + x) * 15 + lane s + 2) nan))
    (sym (add-zero ((y * (w + 1) + x) * 15 + lane s)))

pub place-count : (w : ℕ) (table : List Float) (y x : ℕ) → (place_of w table y x).count ≡ x
unfolding place_of
place-count w table y x = refl

pub span_count : (w : ℕ) (table : List Float) (y left right : ℕ) → (minus (place_of w table y right) (place_of w table y left)).count ≡ right - left
unfolding place_of minus
span_count w table y left right = refl

-- ---- a place of the table of target and canvas

-- pixel i of row y
abbrev pub pixel_of : ℕ → List Float → List Float → ℕ → ℕ → ShapeSums
pixel_of w target canvas y i =
    pixel_sums (get_or target ((y * w + i) * 3) nan) (get_or target ((y * w + i) * 3 + 1) nan) (get_or target ((y * w + i) * 3 + 2) nan)
    (get_or canvas ((y * w + i) * 3) nan) (get_or canvas ((y * w + i) * 3 + 1) nan) (get_or canvas ((y * w + i) * 3 + 2) nan)

-- an array of sums has its three numbers
none-three : (s : Series) → field s no_sums ≡ three (channel (field s no_sums) 0) (channel (field s no_sums) 1) (channel (field s no_sums) 2)
unfolding no_sums
none-three (of_target target_values) = refl
none-three (of_target target_squares) = refl
none-three (of_canvas canvas_values) = refl
none-three (of_canvas canvas_squares) = refl
none-three (of_canvas products) = refl

plus-three : (a b : ShapeSums) (s : Series) → field s (plus a b) ≡ three (channel (field s (plus a b)) 0) (channel (field s (plus a b)) 1) (channel (field s (plus a b)) 2)
unfolding plus
plus-three a b (of_target target_values) = refl
plus-three a b (of_target target_squares) = refl
plus-three a b (of_canvas canvas_values) = refl
plus-three a b (of_canvas canvas_squares) = refl
plus-three a b (of_canvas products) = refl

sums-three : (target canvas : List Float) (x : ℕ) (s : Series)
    → field s (sums_at target canvas x) ≡ three (channel (field s (sums_at target canvas x)) 0) (channel (field s (sums_at target canvas x)) 1) (channel (field s (sums_at target canvas x)) 2)
unfolding sums_at before
sums-three target canvas zero s = none-three s
sums-three target canvas (suc x) s = plus-three (sums_at target canvas x) (pixel_at target canvas x) s

module _ (w h : ℕ) (target canvas table : List Float) (t : Table w h target canvas table) (y x : ℕ) (l : y < h) (m : x ≤ w) where
  abbrev sums : ShapeSums
  sums = sums_at (cut (w * 3) y target) (cut (w * 3) y canvas) x

  entry-is : (s : Series) (ch : ℕ) → ch < 3 → entry w table s ch y x ≡ channel (field s sums) ch
  entry-is (of_target s) ch c = t.targets s ch y x c l m ∙ sym (row_rule w target canvas (of_target s) ch y x c m)
  entry-is (of_canvas s) ch c = t.canvases s ch y x c l m ∙ sym (row_rule w target canvas (of_canvas s) ch y x c m)

  series-is : (s : Series) → three (entry w table s 0 y x) (entry w table s 1 y x) (entry w table s 2 y x) ≡ field s sums
  series-is s =
      rw (entry-is s 0 (omega arith), entry-is s 1 (omega arith), entry-is s 2 (omega arith)) (sym (sums-three (cut (w * 3) y target) (cut (w * 3) y canvas) x s))

  in_row : place_of w table y x ≡ sums
  unfolding place_of
  in_row =
      rw (
        series-is (of_target target_values),
        series-is (of_canvas canvas_values),
        series-is (of_target target_squares),
        series-is (of_canvas canvas_squares),
        series-is (of_canvas products),
      ) (ap (λ (n : ℕ). record { s_t = sums.s_t; s_c = sums.s_c; s_t2 = sums.s_t2; s_c2 = sums.s_c2; s_tc = sums.s_tc; count = n }) (sym (sums-count (cut (w * 3) y target) (cut (w * 3) y canvas) x)))

  value : (p : List Float) (i k : ℕ) → i < w → k < 3 → get_or (cut (w * 3) y p) (i * 3 + k) nan ≡ get_or p ((y * w + i) * 3 + k) nan
  value p i k g c =
      let e : y * (w * 3) + (i * 3 + k) ≡ (y * w + i) * 3 + k = omega arith in
      get_d_cut (w * 3) y (i * 3 + k) p nan (omega arith) ∙ ap (λ (j : ℕ). get_or p j nan) e

  value-first : (p : List Float) (i : ℕ) → i < w → get_or (cut (w * 3) y p) (i * 3) nan ≡ get_or p ((y * w + i) * 3) nan
  value-first p i g =
      let e : y * (w * 3) + i * 3 ≡ (y * w + i) * 3 = omega arith in
      get_d_cut (w * 3) y (i * 3) p nan (omega arith) ∙ ap (λ (j : ℕ). get_or p j nan) e

  pub table-place : place_of w table y x ≡ before no_sums plus (pixel_of w target canvas y) x
  unfolding sums_at
  table-place =
      in_row
      ∙ before_same no_sums plus (pixel_at (cut (w * 3) y target) (cut (w * 3) y canvas)) (pixel_of w target canvas y) x
      (λ i g.
      let k : i < w = omega arith in
      rw (
        value-first target i k,
        value target i 1 k (omega arith),
        value target i 2 k (omega arith),
        value-first canvas i k,
        value canvas i 1 k (omega arith),
        value canvas i 2 k (omega arith),
      ) refl)
