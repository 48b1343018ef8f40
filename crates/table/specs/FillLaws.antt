-- Laws: what the loops over rows leave is the rule's table, number by number.
use Rattle.std.specs.Prelude.{◌≡◌, Bool, ◌&&◌, ◌||◌, ◌⊎◌, List, ◌++◌, ℕ, zero, suc, ◌+◌, ◌-◌, ◌*◌, ◌≤◌, ◌<◌, leb, ltb, take, ℤ, pos, Float}
use Rattle.std.proofs.Math.Path.{refl, sym, ap}
use Rattle.std.proofs.Common.{◌∙◌, inl, inr, ⊎_elim, add-zero, arith, get_or-take, get_or-append-add}
use Rattle.std.proofs.Math.Bool.{true, false, cond, and-false}
use Rattle.std.proofs.Math.ListN.{length, get_or, get_or-append}
use Rattle.std.proofs.Math.Seq.{length-take-le}
use Rattle.std.specs.Int.Signed.{le_z, lt_z}
use Rattle.std.proofs.Math.Decide.{dec_le}
use borrow.Author.Tests.{le-leb, lt-leb, lt-ltb, le-ltb}
use Rattle.std.specs.Float.Ieee.{nan}
use Rattle.laws.specs.F64.{◌⊕◌}
use Rattle.laws.specs.Before.{before}
use Rattle.laws.specs.BeforeLaws.{before_same, before-part}
use Rattle.laws.specs.Rows.{cut, put_rows}
use Rattle.laws.specs.RowLaws.{get_d_cut, length_cut, length-put_rows, cut_inside, cut_outside}
use Rattle.laws.specs.RowSums.{OfTarget, OfCanvas, target_values, target_squares, canvas_values, canvas_squares, products, target_term, canvas_term, target_sum, canvas_sum}
use Rattle.float.specs.Within.{nought}
use Rattle.sums.specs.declared.ShapeSums.{ShapeSums}
use Rattle.sums.specs.Sums.{channel, no_sums, pixel_sums, plus}
use Rattle.rows.specs.Places.{pixel_at, sums_at, target_six, canvas_nine, place_at}
use Rattle.rows.specs.PlaceLaws.{keeps_place, length-row}
use Rattle.table.specs.Layout.{Series, of_target, of_canvas, lane, entry}
use Rattle.table.specs.Table.{f64_sums, picture, Table, redone, Updated}
use Rattle.table.specs.Fills.{row_at}
use Rattle.table.specs.LayoutLaws.{lane-le, at_row}

-- ---- a place

-- the number of a series and a channel among sums
abbrev pub field : Series → ShapeSums → List Float
field (of_target target_values) a = a.s_t
field (of_target target_squares) a = a.s_t2
field (of_canvas canvas_values) a = a.s_c
field (of_canvas canvas_squares) a = a.s_c2
field (of_canvas products) a = a.s_tc

abbrev term : Series → Float → Float → Float
term (of_target s) t c = target_term f64_sums s t
term (of_canvas s) t c = canvas_term f64_sums s t c

-- what holds of each channel of each series
abbrev Three : (ℕ → Type 0) → Type 0
Three P = P 0 × P 1 × P 2

of_three : (P : ℕ → Type 0) → Three P → (ch : ℕ) → ch < 3 → P ch
of_three P a zero c = a.0
of_three P a (suc zero) c = a.1
of_three P a (suc (suc zero)) c = a.2
of_three P a (suc (suc (suc ch))) c = absurd (omega arith)

each : (P : Series → ℕ → Type 0) → Three (P (of_target target_values)) → Three (P (of_target target_squares)) → Three (P (of_canvas canvas_values)) → Three (P (of_canvas canvas_squares)) → Three (P (of_canvas products))
    → (s : Series) (ch : ℕ) → ch < 3 → P s ch
each P t t2 c c2 tc (of_target target_values) = of_three (P (of_target target_values)) t
each P t t2 c c2 tc (of_target target_squares) = of_three (P (of_target target_squares)) t2
each P t t2 c c2 tc (of_canvas canvas_values) = of_three (P (of_canvas canvas_values)) c
each P t t2 c c2 tc (of_canvas canvas_squares) = of_three (P (of_canvas canvas_squares)) c2
each P t t2 c c2 tc (of_canvas products) = of_three (P (of_canvas products)) tc

-- a place holds its sums
in_whole : (a : ShapeSums) (s : Series) (ch : ℕ) → ch < 3 → get_or (target_six a ++ canvas_nine a) (lane s + ch) nan ≡ channel (field s a) ch
in_whole a =
    each (λ s ch. get_or (target_six a ++ canvas_nine a) (lane s + ch) nan ≡ channel (field s a) ch)
    (refl, refl, refl) (refl, refl, refl) (refl, refl, refl) (refl, refl, refl) (refl, refl, refl)

-- the six that stay, and the nine after them
first : (p q : List Float) (i : ℕ) → 6 ≤ length p → i < 6 → get_or (take 6 p ++ q) i nan ≡ get_or p i nan
first p q i m l =
    let e : length (take 6 p) ≡ 6 = length-take-le 6 p m in
    get_or-append (take 6 p) q nan i (omega arith) ∙ get_or-take 6 p i nan l

later : (p q : List Float) (i : ℕ) → length p ≡ 6 → 6 ≤ i → get_or (p ++ q) i nan ≡ get_or q (i - 6) nan
later p q i e l =
    let k : i ≡ length p + (i - 6) = omega arith in
    ap (λ (j : ℕ). get_or (p ++ q) j nan) k ∙ get_or-append-add p q (i - 6) nan

from_six : (s : OfCanvas) (ch : ℕ) → 6 ≤ lane (of_canvas s) + ch
from_six canvas_values ch = omega arith
from_six canvas_squares ch = omega arith
from_six products ch = omega arith

in_nine : (six : List Float) (a : ShapeSums) (s : OfCanvas) (ch : ℕ) → length six ≡ 6 → ch < 3 → get_or (six ++ canvas_nine a) (lane (of_canvas s) + ch) nan ≡ channel (field (of_canvas s) a) ch
in_nine six a s ch e c =
    let l : 6 ≤ lane (of_canvas s) + ch = from_six s ch in
    later six (canvas_nine a) (lane (of_canvas s) + ch) e l
    ∙ sym (later (target_six a) (canvas_nine a) (lane (of_canvas s) + ch) refl l)
    ∙ in_whole a (of_canvas s) ch c

kept_six : (p q : List Float) (s : OfTarget) (ch : ℕ) → 6 ≤ length p → ch < 3 → get_or (take 6 p ++ q) (lane (of_target s) + ch) nan ≡ get_or p (lane (of_target s) + ch) nan
kept_six p q target_values ch m c = first p q (0 + ch) m (omega arith)
kept_six p q target_squares ch m c = first p q (3 + ch) m (omega arith)

-- ---- the sums of a row, channel by channel

none-field : (s : Series) (ch : ℕ) → ch < 3 → channel (field s no_sums) ch ≡ nought
unfolding no_sums
none-field =
    each (λ s ch. channel (field s no_sums) ch ≡ nought)
    (refl, refl, refl) (refl, refl, refl) (refl, refl, refl) (refl, refl, refl) (refl, refl, refl)

plus-field : (a b : ShapeSums) (s : Series) (ch : ℕ) → ch < 3 → channel (field s (plus a b)) ch ≡ channel (field s a) ch ⊕ channel (field s b) ch
unfolding plus
plus-field a b =
    each (λ s ch. channel (field s (plus a b)) ch ≡ channel (field s a) ch ⊕ channel (field s b) ch)
    (refl, refl, refl) (refl, refl, refl) (refl, refl, refl) (refl, refl, refl) (refl, refl, refl)

pixel-field : (target canvas : List Float) (i : ℕ) (s : Series) (ch : ℕ) → ch < 3
    → channel (field s (pixel_at target canvas i)) ch ≡ term s (get_or target (i * 3 + ch) nan) (get_or canvas (i * 3 + ch) nan)
unfolding pixel_sums
pixel-field target canvas i s ch c = by s ch c
  where
    z : i * 3 + 0 ≡ i * 3
    z = add-zero (i * 3)

    at0 : (s : Series) → channel (field s (pixel_at target canvas i)) 0 ≡ term s (get_or target (i * 3) nan) (get_or canvas (i * 3) nan) → channel (field s (pixel_at target canvas i)) 0 ≡ term s (get_or target (i * 3 + 0) nan) (get_or canvas (i * 3 + 0) nan)
    at0 s e = e ∙ ap (λ (j : ℕ). term s (get_or target j nan) (get_or canvas j nan)) (sym z)

    by : (s : Series) (ch : ℕ) → ch < 3 → channel (field s (pixel_at target canvas i)) ch ≡ term s (get_or target (i * 3 + ch) nan) (get_or canvas (i * 3 + ch) nan)
    by =
        each (λ s ch. channel (field s (pixel_at target canvas i)) ch ≡ term s (get_or target (i * 3 + ch) nan) (get_or canvas (i * 3 + ch) nan))
        (at0 (of_target target_values) refl, refl, refl)
        (at0 (of_target target_squares) refl, refl, refl)
        (at0 (of_canvas canvas_values) refl, refl, refl)
        (at0 (of_canvas canvas_squares) refl, refl, refl)
        (at0 (of_canvas products) refl, refl, refl)

-- the running sums of a row are, in each series and channel, that series' ordered sum
row-sums : (target canvas : List Float) (s : Series) (ch x : ℕ) → ch < 3
    → channel (field s (sums_at target canvas x)) ch ≡ before nought ◌⊕◌ (λ i. term s (get_or target (i * 3 + ch) nan) (get_or canvas (i * 3 + ch) nan)) x
unfolding sums_at
row-sums target canvas s ch x c =
    before-part no_sums plus nought ◌⊕◌ (λ a. channel (field s a) ch) (none-field s ch c) (λ a b. plus-field a b s ch c) (pixel_at target canvas) x
    ∙ before_same nought ◌⊕◌ _ _ x (λ i l. pixel-field target canvas i s ch c)

-- ---- a row of the table

abbrev pub sum_of : ℕ → List Float → List Float → Series → ℕ → ℕ → ℕ → Float
sum_of w target canvas (of_target s) ch y x = target_sum f64_sums (picture w target) s ch y x
sum_of w target canvas (of_canvas s) ch y x = canvas_sum f64_sums (picture w target) (picture w canvas) s ch y x

cell : (w y i ch : ℕ) (p : List Float) → i < w → ch < 3 → get_or (cut (w * 3) y p) (i * 3 + ch) nan ≡ picture w p ch y i
cell w y i ch p l c =
    let e : y * (w * 3) + (i * 3 + ch) ≡ (y * w + i) * 3 + ch = omega arith in
    get_d_cut (w * 3) y (i * 3 + ch) p nan (omega arith) ∙ ap (λ (j : ℕ). get_or p j nan) e

pub row_rule : (w : ℕ) (target canvas : List Float) (s : Series) (ch y x : ℕ) → ch < 3 → x ≤ w
    → channel (field s (sums_at (cut (w * 3) y target) (cut (w * 3) y canvas) x)) ch ≡ sum_of w target canvas s ch y x
unfolding target_sum canvas_sum
row_rule w target canvas (of_target s) ch y x c m =
    row-sums (cut (w * 3) y target) (cut (w * 3) y canvas) (of_target s) ch x c
    ∙ before_same nought ◌⊕◌ _ _ x (λ i l. ap (target_term f64_sums s) (cell w y i ch target (omega arith) c))
row_rule w target canvas (of_canvas s) ch y x c m =
    row-sums (cut (w * 3) y target) (cut (w * 3) y canvas) (of_canvas s) ch x c
    ∙ before_same nought ◌⊕◌ _ _ x
    (λ i l. ap (λ t. canvas_term f64_sums s t (get_or (cut (w * 3) y canvas) (i * 3 + ch) nan)) (cell w y i ch target (omega arith) c)
    ∙ ap (canvas_term f64_sums s (picture w target ch y i)) (cell w y i ch canvas (omega arith) c))

-- an entry, in its place of its row
entry-cut : (w : ℕ) (t : List Float) (s : Series) (ch y x : ℕ) → ch < 3 → x ≤ w
    → entry w t s ch y x ≡ get_or (cut 15 x (cut ((w + 1) * 15) y t)) (lane s + ch) nan
unfolding entry
entry-cut w t s ch y x c m =
    let l : lane s + ch < 15 = omega (arith, lane-le s) in
    ap (λ (i : ℕ). get_or t i nan) (at_row w s ch y x)
    ∙ sym (get_d_cut ((w + 1) * 15) y (x * 15 + (lane s + ch)) t nan (omega arith))
    ∙ sym (get_d_cut 15 x (lane s + ch) (cut ((w + 1) * 15) y t) nan l)

module _ (whole : Bool) (w h : ℕ) (target canvas t : List Float) (e : length t ≡ h * ((w + 1) * 15)) (lo hi : ℕ) (p : lo ≤ hi) (q : hi ≤ h) where
  keeps : (y : ℕ) → y < h → (r : List Float) → length r ≡ (w + 1) * 15 → length (row_at whole w target canvas y r) ≡ (w + 1) * 15
  unfolding row_at
  keeps y l r f = length-row (cut (w * 3) y target) (cut (w * 3) y canvas) whole w r f

  -- rows lo to hi, redone
  abbrev after : List Float
  after = put_rows ((w + 1) * 15) (row_at whole w target canvas) lo hi t

  after-size : length after ≡ h * ((w + 1) * 15)
  after-size = length-put_rows ((w + 1) * 15) h (row_at whole w target canvas) keeps lo hi t p q e

  -- another row is as it was
  outside_entry : (s : Series) (ch y x : ℕ) → ch < 3 → y < h → x ≤ w → (y < lo) ⊎ (hi ≤ y) → entry w after s ch y x ≡ entry w t s ch y x
  outside_entry s ch y x c l m o =
      entry-cut w after s ch y x c m
      ∙ ap (λ r. get_or (cut 15 x r) (lane s + ch) nan) (cut_outside ((w + 1) * 15) h (row_at whole w target canvas) keeps lo hi y t p q e o)
      ∙ sym (entry-cut w t s ch y x c m)

  module _ (y x : ℕ) (l : y < h) (m : x ≤ w) (a : lo ≤ y) (b : y < hi) where
    inside-place : cut 15 x (cut ((w + 1) * 15) y after) ≡ place_at whole (cut (w * 3) y target) (cut (w * 3) y canvas) x (cut 15 x (cut ((w + 1) * 15) y t))
    unfolding row_at
    inside-place =
        let tr = cut (w * 3) y target in
        let cr = cut (w * 3) y canvas in
        ap (cut 15 x) (cut_inside ((w + 1) * 15) h (row_at whole w target canvas) keeps lo hi y t q e a b)
        ∙ cut_inside 15 (w + 1) (place_at whole tr cr) (keeps_place tr cr whole w) 0 (w + 1) x (cut ((w + 1) * 15) y t) (omega arith) (length_cut ((w + 1) * 15) y h t e l) (omega arith) (omega arith)

    long : 6 ≤ length (cut 15 x (cut ((w + 1) * 15) y t))
    long = omega (arith, length_cut 15 x (w + 1) (cut ((w + 1) * 15) y t) (length_cut ((w + 1) * 15) y h t e l) (omega arith))

    -- a redone row: the canvas's sums afresh; the target's too, or as they were
    canvas-entry : (s : OfCanvas) (ch : ℕ) → ch < 3 → entry w after (of_canvas s) ch y x ≡ sum_of w target canvas (of_canvas s) ch y x
    unfolding place_at
    canvas-entry s ch c =
        entry-cut w after (of_canvas s) ch y x c m
        ∙ ap (λ r. get_or r (lane (of_canvas s) + ch) nan) inside-place
        ∙ in_nine (cond whole (target_six (sums_at (cut (w * 3) y target) (cut (w * 3) y canvas) x)) (take 6 (cut 15 x (cut ((w + 1) * 15) y t)))) (sums_at (cut (w * 3) y target) (cut (w * 3) y canvas) x) s ch (six_long whole) c
        ∙ row_rule w target canvas (of_canvas s) ch y x c m
      where
        six_long : (v : Bool) → length (cond v (target_six (sums_at (cut (w * 3) y target) (cut (w * 3) y canvas) x)) (take 6 (cut 15 x (cut ((w + 1) * 15) y t)))) ≡ 6
        six_long true = refl
        six_long false = length-take-le 6 (cut 15 x (cut ((w + 1) * 15) y t)) long

    target_entry : (s : OfTarget) (ch : ℕ) → ch < 3 → entry w after (of_target s) ch y x ≡ cond whole (sum_of w target canvas (of_target s) ch y x) (entry w t (of_target s) ch y x)
    unfolding place_at
    target_entry s ch c =
        entry-cut w after (of_target s) ch y x c m
        ∙ ap (λ r. get_or r (lane (of_target s) + ch) nan) inside-place
        ∙ by whole
      where
        by : (v : Bool) → get_or (cond v (target_six (sums_at (cut (w * 3) y target) (cut (w * 3) y canvas) x)) (take 6 (cut 15 x (cut ((w + 1) * 15) y t))) ++ canvas_nine (sums_at (cut (w * 3) y target) (cut (w * 3) y canvas) x)) (lane (of_target s) + ch) nan
            ≡ cond v (sum_of w target canvas (of_target s) ch y x) (entry w t (of_target s) ch y x)
        by true = in_whole (sums_at (cut (w * 3) y target) (cut (w * 3) y canvas) x) (of_target s) ch c ∙ row_rule w target canvas (of_target s) ch y x c m
        by false = kept_six (cut 15 x (cut ((w + 1) * 15) y t)) (canvas_nine (sums_at (cut (w * 3) y target) (cut (w * 3) y canvas) x)) s ch long c ∙ sym (entry-cut w t (of_target s) ch y x c m)

-- all rows, all fifteen: the table
pub built : (w h : ℕ) (target canvas t : List Float) → length t ≡ h * ((w + 1) * 15) → Table w h target canvas (put_rows ((w + 1) * 15) (row_at true w target canvas) 0 h t)
built w h target canvas t e = record {
  size = after-size true w h target canvas t e 0 h (omega arith) (omega arith) ∙ omega arith;
  targets = λ s ch y x c l m. target_entry true w h target canvas t e 0 h (omega arith) (omega arith) y x l m (omega arith) l s ch c;
  canvases = λ s ch y x c l m. canvas-entry true w h target canvas t e 0 h (omega arith) (omega arith) y x l m (omega arith) l s ch c;
}

-- rows lo to hi, the nine: the update of the rows that lo and hi leave between them
module _ (w h : ℕ) (target canvas t : List Float) (e : length t ≡ h * ((w + 1) * 15)) (lo hi : ℕ) (p : lo ≤ hi) (q : hi ≤ h)
    (ymin ymax : ℤ) (below : (y : ℕ) → y < hi → leb lo y ≡ le_z ymin (pos y)) (above : (y : ℕ) → y < h → ltb y hi ≡ lt_z ymax (pos 0) || le_z (pos y) ymax) where
  inside : (y : ℕ) → y < h → lo ≤ y → y < hi → redone ymin ymax y ≡ true
  unfolding redone
  inside y l a b =
      ap (λ z. z && (lt_z ymax (pos 0) || le_z (pos y) ymax)) (sym (below y b) ∙ le-leb lo y a) ∙ sym (above y l) ∙ lt-ltb y hi b

  outside : (y : ℕ) → y < h → (y < lo) ⊎ (hi ≤ y) → redone ymin ymax y ≡ false
  unfolding redone
  outside y l (inl o) = ap (λ z. z && (lt_z ymax (pos 0) || le_z (pos y) ymax)) (sym (below y (omega arith)) ∙ lt-leb lo y o)
  outside y l (inr o) = ap (λ z. le_z ymin (pos y) && z) (sym (above y l) ∙ le-ltb y hi o) ∙ and-false (le_z ymin (pos y))

  where_is : (y : ℕ) → ((lo ≤ y) × (y < hi)) ⊎ ((y < lo) ⊎ (hi ≤ y))
  where_is y = elim (dec_le lo y) [
    | no a ↦ inr (inl (omega arith))
    | yes a ↦ elim (dec_le hi y) [
      | yes b ↦ inr (inr b)
      | no b ↦ inl (a, omega arith)
    ]
  ]

  pub updated : Updated w h target canvas ymin ymax t (put_rows ((w + 1) * 15) (row_at false w target canvas) lo hi t)
  updated = record {
    size = after-size false w h target canvas t e lo hi p q ∙ sym e;
    targets = λ s ch y x c l m. ⊎_elim (λ i. target_entry false w h target canvas t e lo hi p q y x l m i.0 i.1 s ch c) (λ o. outside_entry false w h target canvas t e lo hi p q (of_target s) ch y x c l m o) (where_is y);
    canvases = λ s ch y x c l m.
        ⊎_elim
        (λ i. canvas-entry false w h target canvas t e lo hi p q y x l m i.0 i.1 s ch c ∙ ap (λ b. cond b (sum_of w target canvas (of_canvas s) ch y x) (entry w t (of_canvas s) ch y x)) (sym (inside y l i.0 i.1)))
        (λ o. outside_entry false w h target canvas t e lo hi p q (of_canvas s) ch y x c l m o ∙ ap (λ b. cond b (sum_of w target canvas (of_canvas s) ch y x) (entry w t (of_canvas s) ch y x)) (sym (outside y l o)))
        (where_is y);
  }
