-- Laws: the loops over a stamp, and what they come to.
use Rattle.std.specs.Prelude.{◌≡◌, Bool, true, ◌&&◌, List, leb, ltb, Float}
use Rattle.std.proofs.Math.Path.{refl, ap}
use Rattle.std.proofs.Common.{sym, ◌∙◌, ap₂, subst, pow-suc, mul_comm, mul_assoc, mul-le-mul, mul-le-mul_right, eqb→eq, ltb-true}
use Prim.Native.Nat.{ℕ, zero, suc, ◌+◌, ◌-◌, ◌*◌, ◌/◌, ◌%◌, ◌^◌, ◌≤◌, ◌<◌}
use Rattle.std.proofs.Math.Nat.{div-div-eq-div-mul}
use native.Mathlib.Omega.{arith}
use Rattle.std.proofs.lemmas.Nat.{and_le_l, leading_top}
use Rattle.std.specs.Int.Count.{count_trailing_zeros, count_leading_zeros}
use Rattle.laws.specs.Bools.{true_is, and_right}
use Rattle.laws.specs.Ends.{Ends}
use Rattle.laws.specs.EndsLaws.{Ended, ended}
use Rattle.laws.specs.PixelSums.{add_span}
use Rattle.sums.specs.declared.ShapeSums.{ShapeSums}
use Rattle.sums.specs.Sums.{no_sums, plus, minus}
use Rattle.table.specs.Layout.{place_of}
use Rattle.stamp.specs.Digits.{digit_is, without_first, row_steps}
use Rattle.stamp.specs.DigitLaws.{first, without-digit, steps_none, row_steps-none, digit-test, digits_row_at}
use Rattle.stamp.specs.StampLaws.{digits_below}
use Rattle.stamp.specs.Stamp.{digits_from}
use Rattle.stamp.specs.WindowLaws.{stamp_points_lem, stamp_spans_lem}
use Rattle.cover.specs.declared.Kind.{Kind}
use Rattle.cover.specs.Cover.{covered}
use Rattle.cover.specs.Stamps.{Stamped}
use Rattle.cover.specs.declared.reached.Rows.{Rows}
use Rattle.cover.specs.ReachRows.{ReachRowsSays}
use Rattle.refusal.specs.Refusals.{Sized}
use Rattle.gather.specs.RunSumLaws.{reached_rows, some_reached}
use Rattle.gather.specs.Gathered.{pixel_from, pixel_at, point_sums, span_sums}
use Rattle.stamp.specs.RowLaws.{row-some, row_ends_lem, row_none}
use Rattle.gather.specs.StampSums.{stamp_pixel, stamp_points, StampIn, first_place, stamp_row, stamp_spans, RowIn, RowsIn, AddStampSays, PushStampSays}
use Rattle.gather.specs.declared.points.Paired.{Paired}
use Rattle.gather.specs.Paired.{unpaired_of, UnpairedSays}

pub AddStampSays-unique : (w : ℕ) (table : List Float) (left top bits : ℕ) (r q : ShapeSums) → AddStampSays w table left top bits r → AddStampSays w table left top bits q → r ≡ q
AddStampSays-unique w table left top bits r q f g = f ∙ sym g

-- the numbers of two answers are the same ones
pub PushStampSays-unique : (w : ℕ) (target canvas : List Float) (left top bits : ℕ) (r q : Paired)
    → PushStampSays w target canvas left top bits r → PushStampSays w target canvas left top bits q → unpaired_of r ≡ unpaired_of q
PushStampSays-unique w target canvas left top bits r q f g = f ∙ sym g

pub UnpairedSays-unique : (s : Paired) (r q : ShapeSums) → UnpairedSays s r → UnpairedSays s q → r ≡ q
UnpairedSays-unique s r q f g = f ∙ sym g

-- where a stamp begins
pub corner-small : (left top w : ℕ) → left < 256 → top < 256 → w ≤ 256 → (top * w + left) * 3 ≤ 200000
corner-small left top w l t n =
    let k : top ≤ 255 = omega arith in
    let m = mul-le-mul k n in
    omega (arith, m, l)

-- ---- a loop over the bits that are left
module _ (w : ℕ) (target canvas : List Float) (left top : ℕ) where
  -- the turn of a loop
  pub record Turn (n b : ℕ) (s : ShapeSums) : Type 0 where
    pub inside : count_trailing_zeros 64 b < 64
    pub place : first_place ((top * w + left) * 3) (w * 3) b + 3 ≤ n
    pub less : without_first b < 2 ^ 64
    pub later : suc (count_trailing_zeros 64 b) ≤ count_trailing_zeros 64 (without_first b)
    pub behind : StampIn w left top n (without_first b)
    pub steps : stamp_points w target canvas left top b s ≡ stamp_points w target canvas left top (without_first b) (plus s (pixel_from target canvas (first_place ((top * w + left) * 3) (w * 3) b)))

  placed : (z : ℕ) → ((top + z / 8) * w + (left + z % 8)) * 3 ≡ (top * w + left) * 3 + z / 8 * (w * 3) + z % 8 * 3
  placed z = omega arith

  pub turn : (n b : ℕ) (s : ShapeSums) → b < 2 ^ 64 → 0 < b → StampIn w left top n b → Turn n b s
  turn n b s h p f =
      let z = count_trailing_zeros 64 b in
      let t = first (stamp_pixel w target canvas left top) 64 64 b 0 s (omega arith) h p in
      let e = placed z in
      let g : 0 + z ≡ z = omega arith in record {
        inside = t.inside;
        place = omega (arith, f z t.one, e);
        less = omega (arith, and_le_l b (b - 1), h);
        later = t.later;
        behind = λ j o. f j (without-digit b j o);
        steps = t.steps
            ∙ ap (λ (i : ℕ). stamp_points w target canvas left top (without_first b) (stamp_pixel w target canvas left top i s)) g
            ∙ ap (λ (i : ℕ). stamp_points w target canvas left top (without_first b) (plus s (pixel_from target canvas i))) e;
      }

  pub done : (s : ShapeSums) → stamp_points w target canvas left top 0 s ≡ s
  done s = steps_none (stamp_pixel w target canvas left top) 0 64 s

-- ---- a loop over the rows that are left, from row y on
-- the run of a row that has a pixel
pub record RunIn (w left row : ℕ) : Type 0 where
  pub some : count_trailing_zeros 32 row ≤ 32 - count_leading_zeros 32 row
  pub few : 32 - count_leading_zeros 32 row ≤ 8
  pub fits : count_leading_zeros 32 row ≤ 31
  pub inside : left + (32 - count_leading_zeros 32 row) ≤ w

pub run_in : (w left y m row : ℕ) → RowIn w left y m row → 0 < row → row < 256 → RunIn w left row
run_in w left y m row g p l =
    let e = subst (Ended (digit_is row) 8) (row-some row p l) (ended (digit_is row) 8) in
    let t = leading_top 32 row p (omega arith) in
    let k : count_leading_zeros 32 row ≤ 31 = omega (arith, t.1) in
    let c = g.column (31 - count_leading_zeros 32 row) (eqb→eq (row / 2 ^ (31 - count_leading_zeros 32 row) % 2) 1 (true_is (digit_is row (31 - count_leading_zeros 32 row)) e.3)) in record {
      some = omega (arith, e.0, k);
      few = omega (arith, e.1, k);
      fits = k;
      inside = omega (arith, c, k);
    }

module _ (w : ℕ) (table : List Float) (left : ℕ) where
  pub row_added : (y row : ℕ) (s : ShapeSums) → 0 < row → row < 256 → count_leading_zeros 32 row ≤ 31
      → stamp_row w table left y row s ≡ plus s (minus (place_of w table y (left + (32 - count_leading_zeros 32 row))) (place_of w table y (left + count_trailing_zeros 32 row)))
  row_added y row s p l k =
      let e : left + (31 - count_leading_zeros 32 row) + 1 ≡ left + (32 - count_leading_zeros 32 row) = omega (arith, k) in
      ap (λ (r : Ends). add_span no_sums plus minus (place_of w table y) r s) (row_ends_lem left row p l)
      ∙ ap (λ (x : ℕ). plus s (minus (place_of w table y x) (place_of w table y (left + count_trailing_zeros 32 row)))) e

  pub row_skipped : (y : ℕ) (s : ShapeSums) → stamp_row w table left y 0 s ≡ s
  row_skipped y s = ap (λ (r : Ends). add_span no_sums plus minus (place_of w table y) r s) (row_none left)

  -- a row has eight pixels at the most
  pub row_count : (y m row : ℕ) (s : ShapeSums) → RowIn w left y m row → row < 256 → (stamp_row w table left y row s).count ≤ s.count + 8
  unfolding plus minus place_of
  row_count y m zero s g l = omega (arith, ap (λ (q : ShapeSums). q.count) (row_skipped y s))
  row_count y m (suc r) s g l =
      let i = run_in w left y m (suc r) g (omega arith) l in
      omega (arith, ap (λ (q : ShapeSums). q.count) (row_added y (suc r) s (omega arith) l i.fits), i.few, i.some)

  pub spans_more : (y n b : ℕ) (s : ShapeSums) → 0 < n → stamp_spans w table left y n b s ≡ stamp_spans w table left (y + 1) (n - 1) (b / 256) (stamp_row w table left y (b % 256) s)
  unfolding row_steps
  spans_more y zero b s l = absurd (omega arith)
  spans_more y (suc n) b s l =
      let e : suc n - 1 ≡ n = omega arith in
      let f : y + 1 ≡ suc y = omega arith in
      rw (e, f) refl

  pub spans_done : (y n : ℕ) (s : ShapeSums) → stamp_spans w table left y n 0 s ≡ s
  spans_done y n s = row_steps-none (stamp_row w table left) y n s row_skipped

pub some_left : (n b : ℕ) → b < 256 ^ n → 0 < b → 0 < n
some_left zero b l p = absurd (omega arith)
some_left (suc n) b l p = omega arith

pub row_here : (w left y m n b : ℕ) → 0 < n → RowsIn w left y m n b → RowIn w left y m (b % 256)
row_here w left y m n b l g =
    let e : b / 256 ^ 0 ≡ b = omega arith in
    let f : y + 0 ≡ y = omega arith in
    rw (e, f) at (g.1 0 l)

pub rows_behind : (w left y m n b : ℕ) → 0 < n → RowsIn w left y m n b → RowsIn w left (y + 1) m (n - 1) (b / 256)
rows_behind w left y m zero b l g = absurd (omega arith)
rows_behind w left y m (suc n) b l g =
    let e : suc n - 1 ≡ n = omega arith in
    let p = pow-suc 256 n in
    let q : b < 256 ^ suc n = g.0 in
    (rw e (omega (arith, p, q)), λ k u. next k (omega (arith, e, u)))
  where
    next : (k : ℕ) → k < n → RowIn w left (y + 1 + k) m (b / 256 / 256 ^ k % 256)
    next k u =
        let e : y + suc k ≡ y + 1 + k = omega arith in
        let f : b / 256 ^ suc k ≡ b / 256 / 256 ^ k = ap (λ (d : ℕ). b / d) (pow-suc 256 k ∙ mul_comm (256 ^ k) 256) ∙ sym (div-div-eq-div-mul b 256 (256 ^ k)) in
        rw (e, f) at (g.1 (suc k) (omega arith))

-- ---- the stamp of a shape
module _ (kind : Kind) (left top w h bits : ℕ) (g : Stamped kind left top w h bits) where
  abbrev test : ℕ → Bool
  test i = covered kind (left + i % 8) (top + i / 8)

  -- a pixel's numbers lie in a picture
  pub stamp_in : (n : ℕ) → n ≡ h * w * 3 → StampIn w left top n bits
  stamp_in n e j o =
      let t = digit-test test 0 64 j (ap (λ (b : ℕ). b / 2 ^ j % 2) (sym g.is) ∙ o) in
      let z : j ≡ 0 + j = omega arith in
      let c : test j ≡ true = ap test z ∙ t.1 in
      let a = g.window.columns (left + j % 8) (top + j / 8) c in
      let b = g.window.rows (left + j % 8) (top + j / 8) c in
      let m : (top + j / 8 + 1) * w ≤ h * w = mul-le-mul_right w (omega (arith, b.2)) in
      omega (arith, a.2, m, e)

  pub stamp_is_points : (target canvas : List Float) → stamp_points w target canvas left top bits no_sums ≡ point_sums kind w h target canvas
  unfolding point_sums
  stamp_is_points target canvas =
      ap (λ (b : ℕ). stamp_points w target canvas left top b no_sums) g.is
      ∙ stamp_points_lem no_sums plus minus (pixel_at w target canvas) (covered kind) left top w h g.window

  -- a row that has a pixel lies in a table
  pub rows_in : (m : ℕ) → m ≡ h * (w + 1) * 15 → RowsIn w left top m 8 bits
  rows_in m e = (rw g.is (digits_below test 0 64), λ k l. rw (ap (λ (b : ℕ). b / 256 ^ k % 256) g.is ∙ digits_row_at test 0 8 k l) (row k l))
    where
      here : (k j : ℕ) → digits_from test (0 + k * 8) 8 / 2 ^ j % 2 ≡ 1 → (left + j < w) × (top + k < h)
      here k j o =
          let t = digit-test test (0 + k * 8) 8 j o in
          let a : (0 + k * 8 + j) % 8 ≡ j = omega (arith, t.0) in
          let b : (0 + k * 8 + j) / 8 ≡ k = omega (arith, t.0) in
          let c : covered kind (left + j) (top + k) ≡ true = ap₂ (λ (p q : ℕ). covered kind (left + p) (top + q)) (sym a) (sym b) ∙ t.1 in
          ((g.window.columns (left + j) (top + k) c).2, (g.window.rows (left + j) (top + k) c).2)

      row : (k : ℕ) → k < 8 → RowIn w left (top + k) m (digits_from test (0 + k * 8) 8)
      row k l = record {
        column = λ j o. (here k j o).0;
        lent = λ n.
            let d = digits_from test (0 + k * 8) 8 in
            let s : 0 < d = omega (arith, n) in
            let q = first (λ i (t : ShapeSums). t) 8 8 d 0 no_sums (omega arith) (digits_below test (0 + k * 8) 8) s in
            let y = (here k (count_trailing_zeros 8 d) q.one).1 in
            let p : (top + k + 1) * ((w + 1) * 15) ≤ h * ((w + 1) * 15) = mul-le-mul_right ((w + 1) * 15) (omega (arith, y)) in
            let r : h * (w + 1) * 15 ≡ h * ((w + 1) * 15) = mul_assoc h (w + 1) 15 in
            let u : (top + k + 1) * ((w + 1) * 15) ≡ (top + k) * ((w + 1) * 15) + (w + 1) * 15 = omega arith in
            omega (arith, p, r, u, e);
      }

  pub stamp_is_spans : (table : List Float) → stamp_spans w table left top 8 bits no_sums ≡ span_sums kind w h table
  unfolding span_sums
  stamp_is_spans table =
      ap (λ (b : ℕ). stamp_spans w table left top 8 b no_sums) g.is
      ∙ stamp_spans_lem (covered kind) left top w h g.window no_sums plus minus (place_of w table)

-- ---- what a call knows where its stamp is tried
pub near : (kind : Kind) (w h : ℕ) → Sized w h → (r : Rows) → ReachRowsSays kind w h r → r.top < r.bottom → (left : ℕ) → leb (r.bottom - r.top) 8 && ltb left w ≡ true → (left ≤ 255) × (r.top ≤ 255)
near kind w h z r e l left t =
    let g = reached_rows kind w h z r.top r.bottom (some_reached kind w h r e l) in
    (omega (arith, ltb-true left w (and_right (leb (r.bottom - r.top) 8) (ltb left w) t), z.w_high), omega (arith, g.2, l))
