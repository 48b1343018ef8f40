-- Laws: the running sums of a row, and the lengths of places and rows.
use Rattle.std.specs.Prelude.{◌≡◌, Bool, cond, List, ◌++◌, length, take, drop, get_or, Float}
use Rattle.std.proofs.Math.Path.{refl, sym, ap}
use Rattle.std.proofs.Common.{◌∙◌, arith, length-take-le, get_or-append-add}
use Rattle.std.proofs.Math.Bool.{true, false}
use Prim.Native.Nat.{ℕ, zero, suc, ◌+◌, ◌-◌, ◌*◌, ◌≤◌, ◌<◌}
use Rattle.std.proofs.Math.Numerals.{add-one}
use Rattle.std.proofs.Math.ListN.{length-append}
use Rattle.std.proofs.lemmas.List.Edits.{sets, sets-eq}
use Rattle.std.proofs.Math.Seq.{length-sets}
use Rattle.std.specs.Float.{nan}
use borrow.Rule.Slice.PartMut.{put_mid}
use Rattle.laws.specs.Before.{before}
use Rattle.laws.specs.BeforeLaws.{before-none, before_more}
use Rattle.laws.specs.Fill.{sets_end}
use Rattle.laws.specs.Rows.{cut, put_rows}
use Rattle.laws.specs.RowLaws.{put_rows-none, put_rows-split, rows_step, length-put_rows, length_cut, get_d_cut, cut_inside}
use Rattle.float.specs.Within.{nought}
use Rattle.sums.specs.declared.ShapeSums.{ShapeSums}
use Rattle.sums.specs.Sums.{channel, no_sums, pixel_sums, plus}
use Rattle.rows.specs.Places.{pixel_at, sums_at, target_six, canvas_nine, place_at, row_of, RebuildRowSays}

pub RebuildRowSays-unique : (whole : Bool) (w : ℕ) (target canvas old r s : List Float)
    → RebuildRowSays whole w target canvas old r → RebuildRowSays whole w target canvas old s → r ≡ s
RebuildRowSays-unique whole w target canvas old r s p q = p ∙ sym q

-- what a place is left with: the six, if they are written, and the nine
module _ (whole : Bool) (s : ShapeSums) (old mid : List Float) (e : length old ≡ 15) (six : mid ≡ cond whole (sets old 0 (target_six s)) old) where
  pub put-length : length mid ≡ 15
  put-length = either whole six
    where
      either : (b : Bool) → mid ≡ cond b (sets old 0 (target_six s)) old → length mid ≡ 15
      either true m = ap length m ∙ length-sets old 0 (target_six s) ∙ e
      either false m = ap length m ∙ e

  pub put_all : (last : List Float) → last ≡ sets mid 6 (canvas_nine s) → last ≡ cond whole (target_six s) (take 6 old) ++ canvas_nine s
  put_all last f = f ∙ sets_end (canvas_nine s) mid 6 put-length ∙ ap (λ (l : List Float). l ++ canvas_nine s) (either whole six)
    where
      either : (b : Bool) → mid ≡ cond b (sets old 0 (target_six s)) old → take 6 mid ≡ cond b (target_six s) (take 6 old)
      either true m = ap (take 6) (m ∙ sets-eq (target_six s) old 0 (omega arith))
      either false m = ap (take 6) m

module _ (target canvas : List Float) where
  pub sums_none : no_sums ≡ sums_at target canvas 0
  unfolding sums_at
  sums_none = sym (before-none no_sums plus (pixel_at target canvas))

  pub sums-more : (x : ℕ) → plus (sums_at target canvas x) (pixel_at target canvas x) ≡ sums_at target canvas (x + 1)
  unfolding sums_at
  sums-more x = before_more no_sums plus (pixel_at target canvas) x

  -- they count the pixels
  pub sums-count : (x : ℕ) → (sums_at target canvas x).count ≡ x
  unfolding sums_at before no_sums plus pixel_sums
  sums-count zero = refl
  sums-count (suc x) = ap (λ (n : ℕ). n + 1) (sums-count x) ∙ add-one x

  -- a place keeps its length, and so does a row
  pub keeps_place : (whole : Bool) (w x : ℕ) → x < w + 1 → (p : List Float) → length p ≡ 15 → length (place_at whole target canvas x p) ≡ 15
  unfolding place_at
  keeps_place true w x g p e = refl
  keeps_place false w x g p e =
      length-append (take 6 p) (canvas_nine (sums_at target canvas x)) ∙ ap (λ (n : ℕ). n + 9) (length-take-le 6 p (omega arith))

  pub length-row : (whole : Bool) (w : ℕ) (row : List Float) → length row ≡ (w + 1) * 15 → length (row_of whole w target canvas row) ≡ (w + 1) * 15
  length-row whole w row e = length-put_rows 15 (w + 1) (place_at whole target canvas) (keeps_place whole w) 0 (w + 1) row (omega arith) (omega arith) e

-- a row begins with sums of no pixel
pub row_begins : (whole : Bool) (w : ℕ) (target canvas old : List Float) → length old ≡ (w + 1) * 15 → get_or (row_of whole w target canvas old) 6 nan ≡ nought
unfolding place_at no_sums
row_begins whole w target canvas old e =
    let p = cut 15 0 old in
    let l : 6 ≤ length p = omega (arith, length_cut 15 0 (w + 1) old e (omega arith)) in
    let front = cond whole (target_six (sums_at target canvas 0)) (take 6 p) in
    let six : 6 ≡ length front + 0 = omega (arith, six_long whole (sums_at target canvas 0) p l) in
    sym (get_d_cut 15 0 6 (row_of whole w target canvas old) nan (omega arith))
    ∙ ap (λ (q : List Float). get_or q 6 nan) (cut_inside 15 (w + 1) (place_at whole target canvas) (keeps_place target canvas whole w) 0 (w + 1) 0 old (omega arith) e (omega arith) (omega arith))
    ∙ ap (λ (i : ℕ). get_or (front ++ canvas_nine (sums_at target canvas 0)) i nan) six
    ∙ get_or-append-add front (canvas_nine (sums_at target canvas 0)) 0 nan
    ∙ ap (λ (s : ShapeSums). channel s.s_c 0) (sym (sums_none target canvas))
  where
    six_long : (b : Bool) (s : ShapeSums) (p : List Float) → 6 ≤ length p → length (cond b (target_six s) (take 6 p)) ≡ 6
    six_long true s p l = refl
    six_long false s p l = length-take-le 6 p l

-- a row on the way: `start` has place 0 written, `row` the places to x, and s is the sums of the pixels before x
pub record Written (whole : Bool) (w : ℕ) (target canvas start : List Float) (x : ℕ) (s : ShapeSums) (row : List Float) : Type 0 where
  pub within : x ≤ w
  pub sums : s ≡ sums_at target canvas x
  pub places : row ≡ put_rows 15 (place_at whole target canvas) 1 (x + 1) start
  pub started : length start ≡ (w + 1) * 15

module _ (whole : Bool) (w : ℕ) (target canvas : List Float) where
  -- what a place becomes that held `old`
  abbrev filled : ShapeSums → List Float → List Float
  filled s old = cond whole (target_six s) (take 6 old) ++ canvas_nine s

  pub written_size : {start : List Float} {x : ℕ} {s : ShapeSums} {row : List Float} → Written whole w target canvas start x s row → length row ≡ (w + 1) * 15
  written_size {start} {x} r =
      let l = r.within in
      ap length r.places
      ∙ length-put_rows 15 (w + 1) (place_at whole target canvas) (keeps_place target canvas whole w) 1 (x + 1) start (omega arith) (omega arith) r.started

  module _ (old last : List Float) (s : ShapeSums) (none : s ≡ no_sums) (put : last ≡ filled s (take 15 old)) where
    first : put_mid 0 15 old last ≡ put_rows 15 (place_at whole target canvas) 0 1 old
    unfolding place_at
    first =
        rows_step 15 (place_at whole target canvas) 0 0 old old last (omega arith) (sym (put_rows-none 15 _ 0 old))
        (put ∙ ap (λ (a : ShapeSums). filled a (take 15 old)) (none ∙ sums_none target canvas))

    pub written_first : length old ≡ (w + 1) * 15 → Written whole w target canvas (put_mid 0 15 old last) 0 s (put_mid 0 15 old last)
    written_first e = record {
      within = omega arith;
      sums = none ∙ sums_none target canvas;
      places = sym (put_rows-none 15 _ 1 _);
      started =
          ap length first
          ∙ length-put_rows 15 (w + 1) (place_at whole target canvas) (keeps_place target canvas whole w) 0 1 old (omega arith) (omega arith) e;
    }

    pub written_all : {x : ℕ} {t : ShapeSums} {row : List Float} → Written whole w target canvas (put_mid 0 15 old last) x t row → w ≤ x → row ≡ row_of whole w target canvas old
    written_all {x} r m =
        let l = r.within in
        let e : x + 1 ≡ w + 1 = omega arith in
        (rw e at r.places)
        ∙ ap (put_rows 15 (place_at whole target canvas) 1 (w + 1)) first
        ∙ put_rows-split 15 (place_at whole target canvas) 0 1 (w + 1) old (omega arith) (omega arith)

  pub written_more : {start : List Float} {x : ℕ} {s : ShapeSums} {row : List Float} → Written whole w target canvas start x s row → x < w
      → (t : ShapeSums) (last : List Float) → t ≡ plus s (pixel_at target canvas x) → last ≡ filled t (take ((x + 1) * 15 + 15 - (x + 1) * 15) (drop ((x + 1) * 15) row))
      → Written whole w target canvas start (x + 1) t (put_mid ((x + 1) * 15) ((x + 1) * 15 + 15 - (x + 1) * 15) row last)
  unfolding place_at
  written_more {start} {x} {s} {row} r m t last e put =
      let next : t ≡ sums_at target canvas (x + 1) = e ∙ ap (λ a. plus a (pixel_at target canvas x)) r.sums ∙ sums-more target canvas x in
      record {
        within = omega arith;
        sums = next;
        places =
            rows_step 15 (place_at whole target canvas) 1 (x + 1) start row last (omega arith) r.places
            (put ∙ ap (λ (a : ShapeSums). filled a (take ((x + 1) * 15 + 15 - (x + 1) * 15) (drop ((x + 1) * 15) row))) next);
        started = r.started;
      }
