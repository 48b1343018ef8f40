-- Laws: the sums of a picture, row by row; those of a trial's picture are the list's above the rows that the shape and the candidate reach, and a trial that is too high is not lower.
use Rattle.std.specs.Prelude.{◌≡◌, refl, false, not, List, [], ◌∷◌, ◌++◌, ℕ, suc, ◌+◌, ◌-◌, ◌*◌, ◌≤◌, ◌<◌, Float, length, get_or, set}
use Rattle.std.proofs.Math.Path.{sym, ap, subst}
use Rattle.std.proofs.Common.{◌∙◌, true≢false, zero-mul, suc-mul, arith, length-append, get_or-set_same, get_or-set_other, get_or-take, get_or-append-add, length-take-le}
use Rattle.std.proofs.Math.Logic.{⊎_elim}
use Rattle.std.proofs.Math.Nat.{mul-le-mul_right}
use Rattle.std.proofs.Math.Dec.{T}
use Rattle.std.specs.Float.{nan, binary64}
use Rattle.std.specs.Float.Ieee.{lt, le}
use Rattle.std.specs.Float.Ieee as ieee
use Rattle.std.proofs.Math.ListN.{get_or-append}
use Rattle.std.proofs.Math.Seq.{slice}
use Rattle.laws.specs.F32.{◌⊟◌}
use Rattle.laws.specs.StrokeLaws.{le-or-lt}
use Rattle.float.specs.Within.{nought}
use Rattle.cover.specs.declared.reached.Rows.{Rows}
use Rattle.tally.specs.Tally.{squared_difference, total_of}
use Rattle.tally.specs.Rows.{total_on}
use Rattle.tally.specs.RowTotals.{on_none, on_both, on_all, on_same}
use Rattle.picture.specs.Places.{painted-above, painted_below}
use Rattle.shapes.specs.declared.Shape.{Shape}
use Rattle.shapes.specs.declared.Shapes.{Shapes}
use Rattle.shapes.specs.Blank.{blank}
use Rattle.shapes.specs.Lists.{listed}
use Rattle.traces.specs.Refinement.{painted_on, lower}
use Rattle.traces.specs.Scenes.{shape_painted}
use Rattle.trials.specs.Courses.{SummedTo, Spanned, Apart, Judged}
use Rattle.traces.specs.PartLaws.{part-more}
use Rattle.traces.specs.DrawingLaws.{painted_on_agrees, slice_first}
use Rattle.trials.specs.RisingLaws.{upward, not-lt, square-upward, before-upward, before_keeps, before_stays, before-fits, never_lower, itself_not_lower}

-- ---- row by row
pub sums_none : (w : ℕ) (target p sums : List Float) → get_or sums 0 nan ≡ nought → SummedTo w 0 target p sums
sums_none w target p sums e y h =
    ap (λ (k : ℕ). get_or sums k nan) {x = y} {y = 0} (omega arith)
    ∙ e
    ∙ on_none target p nought 0
    ∙ ap (total_on target p nought 0) {x = 0} {y = 0 * w * 3} (omega (arith, zero-mul w))
    ∙ ap (λ (k : ℕ). total_on target p nought 0 (k * w * 3)) {x = 0} {y = y} (omega arith)

-- one row more
pub row-sum : (w : ℕ) (target p : List Float) (y : ℕ) (s v : Float) → s ≡ total_on target p nought 0 (y * w * 3) → v ≡ total_on target p s (y * w * 3) (w * 3) → v ≡ total_on target p nought 0 ((y + 1) * w * 3)
row-sum w target p y s v e f =
    f
    ∙ ap (λ (t : Float). total_on target p t (y * w * 3) (w * 3)) e
    ∙ ap (λ (n : ℕ). total_on target p (total_on target p nought 0 (y * w * 3)) n (w * 3)) {x = y * w * 3} {y = 0 + y * w * 3} (omega arith)
    ∙ on_both target p nought 0 (y * w * 3) (w * 3)
    ∙ ap (total_on target p nought 0) {x = y * w * 3 + w * 3} {y = suc y * w * 3} (omega (arith, suc-mul y w))
    ∙ ap (λ (n : ℕ). total_on target p nought 0 (n * w * 3)) {x = suc y} {y = y + 1} (omega arith)

pub sums-more : (w : ℕ) (target p sums : List Float) (y : ℕ) (v : Float) → y + 1 < length sums → v ≡ total_on target p nought 0 ((y + 1) * w * 3) → SummedTo w y target p sums → SummedTo w (y + 1) target p (set sums (y + 1) v)
sums-more w target p sums y v room e so_far z h = ⊎_elim passed last (le-or-lt z y)
  where
    passed : z ≤ y → get_or (set sums (y + 1) v) z nan ≡ total_on target p nought 0 (z * w * 3)
    passed k = get_or-set_other sums (y + 1) z v nan (λ d. omega arith) ∙ so_far z k

    last : y < z → get_or (set sums (y + 1) v) z nan ≡ total_on target p nought 0 (z * w * 3)
    last k =
        ap (λ (n : ℕ). get_or (set sums (y + 1) v) n nan) {x = z} {y = y + 1} (omega arith)
        ∙ get_or-set_same sums (y + 1) v nan room
        ∙ e
        ∙ ap (λ (n : ℕ). total_on target p nought 0 (n * w * 3)) {x = y + 1} {y = z} (omega arith)

-- after the last row stands the total
pub sums-last : (w h : ℕ) (target p sums : List Float) → length target ≡ h * w * 3 → SummedTo w h target p sums → get_or sums h nan ≡ total_of target p
sums-last w h target p sums e all = all h (omega arith) ∙ on_all target p (h * w * 3) (sym e)

-- ---- totals are sums of squares
module _ (target p : List Float) (from : ℕ) where
  squares : (i : ℕ) → T (upward (squared_difference (get_or target (from + i) nan) (get_or p (from + i) nan)))
  squares i = square-upward binary64 (get_or target (from + i) nan ⊟ get_or p (from + i) nan)

  on_upward : (s : Float) → T (upward s) → (n : ℕ) → T (upward (total_on target p s from n))
  unfolding total_on
  on_upward s u n = before-upward (λ i. squared_difference (get_or target (from + i) nan) (get_or p (from + i) nan)) squares s u n

  on_keeps : (s t : Float) → T (upward s) → T (upward t) → T (not (lt t s)) → (n : ℕ) → T (not (lt (total_on target p t from n) (total_on target p s from n)))
  unfolding total_on
  on_keeps s t u v h n = before_keeps (λ i. squared_difference (get_or target (from + i) nan) (get_or p (from + i) nan)) squares s t u v h n

  on_stays : (old s : Float) → T (ieee.fits binary64 s) → T (upward s) → T (not (lt s old)) → (n : ℕ) → T (not (lt (total_on target p s from n) old))
  unfolding total_on
  on_stays old s i u h n = before_stays (λ i. squared_difference (get_or target (from + i) nan) (get_or p (from + i) nan)) squares old s i u h n

on_fits : (target p : List Float) (n : ℕ) → T (ieee.fits binary64 (total_on target p nought 0 n))
unfolding total_on
on_fits target p n = before-fits (λ i. squared_difference (get_or target (0 + i) nan) (get_or p (0 + i) nan)) n

-- ---- a trial's picture p, and the list's, q, that are the same above some rows and below them
module _ (w h : ℕ) (target p q sums : List Float) (long : length target ≡ h * w * 3) (top bottom : ℕ) (ordered : top ≤ bottom) (inside : bottom ≤ h) (apart : Apart w h top bottom q p) (all : SummedTo w h target q sums) where
  pub sums-above : SummedTo w top target p sums
  sums-above z k = all z (omega (arith, ordered, inside)) ∙ on_same target q p nought 0 (z * w * 3) (λ i m. apart.above (0 + i) (omega (arith, mul-le-mul_right w k)))

  -- a sum that is not below the list's at a row below the rows
  module _ (mark : ℕ) (under : bottom ≤ mark) (in_picture : mark ≤ h) (high : T (not (lt (total_on target p nought 0 (mark * w * 3)) (get_or sums mark nan)))) where
    passed : ℕ
    passed = mark * w * 3

    rest : ℕ
    rest = h * w * 3 - mark * w * 3

    gone_on : (r : List Float) → total_on target r nought 0 (h * w * 3) ≡ total_on target r (total_on target r nought 0 passed) (0 + passed) rest
    unfolding passed rest
    gone_on r =
        ap (total_on target r nought 0) {x = h * w * 3} {y = passed + rest} (omega (arith, mul-le-mul_right w in_picture))
        ∙ sym (on_both target r nought 0 passed rest)

    list-total : get_or sums h nan ≡ total_on target p (total_on target q nought 0 passed) (0 + passed) rest
    unfolding passed rest
    list-total =
        all h (omega arith)
        ∙ gone_on q
        ∙ on_same target q p (total_on target q nought 0 passed) (0 + passed) rest (λ i m. apart.below (0 + passed + i) (omega (arith, mul-le-mul_right w under)) (omega arith))

    still_high : T (not (lt (total_on target p nought 0 passed) (total_on target q nought 0 passed)))
    unfolding passed
    still_high = subst (λ (v : Float). T (not (lt (total_on target p nought 0 (mark * w * 3)) v))) (all mark in_picture) high

    not_lower : lower (total_of target p) (get_or sums h nan) ≡ false
    not_lower =
        let n = h * w * 3 in
        subst (λ (v : Float). lower v (get_or sums h nan) ≡ false) (on_all target p n (sym long))
        (never_lower (get_or sums h nan) (total_on target p nought 0 n) (on_fits target p n) (on_upward target p 0 nought tt n)
        (subst (λ (v : Float). T (not (lt (total_on target p nought 0 n) v))) (sym list-total)
        (subst (λ (v : Float). T (not (lt v (total_on target p (total_on target q nought 0 passed) (0 + passed) rest)))) (sym (gone_on p))
        (on_keeps target p (0 + passed) (total_on target q nought 0 passed) (total_on target p nought 0 passed) (on_upward target q 0 nought tt passed) (on_upward target p 0 nought tt passed) still_high rest))))

    itself : lower (get_or sums h nan) (get_or sums h nan) ≡ false
    itself =
        subst (λ (v : Float). lower v v ≡ false) (sym (all h (omega arith)))
        (itself_not_lower (total_on target q nought 0 (h * w * 3)) (on_fits target q (h * w * 3)) (on_upward target q 0 nought tt (h * w * 3)))

    judged_high : (trial : List Float) → Judged w h target p sums trial (get_or sums h nan)
    judged_high trial = record { verdict = itself ∙ sym not_lower; total = λ e. absurd (true≢false (sym e ∙ itself)); sums = λ e. absurd (true≢false (sym e ∙ itself)) }

  -- a sum that is too high at an earlier row stays so
  pub judged_early : (y mark : ℕ) (sum : Float) (trial : List Float) → sum ≡ total_on target p nought 0 (y * w * 3) → y ≤ mark → bottom ≤ mark → mark ≤ h → T (le (get_or sums mark nan) sum) → Judged w h target p sums trial (get_or sums h nan)
  judged_early y mark sum trial e low under in_picture high =
      judged_high mark under in_picture
      (subst (λ (v : Float). T (not (lt v (get_or sums mark nan)))) (sym more)
      (on_stays target p (0 + y * w * 3) (get_or sums mark nan) (total_on target p nought 0 (y * w * 3)) (on_fits target p (y * w * 3)) (on_upward target p 0 nought tt (y * w * 3))
      (subst (λ (v : Float). T (not (lt v (get_or sums mark nan)))) e (not-lt (get_or sums mark nan) sum high)) (mark * w * 3 - y * w * 3))) trial
    where
      more : total_on target p nought 0 (mark * w * 3) ≡ total_on target p (total_on target p nought 0 (y * w * 3)) (0 + y * w * 3) (mark * w * 3 - y * w * 3)
      more =
          ap (total_on target p nought 0) {x = mark * w * 3} {y = y * w * 3 + (mark * w * 3 - y * w * 3)} (omega (arith, mul-le-mul_right w low))
          ∙ sym (on_both target p nought 0 (y * w * 3) (mark * w * 3 - y * w * 3))

-- a trial that was drawn in full
pub judged_all : (w h : ℕ) (target p sums trial : List Float) (sum : Float) → length target ≡ h * w * 3 → sum ≡ total_on target p nought 0 (h * w * 3) → SummedTo w h target p trial → Judged w h target p sums trial sum
judged_all w h target p sums trial sum long e all =
    let t : sum ≡ total_of target p = e ∙ on_all target p (h * w * 3) (sym long) in
    record { verdict = ap (λ (v : Float). lower v (get_or sums h nan)) t; total = λ l. t; sums = λ l. all }

-- ---- the pictures of the list and of the trial
module _ (w h : ℕ) (columns : 0 < w) (first : List Float) (y x : Shape) (l : List Shape) (rows : Rows) (span : Spanned w h y x rows) where
  pub trial_apart : Apart w h rows.top rows.bottom (painted_on (shape_painted w h) first (y ∷ l)) (shape_painted w h x (painted_on (shape_painted w h) first l))
  unfolding painted_on
  trial_apart = record {
    above = λ i k.
        let inside : i < h * w * 3 = omega (arith, mul-le-mul_right w span.ordered, mul-le-mul_right w span.inside) in
        painted_on_agrees w h columns i inside l (shape_painted w h y first) first (painted-above y.kind y.opacity y.red y.green y.blue w h i columns inside first rows.top span.above-s k)
        ∙ sym (painted-above x.kind x.opacity x.red x.green x.blue w h i columns inside (painted_on (shape_painted w h) first l) rows.top span.above-x k);
    below = λ i k inside.
        let short : rows.bottom < h = ⊎_elim (λ (past : h ≤ rows.bottom). absurd (omega (arith, mul-le-mul_right w past))) (λ (m : rows.bottom < h). m) (le-or-lt h rows.bottom) in
        painted_on_agrees w h columns i inside l (shape_painted w h y first) first (painted_below y.kind y.opacity y.red y.green y.blue w h i columns inside first rows.bottom (span.below_s short) k)
        ∙ sym (painted_below x.kind x.opacity x.red x.green x.blue w h i columns inside (painted_on (shape_painted w h) first l) rows.bottom (span.below_x short) k);
  }

-- the candidate stands after the list, in which shape j leaves
module _ (w h : ℕ) (columns : 0 < w) (target first sums trial : List Float) (list : Shapes) (few : list.count ≤ 64) (long : length list.items ≡ 64) (j : ℕ) (below : j < list.count) (x : Shape) (rows : Rows) (span : Spanned w h (get_or list.items j blank) x rows) (r : Float) where
  abbrev all : List Shape
  all = listed list ++ (x ∷ [])

  count-is : length (listed list) ≡ list.count
  count-is = length-take-le list.count list.items (omega arith)

  all_long : length all ≡ list.count + 1
  all_long = length-append (listed list) (x ∷ []) ∙ ap (λ (n : ℕ). n + 1) count-is

  last-is : get_or all list.count blank ≡ x
  last-is = ap (λ (n : ℕ). get_or all n blank) {x = list.count} {y = length (listed list) + 0} (omega (arith, count-is)) ∙ get_or-append-add (listed list) (x ∷ []) 0 blank

  old-is : get_or all j blank ≡ get_or list.items j blank
  old-is = get_or-append (listed list) (x ∷ []) blank j (omega (arith, count-is)) ∙ get_or-take list.count list.items j blank below

  whole : shape_painted w h x (painted_on (shape_painted w h) first (slice (j + 1) list.count all)) ≡ painted_on (shape_painted w h) first (slice (j + 1) (list.count + 1) all)
  whole =
      ap (λ (s : Shape). shape_painted w h s (painted_on (shape_painted w h) first (slice (j + 1) list.count all))) (sym last-is)
      ∙ part-more (shape_painted w h) first (painted_on (shape_painted w h) first (slice (j + 1) list.count all)) (j + 1) list.count all blank (omega arith) (omega (arith, all_long)) refl

  old-first : slice j list.count all ≡ get_or list.items j blank ∷ slice (j + 1) list.count all
  old-first = slice_first all j list.count blank below (omega (arith, all_long)) ∙ ap (λ (s : Shape). s ∷ slice (j + 1) list.count all) old-is

  pub judged_trial : ((q : List Float) → Apart w h rows.top rows.bottom q (painted_on (shape_painted w h) first (slice (j + 1) (list.count + 1) (listed list ++ (x ∷ [])))) → SummedTo w h target q sums
      → Judged w h target (painted_on (shape_painted w h) first (slice (j + 1) (list.count + 1) (listed list ++ (x ∷ [])))) sums trial r)
      → SummedTo w h target (painted_on (shape_painted w h) first (slice j list.count (listed list ++ (x ∷ [])))) sums
      → Judged w h target (shape_painted w h x (painted_on (shape_painted w h) first (slice (j + 1) list.count (listed list ++ (x ∷ []))))) sums trial r
  judged_trial f summed =
      subst (λ (p : List Float). Judged w h target p sums trial r) (sym whole)
      (f (painted_on (shape_painted w h) first (slice j list.count all))
      (subst (Apart w h rows.top rows.bottom (painted_on (shape_painted w h) first (slice j list.count all))) whole
      (subst (λ (l : List Shape). Apart w h rows.top rows.bottom (painted_on (shape_painted w h) first l) (shape_painted w h x (painted_on (shape_painted w h) first (slice (j + 1) list.count all)))) (sym old-first)
      (trial_apart w h columns first (get_or list.items j blank) x (slice (j + 1) list.count all) rows span))) summed)
