-- Laws: the steps of fill; a filled picture; what the sums of a mean and a total answer; each promise has one answer.
use Rattle.std.specs.Prelude.{◌≡◌, refl, Bool, true, false, not, ◌&&◌, ◌||◌, cond, List, [], ◌∷◌, ℕ, zero, suc, ◌+◌, ◌*◌, ◌/◌, ◌%◌, ◌≤◌, ◌<◌, T, eqb, length, get_or, set, pos, Float, Option, None, Some}
use Rattle.std.proofs.Common.{sym, ap, ◌∙◌, ⊎_elim, true≢false, mul-le-mul, div-add-mod', mod-lt, arith, length-set, get_or-set_same, get_or-set_other}
use Rattle.std.specs.Option.{ok_or}
use Rattle.std.specs.Float.{nan, binary64}
use Rattle.std.specs.Float.Ieee.{of_int}
use Rattle.std.specs.Float.Ieee.Fits.{and_l, and_r}
use Rattle.laws.specs.Answer.{Answer, answer}
use Rattle.laws.specs.Bools.{or_left, or_right}
use Rattle.laws.specs.F64.{◌⊘◌}
use Rattle.laws.specs.Pictures.{plain, channel_of}
use Rattle.laws.specs.PictureLaws.{length-list, numbers_list, list-every}
use Rattle.laws.specs.StrokeLaws.{le-or-lt}
use Rattle.float.specs.Within.{nought, within, all_within}
use Rattle.float.specs.Narrowed.{narrowed}
use Rattle.refusal.specs.Refusals.{Sized, bad_size, lowest, size_if, length_if, pixel_if}
use Rattle.refusal.specs.declared.Refusal.TheVariants.{Pixel}
use Rattle.refusal.specs.Outcomes.{Outcome, Done, Refused, outcome}
use Rattle.refusal.specs.Lengths.{bad_picture}
use Rattle.refusal.specs.LengthLaws.{picture_length}
use Rattle.refusal.specs.RefusalLaws.{sized}
use Rattle.refusal.specs.ThreeTests.{passed, two-passed, at-third, at_none}
use Rattle.tally.specs.declared.means.Sums.{Sums}
use Rattle.tally.specs.Tally.{sums_to, SumsWithinSays, ShareSays, total_of, TotalWithinSays}
use Rattle.tally.specs.TallyLaws.{sums_are}
use Rattle.picture.specs.declared.Colour.{Colour}
use Rattle.picture.specs.Strokes.{pixel_put, pair_put, pixel_colour, Coloured}
use Rattle.picture.specs.Pixels.{bad_colour, BadColourSays, filled, fill_refusal, FillSays, FilledCanvasSays, channel_mean, no_colour, mean_of, mean_refusal, mean_answer, MeanRgbSays, total_refusal, total_answer, SseTotalSays, TotalAnySays}

-- ---- each promise has one answer
pub BadColourSays-unique : (red green blue : Float) (r s : Bool) → BadColourSays red green blue r → BadColourSays red green blue s → r ≡ s
BadColourSays-unique red green blue r s p q = p ∙ sym q

pub FillSays-unique : (w h : ℕ) (red green blue : Float) (new also : List Float) → FillSays w h red green blue new → FillSays w h red green blue also → new ≡ also
FillSays-unique w h red green blue new also p q = p ∙ sym q

pub FilledCanvasSays-unique : (w h : ℕ) (red green blue : Float) (old : List Float) (r s : ℕ) (new also : List Float)
    → FilledCanvasSays w h red green blue old r new → FilledCanvasSays w h red green blue old s also → (r ≡ s) × (new ≡ also)
FilledCanvasSays-unique w h red green blue old r s new also p q =
    let e = p.number ∙ sym q.number in
    (e, p.left ∙ ap (λ (k : ℕ). cond (eqb k 0) (filled w h red green blue) old) e ∙ sym q.left)

-- an answer's number and value, and whether it is done, give the answer back
back : {A : Type 0} → Answer A → Outcome A
back a = cond a.done (Done a.value) (Refused a.number)

mean_same : (o : Outcome Colour) → back (mean_answer o) ≡ o
unfolding back
mean_same (Done c) = refl
mean_same (Refused k) = refl

pub MeanRgbSays-unique : (w h : ℕ) (target : List Float) (r s : Outcome Colour) → MeanRgbSays w h target r → MeanRgbSays w h target s → r ≡ s
MeanRgbSays-unique w h target r s p q = sym (mean_same r) ∙ ap back (p ∙ sym q) ∙ mean_same s

total_same : (o : Outcome Float) → back (total_answer o) ≡ o
unfolding back
total_same (Done t) = refl
total_same (Refused k) = refl

pub SseTotalSays-unique : (w h : ℕ) (target canvas : List Float) (r s : Outcome Float) → SseTotalSays w h target canvas r → SseTotalSays w h target canvas s → r ≡ s
SseTotalSays-unique w h target canvas r s p q = sym (total_same r) ∙ ap back (p ∙ sym q) ∙ total_same s

pub TotalAnySays-unique : (target canvas : List Float) (r s : Float) → TotalAnySays target canvas r → TotalAnySays target canvas s → r ≡ s
TotalAnySays-unique target canvas r s p q = p ∙ sym q

not-not : (b : Bool) → not b ≡ false → T b
not-not true e = tt
not-not false e = absurd (true≢false e)

-- ---- a colour that passed its test
pub colour_within : (red green blue : Float) → bad_colour red green blue ≡ false → (ch : ℕ) → T (within (channel_of red green blue ch))
unfolding bad_colour
colour_within red green blue e = by
  where
    three : T (within red && within green && within blue)
    three = not-not (within red && within green && within blue) e

    by : (ch : ℕ) → T (within (channel_of red green blue ch))
    by zero = and_l (within red) (within green) (and_l (within red && within green) (within blue) three)
    by (suc zero) = and_r (within red) (within green) (and_l (within red && within green) (within blue) three)
    by (suc (suc ch)) = and_r (within red && within green) (within blue) three

-- ---- fill: pixel i is written
colour_same : (r g b x y z : Float) → r ≡ x → g ≡ y → b ≡ z → ◌≡◌ {A = Colour} (record { red = r; green = g; blue = b }) (record { red = x; green = y; blue = z })
colour_same r g b x y z p q u = rw (p, q, u) refl

module _ (l : List Float) (i : ℕ) (c : Colour) where
  -- the numbers of a pixel that was put, and those of the others
  put_here : i * 3 + 3 ≤ length l → pixel_colour i (pixel_put i c l) ≡ c
  put_here h =
      let l1 = set l (i * 3) c.red in
      let l2 = set l1 (i * 3 + 1) c.green in
      let e1 = length-set l (i * 3) c.red in
      let e2 = length-set l1 (i * 3 + 1) c.green in
      colour_same _ _ _ _ _ _
      (get_or-set_other l2 (i * 3 + 2) (i * 3) c.blue nan (λ e. absurd (omega (arith, e)))
      ∙ get_or-set_other l1 (i * 3 + 1) (i * 3) c.green nan (λ e. absurd (omega (arith, e)))
      ∙ get_or-set_same l (i * 3) c.red nan (omega arith))
      (get_or-set_other l2 (i * 3 + 2) (i * 3 + 1) c.blue nan (λ e. absurd (omega (arith, e))) ∙ get_or-set_same l1 (i * 3 + 1) c.green nan (omega (arith, e1)))
      (get_or-set_same l2 (i * 3 + 2) c.blue nan (omega (arith, e1, e2)))

  put_apart : (j : ℕ) → j < i * 3 → get_or (pixel_put i c l) j nan ≡ get_or l j nan
  put_apart j k =
      get_or-set_other (set (set l (i * 3) c.red) (i * 3 + 1) c.green) (i * 3 + 2) j c.blue nan (λ e. absurd (omega (arith, e)))
      ∙ get_or-set_other (set l (i * 3) c.red) (i * 3 + 1) j c.green nan (λ e. absurd (omega (arith, e)))
      ∙ get_or-set_other l (i * 3) j c.red nan (λ e. absurd (omega (arith, e)))

module _ (c : Colour) where
  pub coloured_none : (l : List Float) → Coloured c 0 l
  coloured_none l = record { each = λ i k. absurd (omega (arith, k)) }

  pub coloured_first : (m n : ℕ) (l : List Float) → m ≤ n → Coloured c n l → Coloured c m l
  coloured_first m n l h f = record { each = λ i k. f.each i (omega arith) }

  -- one more
  pub coloured_put : (i j : ℕ) (p : Colour) (l m : List Float) → m ≡ pixel_put i p l → j ≡ i + 1 → i * 3 + 3 ≤ length l → p ≡ c → Coloured c i l → Coloured c j m
  coloured_put i j p l m e n h q f = rw (e, n, q) (record { each = by })
    where
      by : (k : ℕ) → k < i + 1 → pixel_colour k (pixel_put i c l) ≡ c
      by k a =
          ⊎_elim
          (λ (b : i ≤ k). let z : k ≡ i = omega arith in ap (λ (t : ℕ). pixel_colour t (pixel_put i c l)) z ∙ put_here l i c h)
          (λ (b : k < i).
          colour_same _ _ _ _ _ _ (put_apart l i c (k * 3) (omega arith)) (put_apart l i c (k * 3 + 1) (omega arith)) (put_apart l i c (k * 3 + 2) (omega arith))
          ∙ f.each k b)
          (le-or-lt i k)

  -- and two
  pub coloured_pair : (i j k : ℕ) (p q : Colour) (l m : List Float) → m ≡ pair_put i p q l → j ≡ i * 2 → k ≡ i * 2 + 2 → i * 6 + 6 ≤ length l → p ≡ c → q ≡ c → Coloured c j l → Coloured c k m
  coloured_pair i j k p q l m e n o h a b f =
      let l1 = pixel_put (i * 2) p l in
      let n1 : length l1 ≡ length l = simp length-set refl in
      coloured_put (i * 2 + 1) k q l1 m e (omega arith) (omega (arith, n1)) b (coloured_put (i * 2) (i * 2 + 1) p l l1 refl refl (omega arith) a (rw n at f))

module _ (w h : ℕ) (red green blue : Float) where
  pub length-filled : length (filled w h red green blue) ≡ h * w * 3
  length-filled = length-list w h (plain red green blue)

  -- all are written
  pub coloured_all : (n : ℕ) (l : List Float) → length l ≡ h * w * 3 → h * w ≤ n → Coloured (record { red = red; green = green; blue = blue }) n l → l ≡ filled w h red green blue
  coloured_all n l e k f = numbers_list w h (plain red green blue) nan l e (λ i m. ap (λ (j : ℕ). get_or l j nan) (sym (div-add-mod' i 3)) ∙ by (i / 3) (i % 3) (omega arith) (mod-lt i (omega arith)))
    where
      by : (j ch : ℕ) → j < n → ch < 3 → get_or l (j * 3 + ch) nan ≡ channel_of red green blue ch
      by j zero a b = let z : j * 3 + 0 ≡ j * 3 = omega arith in ap (λ (k : ℕ). get_or l k nan) z ∙ ap (λ (t : Colour). t.red) (f.each j a)
      by j (suc zero) a b = ap (λ (t : Colour). t.green) (f.each j a)
      by j (suc (suc zero)) a b = ap (λ (t : Colour). t.blue) (f.each j a)
      by j (suc (suc (suc ch))) a b = absurd (omega (arith, b))

  -- a colour within 0..1 fills a picture within 0..1
  pub filled_within : bad_colour red green blue ≡ false → T (all_within (filled w h red green blue))
  filled_within e = list-every w h within (plain red green blue) nan (λ ch y x c l m. colour_within red green blue e ch)

-- ---- mean, of what the sums say
abbrev colour_shared : ℕ → Sums → Colour
colour_shared n s = record {
  red = narrowed (s.red ⊘ of_int binary64 (pos n));
  green = narrowed (s.green ⊘ of_int binary64 (pos n));
  blue = narrowed (s.blue ⊘ of_int binary64 (pos n));
}

abbrev mean_of_lem : ℕ → Option Sums → Outcome Colour
mean_of_lem n (Some s) = Done (colour_shared n s)
mean_of_lem n None = Refused 7

mean_right : (w h : ℕ) (target : List Float) → colour_shared (h * w) (sums_to target (h * w)) ≡ mean_of w h target
unfolding mean_of channel_mean
mean_right w h target = ap (colour_shared (h * w)) (sums_are target (h * w))

module _ (w h : ℕ) (target : List Float) (r : Option Sums) (says : SumsWithinSays target (h * w) r) where
  answered : mean_answer (mean_of_lem (h * w) r) ≡ answer (cond (all_within target) 0 7) (mean_of w h target) no_colour
  answered = ap (λ (t : Option Sums). mean_answer (mean_of_lem (h * w) t)) says ∙ by (all_within target) ∙ ap (λ (c : Colour). answer (cond (all_within target) 0 7) c no_colour) (mean_right w h target)
    where
      by : (b : Bool) → mean_answer (mean_of_lem (h * w) (cond b (Some (sums_to target (h * w))) None)) ≡ answer (cond b 0 7) (colour_shared (h * w) (sums_to target (h * w))) no_colour
      by true = refl
      by false = refl

  pub mean_done : (s : Sums) (red green blue : Float) → r ≡ Some s → ShareSays s.red (h * w) red → ShareSays s.green (h * w) green → ShareSays s.blue (h * w) blue
      → mean_answer (Done (record { red = red; green = green; blue = blue })) ≡ answer (cond (all_within target) 0 7) (mean_of w h target) no_colour
  mean_done s red green blue e p q u =
      ap (λ (c : Colour). mean_answer (Done c)) (colour_same red green blue _ _ _ p q u)
      ∙ ap (λ (t : Option Sums). mean_answer (mean_of_lem (h * w) t)) (sym e)
      ∙ answered

  pub mean_beyond : r ≡ None → mean_answer (Refused 7) ≡ answer (cond (all_within target) 0 7) (mean_of w h target) no_colour
  mean_beyond e = ap (λ (t : Option Sums). mean_answer (mean_of_lem (h * w) t)) (sym e) ∙ answered

pub few_pixels : (w h : ℕ) → Sized w h → h * w ≤ 65536
few_pixels w h s = mul-le-mul s.h_high s.w_high

-- ---- what 0 gives: every test was passed
pub fill-passed : (w h : ℕ) (red green blue : Float) (n : ℕ) → fill_refusal w h red green blue n ≡ 0 → Sized w h × (n ≡ h * w * 3) × (bad_colour red green blue ≡ false)
unfolding fill_refusal
fill-passed w h red green blue n e =
    let p = passed (bad_size w h) (bad_picture w h n) (bad_colour red green blue) 6 (omega arith) e in
    (sized w h p.0, picture_length w h n p.1, p.2)

pub sizes_passed : (w h n : ℕ) → lowest (size_if (bad_size w h) ∷ length_if (bad_picture w h n) ∷ []) ≡ 0 → Sized w h × (n ≡ h * w * 3)
sizes_passed w h n e =
    let p = two-passed (bad_size w h) (bad_picture w h n) e in
    (sized w h p.0, picture_length w h n p.1)

-- ---- the pixels, after the sizes and lengths
third : (size lengths ok bad : Bool) → lowest (size_if size ∷ length_if lengths ∷ []) ≡ 0 → bad ≡ not ok → cond ok 0 7 ≡ lowest (size_if size ∷ length_if lengths ∷ pixel_if bad ∷ [])
third size lengths true bad e d = let p = two-passed size lengths e in at_none size lengths bad 7 (omega arith) p.0 p.1 d
third size lengths false bad e d = let p = two-passed size lengths e in at-third size lengths bad 7 (omega arith) p.0 p.1 d

pub mean_last : (w h : ℕ) (target : List Float) → lowest (size_if (bad_size w h) ∷ length_if (bad_picture w h (length target)) ∷ []) ≡ 0 → cond (all_within target) 0 7 ≡ mean_refusal w h target
unfolding mean_refusal
mean_last w h target e = third (bad_size w h) (bad_picture w h (length target)) (all_within target) (not (all_within target)) e refl

-- ---- total: the sizes and lengths, then the pixels part by part
pub first-length : (size a b : Bool) → (lowest (size_if size ∷ length_if a ∷ []) ≡ 0 → ⊥) → lowest (size_if size ∷ length_if a ∷ []) ≡ lowest (size_if size ∷ length_if (a || b) ∷ [])
unfolding lowest
first-length true true b r = refl
first-length true false true r = refl
first-length true false false r = refl
first-length false true b r = refl
first-length false false b r = absurd (r refl)

pub lengths_passed : (w h n m : ℕ) → lowest (size_if (bad_size w h) ∷ length_if (bad_picture w h n || bad_picture w h m) ∷ []) ≡ 0 → n ≡ m
lengths_passed w h n m e =
    let p = two-passed (bad_size w h) (bad_picture w h n || bad_picture w h m) e in
    picture_length w h n (or_left (bad_picture w h n) (bad_picture w h m) p.1)
    ∙ sym (picture_length w h m (or_right (bad_picture w h n) (bad_picture w h m) p.1))

pub pixels-last : (w h : ℕ) (target canvas : List Float) → lowest (size_if (bad_size w h) ∷ length_if (bad_picture w h (length target) || bad_picture w h (length canvas)) ∷ []) ≡ 0
    → cond (all_within target && all_within canvas) 0 7 ≡ total_refusal w h target canvas
unfolding total_refusal
pixels-last w h target canvas e =
    third (bad_size w h) (bad_picture w h (length target) || bad_picture w h (length canvas)) (all_within target && all_within canvas) (not (all_within target) || not (all_within canvas)) e (either (all_within target) (all_within canvas))
  where
    either : (a b : Bool) → not a || not b ≡ not (a && b)
    either true b = refl
    either false b = refl

-- ---- total, of what the sum says
pub total_told_lem : (target canvas : List Float) (r : Option Float) → TotalWithinSays target canvas r
    → total_answer (outcome (ok_or r Pixel)) ≡ answer (cond (all_within target && all_within canvas) 0 7) (total_of target canvas) nought
total_told_lem target canvas r says = ap (λ (u : Option Float). total_answer (outcome (ok_or u Pixel))) says ∙ by (all_within target && all_within canvas)
  where
    by : (b : Bool) → total_answer (outcome (ok_or (cond b (Some (total_of target canvas)) None) Pixel)) ≡ answer (cond b 0 7) (total_of target canvas) nought
    by true = refl
    by false = refl
