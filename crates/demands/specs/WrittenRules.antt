-- Laws: demand 2, more sentences of document 01, in the order of its text, each as what the promises say.
use Rattle.std.specs.Prelude.{◌≡◌, Bool, true, false, cond, ◌||◌, ◌↔◌, ℕ, ◌+◌, ◌*◌, ◌^◌, ◌<◌, ◌≤◌, eqb, ℤ, pos, ◌≤ℤ◌, length, get_or, Float, Some}
use Rattle.std.proofs.Math.Path.{refl, ap}
use Rattle.std.proofs.Common.{sym, ◌∙◌}
use mathlib.Core.List.{List, [], ◌∷◌, ◌++◌}
use borrow.Author.Tests.{eq-eqb, ne_eqb, lt-ltb}
use Rattle.std.specs.Int.Signed.{le_z, lt_z}
use Rattle.std.specs.Float.Ieee.{nan, lt, up, down, round, of_int, of_bits, to_bits}
use Rattle.std.specs.Float.{fin, binary32, binary64}
use Rattle.laws.specs.Answer.{Answer}
use Rattle.laws.specs.RowSums.{OfTarget, OfCanvas, target_sum, canvas_sum, picture_of}
use Rattle.laws.specs.Pictures.{channel_of}
use Rattle.refusal.specs.Outcomes.{Outcome}
use Rattle.cover.specs.declared.Kind.{Kind}
use Rattle.cover.specs.declared.Reach.{Reach}
use Rattle.cover.specs.Cover.{covered, count, reach, band, refusal_of}
use Rattle.cover.specs.CoverLaws.{left_at, right_at, in_run, in_reach}
use Rattle.cover.specs.Answers.{answer_of, same, no_band, CountCoveredSays, RedrawBandSays}
use Rattle.sums.specs.declared.ShapeSums.{ShapeSums}
use Rattle.table.specs.Layout.{Series, of_target, of_canvas, entry}
use Rattle.table.specs.Table.{f64_sums, picture, redone, BuildSays, UpdateCanvasRowsSays}
use Rattle.table.specs.TableLaws.{untouched}
use Rattle.score.specs.declared.Request.TheVariants.{Opacity}
use Rattle.grade.specs.Sweep.{best_of}
use Rattle.grade.specs.SweepLaws.{BestAt, best_means}
use Rattle.grade.specs.Swept.{change_of, swept_at, swept}
use Rattle.grade.specs.declared.Score.{Score}
use Rattle.laws.specs.Tab.{tab}
use Rattle.laws.specs.Without.{without}
use Rattle.laws.specs.Before.{before}
use Rattle.laws.specs.F32.{◌⊞◌, ◌⊟◌, ◌⊠◌}
use Rattle.laws.specs.F64.{◌⊕◌, ◌⊖◌, ◌⊗◌, ◌⊘◌}
use Rattle.float.specs.Within.{nought, one}
use Rattle.float.specs.Clamped.{clamped}
use Rattle.float.specs.Narrowed.{narrowed, NarrowBitsSays}
use Rattle.sums.specs.Sums.{channel}
use Rattle.refusal.specs.Outcomes.{Outcome, Done, Refused}
use Rattle.grade.specs.Finalize.{rest, count_of, colour_of, colour_at, before_at, after_at, wide_change, no_score, finalized}
use Rattle.grade.specs.Levels.{levels, level_at, levels_refusal, AlphaLevelsSays}
use Rattle.grade.specs.Answered.{answered}
use Rattle.gather.specs.Gathered.{span_sums, point_sums}
use Rattle.score.specs.Scoring.{score_at, span_refusal, point_refusal, SpanScoreSays, PointScoreSays}
use Rattle.picture.specs.declared.Colour.{Colour}
use Rattle.picture.specs.Painting.{blended}
use Rattle.picture.specs.PaintingLaws.{painted-at}
use Rattle.tally.specs.Tally.{channel_sum, total_of}
use Rattle.picture.specs.Pixels.{no_colour, channel_mean, mean_of, mean_refusal, mean_answer, MeanRgbSays, total_refusal, total_answer, SseTotalSays}
use Rattle.paint.specs.Paint.{PaintSays}
use Rattle.shapes.specs.declared.Shapes.{Shapes}
use Rattle.shapes.specs.declared.Candidates.{Candidates}
use Rattle.shapes.specs.Lists.{listed}
use Rattle.refine.specs.declared.Refined.{Refined}
use Rattle.refine.specs.Tests as refine
use Rattle.traces.specs.Refinement.{Scene, drawn, lower, not_lower, accepted, trial, Progress, after, passes, nothing_yet, refined}
use Rattle.traces.specs.Scenes.{scene_of}
use Rattle.refine.specs.Answers.{RefineShapesSays}

-- "Which pixels a shape covers": a pixel is in its row's run exactly if the rule covers it
pub runs_are_covered_pixels : (kind : Kind) (w h : ℕ) (room : h ≤ 256) (x y : ℕ) → x < w → y < h
    → ((left_at kind w h room y ≤ x) × (x < right_at kind w h room y)) ↔ (covered kind x y ≡ true)
runs_are_covered_pixels kind w h room x y l m = in_run kind w h room x y l m

-- "The rule has no bounding box; the Rust's boxes are proved to leave out nothing"
pub boxes_leave_out_nothing : (kind : Kind) (x y h : ℕ) → y < h → covered kind x y ≡ true → ((reach kind h).first ≤ℤ pos y) × (pos y ≤ℤ (reach kind h).last)
boxes_leave_out_nothing kind x y h l t = in_reach kind x y h l t

-- "a count not equal to the covered pixels": what a count that is not refused answers
pub count-is-covered-pixels : (kind : Kind) (w h : ℕ) (r : Outcome ℕ) → CountCoveredSays kind w h r → refusal_of kind w h ≡ 0 → (answer_of same 0 r).value ≡ count kind w h
count-is-covered-pixels kind w h r p z = ap (λ (a : Answer ℕ). a.value) p ∙ ap (λ (b : Bool). cond b (count kind w h) 0) (eq-eqb (refusal_of kind w h) 0 z)

-- "The redraw band, added for our screen, is the row reach"
pub band_is_row_reach : (kind : Kind) (w h : ℕ) (r : Outcome Reach) → RedrawBandSays kind w h r → refusal_of kind w h ≡ 0
    → ((answer_of same no_band r).value.first ≡ (reach kind h).first) × ((answer_of same no_band r).value.last ≡ (reach kind h).last)
unfolding band
band_is_row_reach kind w h r p z =
    let e = p ∙ ap (λ (b : Bool). record { number = refusal_of kind w h; value = cond b (band kind h) no_band; done = b }) (eq-eqb (refusal_of kind w h) 0 z) in
    (ap (λ (a : Answer Reach). a.value.first) e, ap (λ (a : Answer Reach). a.value.last) e)

-- "Place x+1 is place x plus pixel x, both values widened first, added in f64 left to right": every number of a built table
module _ (w h : ℕ) (target canvas old new : List Float) (p : BuildSays target canvas w h old 0 new) where
  pub built_target_sums : (s : OfTarget) (ch y x : ℕ) → ch < 3 → y < h → x ≤ w → entry w new (of_target s) ch y x ≡ target_sum f64_sums (picture w target) s ch y x
  built_target_sums s ch y x c l m = (p.done refl).targets s ch y x c l m

  pub built-canvas-sums : (s : OfCanvas) (ch y x : ℕ) → ch < 3 → y < h → x ≤ w
      → entry w new (of_canvas s) ch y x ≡ canvas_sum f64_sums (picture w target) (picture w canvas) s ch y x
  built-canvas-sums s ch y x c l m = (p.done refl).canvases s ch y x c l m

-- "a negative ymax casts to a huge number, so every row from the lower end is redone"
pub negative_end_redoes_every_row : (ymin ymax : ℤ) (y : ℕ) → le_z ymin (pos y) ≡ true → lt_z ymax (pos 0) ≡ true → redone ymin ymax y ≡ true
unfolding redone
negative_end_redoes_every_row ymin ymax y a b = rw (a, b) refl

-- "Updating .. rewrites the nine canvas sums only": the target's sums stay, and so does every row that is not redone
module _ (w h : ℕ) (target canvas old : List Float) (ymin ymax : ℤ) (new : List Float) (p : UpdateCanvasRowsSays target canvas w h old ymin ymax 0 new) where
  pub update_keeps_target_sums : (s : OfTarget) (ch y x : ℕ) → ch < 3 → y < h → x ≤ w → entry w new (of_target s) ch y x ≡ entry w old (of_target s) ch y x
  update_keeps_target_sums s ch y x c l m = (p.done refl).targets s ch y x c l m

  pub update_keeps_other_rows : (s : Series) (ch y x : ℕ) → ch < 3 → y < h → x ≤ w → redone ymin ymax y ≡ false → entry w new s ch y x ≡ entry w old s ch y x
  update_keeps_other_rows s ch y x c l m o = untouched w h target canvas ymin ymax old new (p.done refl) s ch y x c l m o

-- what is answered where nothing is refused
scored_is : (n : ℕ) (s : Score) (r : Outcome Score) → r ≡ answered n s → n ≡ 0 → r ≡ Done s
scored_is n s r p z = p ∙ ap (λ (b : Bool). cond b (Done s) (Refused n)) (eq-eqb n 0 z)

-- "Score, in f64, with m = 1 - a worked out in f32 and both then widened": a span score that is not refused is this score of its sums, and so is a point score
pub span_score_is_score_of_sums : (kind : Kind) (a : Float) (levels : List Float) (w h : ℕ) (table : List Float) (r : Outcome Score)
    → SpanScoreSays kind (Opacity a) levels w h table r → span_refusal kind (Opacity a) levels w h table ≡ 0 → r ≡ Done (finalized (span_sums kind w h table) a)
unfolding score_at
span_score_is_score_of_sums kind a levels w h table r p z = scored_is (span_refusal kind (Opacity a) levels w h table) (finalized (span_sums kind w h table) a) r p z

pub point_score_is_score_of_sums : (kind : Kind) (a : Float) (levels : List Float) (w h : ℕ) (target canvas : List Float) (r : Outcome Score)
    → PointScoreSays kind (Opacity a) levels w h target canvas r → point_refusal kind (Opacity a) levels w h target canvas ≡ 0
    → r ≡ Done (finalized (point_sums kind w h target canvas) a)
unfolding score_at
point_score_is_score_of_sums kind a levels w h target canvas r p z =
    scored_is (point_refusal kind (Opacity a) levels w h target canvas) (finalized (point_sums kind w h target canvas) a) r p z

module _ (s : ShapeSums) (a : Float) where
  -- "Count 0: change +0, colour 0"
  pub nothing_covered_scores_nothing : s.count ≡ 0 → finalized s a ≡ record { opacity = a; count = 0; change = nought; red = nought; green = nought; blue = nought }
  unfolding finalized no_score
  nothing_covered_scores_nothing z = rw (eq-eqb s.count 0 z) refl

  module _ (Some : s.count ≡ 0 → ⊥) where
    -- a channel's colour
    abbrev ruled : ℕ → Float
    ruled ch = narrowed (clamped (cond (lt nought (a ⊗ count_of s)) ((channel s.s_t ch ⊖ rest a ⊗ channel s.s_c ch) ⊘ (a ⊗ count_of s)) nought))

    -- "denom = a·count; each channel p = (t - m·c)/denom if denom > 0, else 0; below 0 becomes 0, above 1 becomes 1; narrowed to f32"
    pub colour_by_the_rule : ((finalized s a).red ≡ ruled 0) × ((finalized s a).green ≡ ruled 1) × ((finalized s a).blue ≡ ruled 2)
    unfolding finalized colour_at colour_of
    colour_by_the_rule = let n = ne_eqb s.count 0 Some in (rw n refl, rw n refl, rw n refl)

    -- "The change is after minus before, narrowed, each added over channels 0, 1, 2 from +0"
    pub change_by_the_rule : (finalized s a).change
        ≡ narrowed ((nought ⊕ after_at s a 0 ⊕ after_at s a 1 ⊕ after_at s a 2) ⊖ (nought ⊕ before_at s 0 ⊕ before_at s 1 ⊕ before_at s 2))
    unfolding finalized wide_change
    change_by_the_rule = rw (ne_eqb s.count 0 Some) refl

-- "Sweep: the first level with the strictly smallest change, starting from infinity"
pub sweep_takes_the_first_best : (s : ShapeSums) (levels : List Float) (n : ℕ)
    → (swept s levels n ≡ swept_at s levels (best_of (change_of s levels) n)) × BestAt (change_of s levels) n (best_of (change_of s levels) n)
unfolding swept
sweep_takes_the_first_best s levels n = (refl, best_means (change_of s levels) n)

-- "Level bits b: n = 2^b; n = 1 gives 0.20, else 0.20 + (0.90 - 0.20)·i/(n-1) in f32, left to right. Of 64 places the unused are +0"
pub levels-by_the_rule : (bits : ℕ) (lent : List Float) (r : ℕ) (after : List Float) → AlphaLevelsSays bits lent r after → r ≡ 0 → after ≡ tab (level_at (2 ^ bits)) 64
unfolding levels
levels-by_the_rule bits lent r after p z = p.1 ∙ ap (λ (b : Bool). cond b (levels bits) lent) (eq-eqb (levels_refusal bits lent) 0 (sym p.0 ∙ z))

-- "Paint: each covered channel becomes m·old + a·colour in f32"
module _ (kind : Kind) (opacity red green blue : Float) (w h : ℕ) (target canvas table canvas' table' : List Float) (p : PaintSays kind opacity red green blue w h target canvas table 0 canvas' table') where
  pub paint-by_the_rule : (ch y x : ℕ) → ch < 3 → y < h → x < w
      → picture_of nan w canvas' ch y x
      ≡ cond (covered kind x y) ((one ⊟ opacity) ⊠ picture_of nan w canvas ch y x ⊞ opacity ⊠ channel_of red green blue ch) (picture_of nan w canvas ch y x)
  unfolding blended
  paint-by_the_rule ch y x c l m =
      ap (λ (q : List Float). picture_of nan w q ch y x) (p.done refl).picture ∙ painted-at kind opacity red green blue w h canvas ch y x c l m

-- "Total: difference in f32, widened, squared, added in f64 in slice order"
pub total-by_the_rule : (w h : ℕ) (target canvas : List Float) (r : Outcome Float) → SseTotalSays w h target canvas r → total_refusal w h target canvas ≡ 0
    → (total_answer r).value
    ≡ before nought ◌⊕◌ (λ i. (get_or target i nan ⊟ get_or canvas i nan) ⊗ (get_or target i nan ⊟ get_or canvas i nan)) (length target)
unfolding total_of
total-by_the_rule w h target canvas r p z =
    ap (λ (a : Answer Float). a.value) p ∙ ap (λ (b : Bool). cond b (total_of target canvas) nought) (eq-eqb (total_refusal w h target canvas) 0 z)

-- a channel's mean
abbrev mean_ruled : ℕ → ℕ → List Float → ℕ → Float
mean_ruled w h target ch = narrowed (before nought ◌⊕◌ (λ i. get_or target (i * 3 + ch) nan) (h * w) ⊘ of_int binary64 (pos (h * w)))

-- "Mean: f64 sums, divided by the pixel count, narrowed"
pub mean_by_the_rule : (w h : ℕ) (target : List Float) (r : Outcome Colour) → MeanRgbSays w h target r → mean_refusal w h target ≡ 0
    → ((mean_answer r).value.red ≡ mean_ruled w h target 0) × ((mean_answer r).value.green ≡ mean_ruled w h target 1) × ((mean_answer r).value.blue ≡ mean_ruled w h target 2)
unfolding mean_of channel_mean channel_sum
mean_by_the_rule w h target r p z =
    let e = ap (λ (a : Answer Colour). a.value) p ∙ ap (λ (b : Bool). cond b (mean_of w h target) no_colour) (eq-eqb (mean_refusal w h target) 0 z) in
    (ap (λ (c : Colour). c.red) e, ap (λ (c : Colour). c.green) e, ap (λ (c : Colour). c.blue) e)

-- "Narrowing f64 to f32: nearest, ties to even; subnormals kept; too large gives infinity": of a finite number
pub narrowing_rounds_once : (b r : ℕ) (s : Bool) (m : ℕ) (e : ℤ) → NarrowBitsSays b r → of_bits binary64 b ≡ fin s m e → r ≡ to_bits binary32 (round binary32 s (m * up e) (down e))
unfolding narrowed
narrowing_rounds_once b r s m e p q = p ∙ ap (λ (x : Float). to_bits binary32 (narrowed x)) q

-- "any NaN gives 7FC00000"
pub narrowing_of_a_nan : (b r : ℕ) → NarrowBitsSays b r → of_bits binary64 b ≡ nan → r ≡ 0x7FC0_0000
unfolding narrowed to_bits
narrowing_of_a_nan b r p q = p ∙ ap (λ (x : Float). to_bits binary32 (narrowed x)) q

-- "Passes 0 or fewer than two shapes: the list stays"
pub few_shapes_stay : {S P : Type 0} (g : Scene S P) (p : ℕ) (l : List S) → length l < 2 → (refined g p l).list ≡ l
unfolding refined
few_shapes_stay g p l few = rw (lt-ltb (length l) 2 few) (by (eqb p 0))
  where
    by : (b : Bool) → (cond (b || true) (nothing_yet l) (passes g p (nothing_yet l))).list ≡ l
    by true = refl
    by false = refl

-- "It is accepted exactly when new + 1e-9 < old": old is the total of the whole list drawn, new that of the picture without shape j, the candidate painted on top
pub accepted_exactly_when_lower : {S P : Type 0} (g : Scene S P) (l : List S) (j : ℕ) (s : S)
    → (trial g l j (Some s)).outcome
    ≡ cond (lt (g.total (g.paint s (drawn g (without j l))) ⊕ round binary64 false 1 1000000000) (g.total (drawn g l))) (accepted s) not_lower
unfolding trial lower
accepted_exactly_when_lower g l j s = refl

-- "shape j leaves, later ones move up, the candidate goes last, j stays. Otherwise j rises by one"
pub accepted_goes_last : {S : Type 0} (s : S) (a : Progress S) → ((after (accepted s) a).list ≡ without a.place a.list ++ (s ∷ [])) × ((after (accepted s) a).place ≡ a.place)
unfolding after
accepted_goes_last s a = (refl, refl)

pub rejected_rises : {S : Type 0} (a : Progress S) → ((after not_lower a).list ≡ a.list) × ((after not_lower a).place ≡ a.place + 1)
unfolding after
rejected_rises a = (refl, refl)

-- "Two lent work pictures both end holding the final list drawn, also where the list stayed"
module _ (w h : ℕ) (red green blue : Float) (target : List Float) (list : Shapes) (candidates : Candidates) (passes : ℕ) (first second : List Float) (r : Refined) (first' second' : List Float) where
  abbrev final : List Float
  final = drawn (scene_of w h red green blue target candidates) (refined (scene_of w h red green blue target candidates) passes (listed list)).list

  pub work_pictures_hold_the_final_list : RefineShapesSays w h red green blue target list candidates passes first second r first' second'
      → refine.refusal_of w h red green blue target list candidates passes (length first) (length second) ≡ 0
      → (first' ≡ final) × (second' ≡ final)
  work_pictures_hold_the_final_list p z =
      (p.left-first ∙ ap (λ (b : Bool). cond b final first) (eq-eqb _ 0 z), p.left-second ∙ ap (λ (b : Bool). cond b final second) (eq-eqb _ 0 z))
