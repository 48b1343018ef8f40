-- Laws: demand 1. That every call ends, inside what is lent to it, the prover shows of each function. Here: bad input gets the number of document 01's
-- table, and a refused call changes nothing. Each theorem is about the promise of one public function.
use Rattle.std.specs.Prelude.{◌≡◌, Bool, true, not, ◌||◌, List, [], ◌∷◌, ◌++◌, ℕ, zero, suc, ◌<◌, ◌≤◌, T, ltb, ℤ, length, Float, Option}
use Rattle.std.proofs.Math.Path.{refl, ap}
use Rattle.std.proofs.Common.{sym, ◌∙◌, arith}
use Rattle.std.proofs.Math.Bool.{false, cond}
use borrow.Author.Tests.{ne_eqb, eqb-true}
use Rattle.std.proofs.Math.Dec.{eqb}
use Rattle.laws.specs.Answer.{Answer, answer}
use Rattle.laws.specs.Ends.{Ends, none}
use Rattle.refusal.specs.Outcomes.{Outcome}
use Rattle.refusal.specs.Refusals.{Test, lowest, size_if, length_if, count_if, place_if, opacity_if, colour_if, pixel_if, bad_size}
use Rattle.refusal.specs.RefusalLaws.{above, Held, lowest_holds, lowest_least}
use Rattle.refusal.specs.Lengths.{bad_picture, bad_table}
use Rattle.float.specs.Within.{within, all_within}
use Rattle.cover.specs.declared.Kind.{Kind}
use Rattle.cover.specs.declared.Reach.{Reach}
use Rattle.cover.specs.declared.Columns.{Columns}
use Rattle.cover.specs.Cover as cover
use Rattle.cover.specs.Cover.{bad_places}
use Rattle.cover.specs.Answers.{answer_of, same, ends_in, no_band, CountCoveredSays, RowEndsSays, RedrawBandSays}
use Rattle.sums.specs.declared.ShapeSums.{ShapeSums}
use Rattle.sums.specs.Sums.{no_sums}
use Rattle.table.specs.Table.{build_refusal, update_refusal, BuildSays, UpdateCanvasRowsSays}
use Rattle.score.specs.declared.Request.{Request}
use Rattle.score.specs.declared.Request.TheVariants.{Levels}
use Rattle.grade.specs.declared.Score.{Score}
use Rattle.refusal.specs.Outcomes.{Outcome, Done, Refused}
use Rattle.grade.specs.Levels.{levels, levels_refusal, AlphaLevelsSays}
use Rattle.grade.specs.Swept.{swept}
use Rattle.grade.specs.Answered.{answered}
use Rattle.grade.specs.AlphaSweep.{bad_levels, sweep_refusal, AlphaSweepSays}
use Rattle.gather.specs.Gathered.{span_sums, point_sums}
use Rattle.score.specs.Scoring.{bad_count, bad_opacity, score_at, span_refusal, point_refusal, collected, SpanScoreSays, PointScoreSays}
use Rattle.picture.specs.declared.Colour.{Colour}
use Rattle.picture.specs.Pixels.{bad_colour, filled, fill_refusal, mean_refusal, total_refusal, mean_answer, total_answer, FilledCanvasSays, MeanRgbSays, SseTotalSays}
use Rattle.paint.specs.Paint.{paint_refusal, PaintSays}
use Rattle.shapes.specs.declared.Shape.{Shape}
use Rattle.shapes.specs.declared.Shapes.{Shapes}
use Rattle.shapes.specs.declared.Candidates.{Candidates}
use Rattle.shapes.specs.Ranges.{ranges_of}
use Rattle.shapes.specs.Lists.{listed}
use Rattle.traces.specs.Refinement.{Progress, drawn, refined}
use Rattle.traces.specs.Scenes.{scene_of}
use Rattle.refine.specs.declared.Refined.{Refined}
use Rattle.refine.specs.Tests as refine
use Rattle.refine.specs.Answers.{number_in, Told, told, done_with, refused_with, RefineShapesSays}

-- ---- the numbers

-- "If several hold, the lowest number among 1 to 7 is given"
pub lowest-is-given : (ts : List Test) → T (above 0 ts)
    → (0 < lowest ts → Held (lowest ts) ts) × ((n : ℕ) → Held n ts → (0 < lowest ts) × (lowest ts ≤ n))
lowest-is-given ts up = (lowest_holds ts, λ n h. lowest_least n ts up h)

-- "done: none of the below"
pub none-holds-none-given : (ts : List Test) → ((n : ℕ) → Held n ts → ⊥) → lowest ts ≡ 0
none-holds-none-given ts never = by (lowest ts) refl
  where
    by : (m : ℕ) → lowest ts ≡ m → lowest ts ≡ 0
    by zero e = e
    by (suc m) e = absurd (never (lowest ts) (lowest_holds ts (omega (arith, e))))

-- "size: w or h outside 1..256; place: a coordinate or radius is out of range"
module _ (kind : Kind) (w h : ℕ) where
  abbrev shape_tests : List Test
  shape_tests = size_if (bad_size w h) ∷ place_if (bad_places kind) ∷ []

  pub count_refuses_as_tabled : (r : Outcome ℕ) → CountCoveredSays kind w h r → (answer_of same 0 r).number ≡ lowest shape_tests
  unfolding cover.refusal_of
  count_refuses_as_tabled r p = ap (λ (a : Answer ℕ). a.number) p

  pub ends_refuse_as_tabled : (y : ℤ) (r : Outcome (Option Columns)) → RowEndsSays kind w h y r → (answer_of ends_in none r).number ≡ lowest shape_tests
  unfolding cover.refusal_of
  ends_refuse_as_tabled y r p = ap (λ (a : Answer Ends). a.number) p

  pub band_refuses_as_tabled : (r : Outcome Reach) → RedrawBandSays kind w h r → (answer_of same no_band r).number ≡ lowest shape_tests
  unfolding cover.refusal_of
  band_refuses_as_tabled r p = ap (λ (a : Answer Reach). a.number) p

-- "length: a lent slice has another length than stated; pixel: build, mean or total meets a pixel value not within 0..1"
pub build_refuses_as_tabled : (target canvas : List Float) (w h : ℕ) (old : List Float) (r : ℕ) (new : List Float) → BuildSays target canvas w h old r new
    → r
    ≡ lowest
    (size_if (bad_size w h)
    ∷ length_if (bad_picture w h (length target) || bad_picture w h (length canvas) || bad_table w h (length old))
    ∷ pixel_if (not (all_within target) || not (all_within canvas))
    ∷ [])
unfolding build_refusal
build_refuses_as_tabled target canvas w h old r new p = p.answer

-- "Updating rows ymin to ymax (any i32, never refused)"
pub update_refuses_as_tabled : (target canvas : List Float) (w h : ℕ) (old : List Float) (ymin ymax : ℤ) (r : ℕ) (new : List Float)
    → UpdateCanvasRowsSays target canvas w h old ymin ymax r new
    → r ≡ lowest (size_if (bad_size w h) ∷ length_if (bad_picture w h (length target) || bad_picture w h (length canvas) || bad_table w h (length old)) ∷ [])
unfolding update_refusal
update_refuses_as_tabled target canvas w h old ymin ymax r new p = p.answer

-- "colour: a given colour channel is not within 0..1"
pub fill_refuses_as_tabled : (w h : ℕ) (red green blue : Float) (old : List Float) (r : ℕ) (new : List Float) → FilledCanvasSays w h red green blue old r new
    → r ≡ lowest (size_if (bad_size w h) ∷ length_if (bad_picture w h (length old)) ∷ colour_if (bad_colour red green blue) ∷ [])
unfolding fill_refusal
fill_refuses_as_tabled w h red green blue old r new p = p.number

pub mean_refuses_as_tabled : (w h : ℕ) (target : List Float) (r : Outcome Colour) → MeanRgbSays w h target r
    → (mean_answer r).number ≡ lowest (size_if (bad_size w h) ∷ length_if (bad_picture w h (length target)) ∷ pixel_if (not (all_within target)) ∷ [])
unfolding mean_refusal
mean_refuses_as_tabled w h target r p = ap (λ (a : Answer Colour). a.number) p

pub total_refuses_as_tabled : (w h : ℕ) (target canvas : List Float) (r : Outcome Float) → SseTotalSays w h target canvas r
    → (total_answer r).number
    ≡ lowest
    (size_if (bad_size w h)
    ∷ length_if (bad_picture w h (length target) || bad_picture w h (length canvas))
    ∷ pixel_if (not (all_within target) || not (all_within canvas))
    ∷ [])
unfolding total_refusal
total_refuses_as_tabled w h target canvas r p = ap (λ (a : Answer Float). a.number) p

-- "count: a list, level, pass or candidate count is out of range; level bits above 6"
pub levels_refuse_as_tabled : (bits : ℕ) (lent : List Float) (r : ℕ) (after : List Float) → AlphaLevelsSays bits lent r after
    → r ≡ lowest (length_if (not (eqb (length lent) 64)) ∷ count_if (ltb 6 bits) ∷ [])
unfolding levels_refusal
levels_refuse_as_tabled bits lent r after p = p.0

-- "opacity: an opacity or level is not within 0..1 (a NaN isn't)"
pub span_score_refuses_as_tabled : (kind : Kind) (request : Request) (lent : List Float) (w h : ℕ) (table : List Float) (r : Outcome Score)
    → SpanScoreSays kind request lent w h table r
    → r
    ≡ answered
    (lowest
    (size_if (bad_size w h)
    ∷ length_if (bad_levels lent || bad_table w h (length table))
    ∷ count_if (bad_count request)
    ∷ place_if (bad_places kind)
    ∷ opacity_if (bad_opacity request lent)
    ∷ []))
    (score_at (span_sums kind w h table) request lent)
unfolding span_refusal
span_score_refuses_as_tabled kind request lent w h table r p = p

pub point_score_refuses_as_tabled : (kind : Kind) (request : Request) (lent : List Float) (w h : ℕ) (target canvas : List Float) (r : Outcome Score)
    → PointScoreSays kind request lent w h target canvas r
    → r
    ≡ answered
    (lowest
    (size_if (bad_size w h)
    ∷ length_if (bad_levels lent || (bad_picture w h (length target) || bad_picture w h (length canvas)))
    ∷ count_if (bad_count request)
    ∷ place_if (bad_places kind)
    ∷ opacity_if (bad_opacity request lent)
    ∷ []))
    (score_at (point_sums kind w h target canvas) request lent)
unfolding point_refusal
point_score_refuses_as_tabled kind request lent w h target canvas r p = p

pub sweep_refuses_as_tabled : (s : ShapeSums) (lent : List Float) (n : ℕ) (r : Outcome Score) → AlphaSweepSays s lent n r
    → r ≡ answered (lowest (length_if (bad_levels lent) ∷ count_if (bad_count (Levels n)) ∷ opacity_if (bad_opacity (Levels n) lent) ∷ [])) (swept s lent n)
unfolding sweep_refusal
sweep_refuses_as_tabled s lent n r p = p

pub paint_refuses_as_tabled : (kind : Kind) (opacity red green blue : Float) (w h : ℕ) (target canvas table : List Float) (r : ℕ) (canvas' table' : List Float)
    → PaintSays kind opacity red green blue w h target canvas table r canvas' table'
    → r
    ≡ lowest
    (size_if (bad_size w h)
    ∷ length_if (bad_picture w h (length target) || bad_picture w h (length canvas) || bad_table w h (length table))
    ∷ place_if (bad_places kind)
    ∷ opacity_if (not (within opacity))
    ∷ colour_if (bad_colour red green blue)
    ∷ [])
unfolding paint_refusal
paint_refuses_as_tabled kind opacity red green blue w h target canvas table r canvas' table' p = p.answer

-- "pixel: .. refinement, one in its target": the counts, the places, opacities and colours of what is listed and offered, and the target
module _ (w h : ℕ) (red green blue : Float) (target : List Float) (list : Shapes) (candidates : Candidates) (passes : ℕ) (first second : List Float) (r : Refined) (first' second' : List Float)
    (says : RefineShapesSays w h red green blue target list candidates passes first second r first' second') where
  abbrev refinement_tests : List Test
  refinement_tests =
      refine.size_tests w h (length target) (length first) (length second) list.count candidates.count passes
      ++ refine.range_tests (ranges_of (refine.looked_at list candidates)) red green blue target

  abbrev by_the_rule : Progress Shape
  by_the_rule = refined (scene_of w h red green blue target candidates) passes (listed list)

  number-told : (b : Bool) (n : ℕ) → eqb n 0 ≡ b → (cond b (done_with by_the_rule) (refused_with n list)).refusal ≡ n
  number-told true n e = sym (eqb-true n 0 e)
  number-told false n e = refl

  pub refinement_refuses_as_tabled : number_in r.refusal ≡ lowest refinement_tests
  unfolding refine.refusal_of
  refinement_refuses_as_tabled = ap (λ (t : Told). t.refusal) says.answer ∙ number-told (eqb (lowest refinement_tests) 0) (lowest refinement_tests) refl

  -- "but for a shape list, which comes back as handed in; no lent number has changed"
  pub refused_refinement_changes_nothing : (number_in r.refusal ≡ 0 → ⊥) → (told r ≡ refused_with (number_in r.refusal) list) × (first' ≡ first) × (second' ≡ second)
  unfolding refine.refusal_of
  refused_refinement_changes_nothing given =
      let n = lowest refinement_tests in
      let no : eqb n 0 ≡ false = ne_eqb n 0 (λ z. given (refinement_refuses_as_tabled ∙ z)) in
      let final = drawn (scene_of w h red green blue target candidates) by_the_rule.list in (
        says.answer ∙ ap (λ (b : Bool). cond b (done_with by_the_rule) (refused_with n list)) no ∙ ap (λ (k : ℕ). refused_with k list) (sym refinement_refuses_as_tabled),
        says.left-first ∙ ap (λ (b : Bool). cond b final first) no,
        says.left-second ∙ ap (λ (b : Bool). cond b final second) no,
      )

-- ---- what a refused call leaves

refused-answer : {A : Type 0} (n : ℕ) (right naught : A) → (n ≡ 0 → ⊥) → answer n right naught ≡ record { number = n; value = naught; done = false }
refused-answer n right naught given = ap (λ (b : Bool). record { number = n; value = cond b right naught; done = b }) (ne_eqb n 0 given)

-- "A refused call returns its number with every other part of the answer zero"
module _ (kind : Kind) (w h : ℕ) (given : cover.refusal_of kind w h ≡ 0 → ⊥) where
  pub refused-count : (r : Outcome ℕ) → CountCoveredSays kind w h r → answer_of same 0 r ≡ record { number = cover.refusal_of kind w h; value = 0; done = false }
  refused-count r p = p ∙ refused-answer (cover.refusal_of kind w h) (cover.count kind w h) 0 given

  pub refused-ends : (y : ℤ) (r : Outcome (Option Columns)) → RowEndsSays kind w h y r → answer_of ends_in none r ≡ record { number = cover.refusal_of kind w h; value = none; done = false }
  refused-ends y r p = p ∙ refused-answer (cover.refusal_of kind w h) (cover.row_ends kind w h y) none given

  pub refused_band : (r : Outcome Reach) → RedrawBandSays kind w h r → answer_of same no_band r ≡ record { number = cover.refusal_of kind w h; value = no_band; done = false }
  refused_band r p = p ∙ refused-answer (cover.refusal_of kind w h) (cover.band kind h) no_band given

pub refused-score : {A : Type 0} (n : ℕ) (s : A) → (n ≡ 0 → ⊥) → answered n s ≡ Refused n
refused-score n s given = ap (λ (b : Bool). cond b (Done s) (Refused n)) (ne_eqb n 0 given)

pub refused-sums : (n : ℕ) (s : ShapeSums) → (n ≡ 0 → ⊥) → collected n s ≡ Refused n
refused-sums = refused-score

-- "no lent number has changed"
pub refused_build_changes_nothing : (target canvas : List Float) (w h : ℕ) (old : List Float) (r : ℕ) (new : List Float) → BuildSays target canvas w h old r new
    → (r ≡ 0 → ⊥) → new ≡ old
refused_build_changes_nothing target canvas w h old r new p = p.refused

pub refused_update_changes_nothing : (target canvas : List Float) (w h : ℕ) (old : List Float) (ymin ymax : ℤ) (r : ℕ) (new : List Float)
    → UpdateCanvasRowsSays target canvas w h old ymin ymax r new → (r ≡ 0 → ⊥) → new ≡ old
refused_update_changes_nothing target canvas w h old ymin ymax r new p = p.refused

pub refused_fill_changes_nothing : (w h : ℕ) (red green blue : Float) (old : List Float) (r : ℕ) (new : List Float) → FilledCanvasSays w h red green blue old r new
    → (r ≡ 0 → ⊥) → new ≡ old
refused_fill_changes_nothing w h red green blue old r new p given = p.left ∙ ap (λ (b : Bool). cond b (filled w h red green blue) old) (ne_eqb r 0 given)

pub refused_levels_change_nothing : (bits : ℕ) (lent : List Float) (r : ℕ) (after : List Float) → AlphaLevelsSays bits lent r after → (r ≡ 0 → ⊥) → after ≡ lent
refused_levels_change_nothing bits lent r after p given =
    p.1 ∙ ap (λ (b : Bool). cond b (levels bits) lent) (ne_eqb (levels_refusal bits lent) 0 (λ z. given (p.0 ∙ z)))

pub refused_paint_changes_nothing : (kind : Kind) (opacity red green blue : Float) (w h : ℕ) (target canvas table : List Float) (r : ℕ) (canvas' table' : List Float)
    → PaintSays kind opacity red green blue w h target canvas table r canvas' table' → (r ≡ 0 → ⊥) → (canvas' ≡ canvas) × (table' ≡ table)
refused_paint_changes_nothing kind opacity red green blue w h target canvas table r canvas' table' p = p.refused
