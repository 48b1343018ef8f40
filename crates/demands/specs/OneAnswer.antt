-- Laws: document 01, "That any two answers meeting a statement are equal is proved": of each call, about its own promise. What is not lent to be written is only read.
use Rattle.std.specs.Prelude.{◌≡◌, List, ℕ, ℤ, Float}
use Rattle.whole.specs.Whole.{IsqrtI64Says, DivFloorI64Says, DivCeilI64Says}
use Rattle.whole.specs.WholeLaws.{IsqrtI64Says-unique, DivFloorI64Says-unique, DivCeilI64Says-unique}
use Rattle.float.specs.Narrowed.{NarrowBitsSays}
use Rattle.float.specs.NarrowLaws.{NarrowBitsSays-unique}
use Rattle.cover.specs.declared.Kind.{Kind}
use Rattle.cover.specs.Answers.{CountCoveredSays, RowEndsSays, RedrawBandSays}
use Rattle.cover.specs.AnswerLaws.{CountCoveredSays-unique, RowEndsSays-unique, RedrawBandSays-unique}
use Rattle.sums.specs.declared.ShapeSums.{ShapeSums}
use Rattle.table.specs.Table.{BuildSays, UpdateCanvasRowsSays}
use Rattle.table.specs.TableLaws.{BuildSays-unique, UpdateCanvasRowsSays-unique}
use Rattle.grade.specs.Finalize.{FinalizeSays}
use Rattle.grade.specs.FinalizeLaws.{FinalizeSays-unique}
use Rattle.grade.specs.Levels.{AlphaLevelsSays}
use Rattle.grade.specs.LevelLaws.{AlphaLevelsSays-unique}
use Rattle.grade.specs.AlphaSweep.{AlphaSweepSays}
use Rattle.grade.specs.AlphaSweepLaws.{AlphaSweepSays-unique}
use Rattle.score.specs.declared.Request.{Request}
use Rattle.score.specs.Scoring.{SpanScoreSays, PointScoreSays, CollectSpanSumsSays, CollectPointSumsSays}
use Rattle.score.specs.ScoringLaws.{SpanScoreSays-unique, PointScoreSays-unique, CollectSpanSumsSays-unique, CollectPointSumsSays-unique}
use Rattle.picture.specs.Pixels.{FilledCanvasSays, MeanRgbSays, SseTotalSays}
use Rattle.picture.specs.PixelLaws.{FilledCanvasSays-unique, MeanRgbSays-unique, SseTotalSays-unique}
use Rattle.paint.specs.Paint.{PaintSays}
use Rattle.paint.specs.PaintLaws.{PaintSays-unique}
use Rattle.shapes.specs.declared.Shapes.{Shapes}
use Rattle.shapes.specs.declared.Candidates.{Candidates}
use Rattle.refine.specs.declared.Refined.{Refined}
use Rattle.refine.specs.Answers.{told, RefineShapesSays}
use Rattle.refine.specs.AnswerLaws.{RefineShapesSays-unique}

-- one answer meets it; one answer, with one list left in what was lent
abbrev pub OneAnswer : {A : Type 0} → (A → Type 0) → Type 0
OneAnswer {A} Says = (r s : A) → Says r → Says s → r ≡ s

abbrev pub OneAnswerAndList : (ℕ → List Float → Type 0) → Type 0
OneAnswerAndList Says = (r s : ℕ) (a b : List Float) → Says r a → Says s b → (r ≡ s) × (a ≡ b)

-- "That any two answers meeting a statement are equal is proved"
pub count_has_one_answer : (kind : Kind) (w h : ℕ) → OneAnswer (CountCoveredSays kind w h)
count_has_one_answer = CountCoveredSays-unique

pub row_ends_have_one_answer : (kind : Kind) (w h : ℕ) (y : ℤ) → OneAnswer (RowEndsSays kind w h y)
row_ends_have_one_answer = RowEndsSays-unique

pub band_has_one_answer : (kind : Kind) (w h : ℕ) → OneAnswer (RedrawBandSays kind w h)
band_has_one_answer = RedrawBandSays-unique

pub root_has_one_answer : (n : ℤ) → OneAnswer (IsqrtI64Says n)
root_has_one_answer = IsqrtI64Says-unique

pub floor_has_one_answer : (a b : ℤ) → OneAnswer (DivFloorI64Says a b)
floor_has_one_answer = DivFloorI64Says-unique

pub ceiling_has_one_answer : (a b : ℤ) → OneAnswer (DivCeilI64Says a b)
ceiling_has_one_answer = DivCeilI64Says-unique

pub narrowing_has_one_answer : (b : ℕ) → OneAnswer (NarrowBitsSays b)
narrowing_has_one_answer = NarrowBitsSays-unique

pub build_has_one_answer : (target canvas : List Float) (w h : ℕ) (old : List Float) → OneAnswerAndList (BuildSays target canvas w h old)
build_has_one_answer = BuildSays-unique

pub update_has_one_answer : (target canvas : List Float) (w h : ℕ) (old : List Float) (ymin ymax : ℤ) → OneAnswerAndList (UpdateCanvasRowsSays target canvas w h old ymin ymax)
update_has_one_answer target canvas w h old ymin ymax r s a b = UpdateCanvasRowsSays-unique target canvas w h old r s a b ymin ymax

pub span_score_has_one_answer : (kind : Kind) (request : Request) (levels : List Float) (w h : ℕ) (table : List Float) → OneAnswer (SpanScoreSays kind request levels w h table)
span_score_has_one_answer = SpanScoreSays-unique

pub point_score_has_one_answer : (kind : Kind) (request : Request) (levels : List Float) (w h : ℕ) (target canvas : List Float)
    → OneAnswer (PointScoreSays kind request levels w h target canvas)
point_score_has_one_answer = PointScoreSays-unique

pub span_sums_have_one_answer : (kind : Kind) (w h : ℕ) (table : List Float) → OneAnswer (CollectSpanSumsSays kind w h table)
span_sums_have_one_answer = CollectSpanSumsSays-unique

pub point_sums_have_one_answer : (kind : Kind) (w h : ℕ) (target canvas : List Float) → OneAnswer (CollectPointSumsSays kind w h target canvas)
point_sums_have_one_answer = CollectPointSumsSays-unique

pub finalize_has_one_answer : (s : ShapeSums) (a : Float) → OneAnswer (FinalizeSays s a)
finalize_has_one_answer = FinalizeSays-unique

pub sweep_has_one_answer : (s : ShapeSums) (levels : List Float) (n : ℕ) → OneAnswer (AlphaSweepSays s levels n)
sweep_has_one_answer = AlphaSweepSays-unique

pub levels_have_one_answer : (bits : ℕ) (lent : List Float) → OneAnswerAndList (AlphaLevelsSays bits lent)
levels_have_one_answer = AlphaLevelsSays-unique

pub fill_has_one_answer : (w h : ℕ) (red green blue : Float) (old : List Float) → OneAnswerAndList (FilledCanvasSays w h red green blue old)
fill_has_one_answer = FilledCanvasSays-unique

pub mean_has_one_answer : (w h : ℕ) (target : List Float) → OneAnswer (MeanRgbSays w h target)
mean_has_one_answer = MeanRgbSays-unique

pub total_has_one_answer : (w h : ℕ) (target canvas : List Float) → OneAnswer (SseTotalSays w h target canvas)
total_has_one_answer = SseTotalSays-unique

pub paint_has_one_answer : (kind : Kind) (opacity red green blue : Float) (w h : ℕ) (target canvas table : List Float) (r s : ℕ) (a b m n : List Float)
    → PaintSays kind opacity red green blue w h target canvas table r a m → PaintSays kind opacity red green blue w h target canvas table s b n
    → (r ≡ s) × (a ≡ b) × (m ≡ n)
paint_has_one_answer = PaintSays-unique

-- "Lists are compared below their count only"
pub refinement_has_one_answer : (w h : ℕ) (red green blue : Float) (target : List Float) (shapes : Shapes) (candidates : Candidates) (passes : ℕ) (first second : List Float)
    (r s : Refined) (a b m n : List Float) → RefineShapesSays w h red green blue target shapes candidates passes first second r a m
    → RefineShapesSays w h red green blue target shapes candidates passes first second s b n → (told r ≡ told s) × (a ≡ b) × (m ≡ n)
refinement_has_one_answer = RefineShapesSays-unique
