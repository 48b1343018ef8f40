-- Rules: document 01, "A shape is scored at one given opacity or over a list of levels", from its sums by spans or by points, and what is refused.
use Rattle.std.specs.Prelude.{◌≡◌, Bool, false, not, ◌||◌, List, [], ◌∷◌, ℕ, length, Float, ℤ}
use Rattle.refusal.specs.Refusals.{lowest, size_if, length_if, count_if, place_if, opacity_if, bad_size}
use Rattle.refusal.specs.Lengths.{bad_picture, bad_table}
use Rattle.float.specs.Within.{within}
use Rattle.cover.specs.declared.Kind.{Kind}
use Rattle.cover.specs.declared.Kind.TheVariants.{Circle, Triangle}
use Rattle.cover.specs.Cover.{bad_places}
use Rattle.sums.specs.declared.ShapeSums.{ShapeSums}
use Rattle.gather.specs.Gathered.{span_sums, point_sums}
use Rattle.grade.specs.declared.Score.{Score}
use Rattle.refusal.specs.Outcomes.{Outcome}
use Rattle.grade.specs.Finalize.{finalized}
use Rattle.grade.specs.Swept.{swept}
use Rattle.grade.specs.Answered.{answered}
use Rattle.grade.specs.AlphaSweep.{bad_levels, bad_level_count, bad_first_levels}
use Rattle.score.specs.declared.Request.{Request}
use Rattle.score.specs.declared.Request.TheVariants.{Opacity, Levels}

-- ---- the request
unfoldable pub score_at : ShapeSums → Request → List Float → Score
score_at s (Opacity a) levels = finalized s a
score_at s (Levels n) levels = swept s levels n

abbrev pub bad_count : Request → Bool
bad_count (Opacity a) = false
bad_count (Levels n) = bad_level_count n

abbrev pub bad_opacity : Request → List Float → Bool
bad_opacity (Opacity a) levels = not (within a)
bad_opacity (Levels n) levels = bad_first_levels levels n

-- ---- the refusals; the lent list of levels is exactly 64 long also where a single opacity is asked
unfoldable pub span_refusal : Kind → Request → List Float → ℕ → ℕ → List Float → ℕ
span_refusal kind request levels w h table =
    lowest
    (size_if (bad_size w h)
    ∷ length_if (bad_levels levels || bad_table w h (length table))
    ∷ count_if (bad_count request)
    ∷ place_if (bad_places kind)
    ∷ opacity_if (bad_opacity request levels)
    ∷ [])

unfoldable pub point_refusal : Kind → Request → List Float → ℕ → ℕ → List Float → List Float → ℕ
point_refusal kind request levels w h target canvas =
    lowest
    (size_if (bad_size w h)
    ∷ length_if (bad_levels levels || (bad_picture w h (length target) || bad_picture w h (length canvas)))
    ∷ count_if (bad_count request)
    ∷ place_if (bad_places kind)
    ∷ opacity_if (bad_opacity request levels)
    ∷ [])

unfoldable pub span_sums_refusal : Kind → ℕ → ℕ → List Float → ℕ
span_sums_refusal kind w h table = lowest (size_if (bad_size w h) ∷ length_if (bad_table w h (length table)) ∷ place_if (bad_places kind) ∷ [])

unfoldable pub point_sums_refusal : Kind → ℕ → ℕ → List Float → List Float → ℕ
point_sums_refusal kind w h target canvas =
    lowest
    (size_if (bad_size w h) ∷ length_if (bad_picture w h (length target) || bad_picture w h (length canvas)) ∷ place_if (bad_places kind) ∷ [])

-- ---- the sums, or the refusal's number
abbrev pub collected : ℕ → ShapeSums → Outcome ShapeSums
collected = answered

-- ---- what the calls promise; what is lent is only read
abbrev pub CollectSpanSumsSays : Kind → ℕ → ℕ → List Float → Outcome ShapeSums → Type 0
CollectSpanSumsSays kind w h table r = r ≡ collected (span_sums_refusal kind w h table) (span_sums kind w h table)

abbrev pub CollectPointSumsSays : Kind → ℕ → ℕ → List Float → List Float → Outcome ShapeSums → Type 0
CollectPointSumsSays kind w h target canvas r = r ≡ collected (point_sums_refusal kind w h target canvas) (point_sums kind w h target canvas)

abbrev pub SpanScoreSays : Kind → Request → List Float → ℕ → ℕ → List Float → Outcome Score → Type 0
SpanScoreSays kind request levels w h table r =
    r ≡ answered (span_refusal kind request levels w h table) (score_at (span_sums kind w h table) request levels)

abbrev pub PointScoreSays : Kind → Request → List Float → ℕ → ℕ → List Float → List Float → Outcome Score → Type 0
PointScoreSays kind request levels w h target canvas r =
    r ≡ answered (point_refusal kind request levels w h target canvas) (score_at (point_sums kind w h target canvas) request levels)

-- by points there is a circle and a triangle, each on plain numbers
abbrev pub CirclePointScoreSays : ℤ → ℤ → ℤ → Request → List Float → ℕ → ℕ → List Float → List Float → Outcome Score → Type 0
CirclePointScoreSays cx cy r = PointScoreSays (Circle cx cy r)

abbrev pub TrianglePointScoreSays : ℤ → ℤ → ℤ → ℤ → ℤ → ℤ → Request → List Float → ℕ → ℕ → List Float → List Float → Outcome Score → Type 0
TrianglePointScoreSays x0 y0 x1 y1 x2 y2 = PointScoreSays (Triangle x0 y0 x1 y1 x2 y2)

abbrev pub CollectCircleSumsSays : ℤ → ℤ → ℤ → ℕ → ℕ → List Float → List Float → Outcome ShapeSums → Type 0
CollectCircleSumsSays cx cy r = CollectPointSumsSays (Circle cx cy r)

abbrev pub CollectTriangleSumsSays : ℤ → ℤ → ℤ → ℤ → ℤ → ℤ → ℕ → ℕ → List Float → List Float → Outcome ShapeSums → Type 0
CollectTriangleSumsSays x0 y0 x1 y1 x2 y2 = CollectPointSumsSays (Triangle x0 y0 x1 y1 x2 y2)
