-- Rules: the exports of scores. A shape crosses as a slice of coordinates; another length than 3, 6, 8 is refusal 2. "quads have the span score only".
use Rattle.std.specs.Prelude.{◌≡◌, Bool, not, ◌||◌, List, [], ◌∷◌, ℕ, ℤ, length, Float, Option, None, Some}
use Rattle.float.specs.Within.{within}
use Rattle.refusal.specs.Refusals.{lowest, size_if, length_if, place_if, opacity_if, bad_size}
use Rattle.refusal.specs.Lengths.{bad_picture, bad_table}
use Rattle.cover.specs.declared.Kind.{Kind}
use Rattle.cover.specs.declared.Kind.TheVariants.{Circle, Triangle, Quad}
use Rattle.cover.specs.Cover.{bad_places}
use Rattle.grade.specs.declared.Score.{Score}
use Rattle.refusal.specs.Outcomes.{Outcome, Done, Refused}
use Rattle.score.specs.declared.Request.{Request}
use Rattle.score.specs.declared.Request.TheVariants.{Levels}
use Rattle.grade.specs.Finalize.{finalized}
use Rattle.gather.specs.Gathered.{span_sums, point_sums}
use Rattle.score.specs.Scoring.{score_at, span_refusal, point_refusal}
use Rattle.crossing.specs.Outlines.{kind_of}
use Rattle.capi.specs.declared.SillbadgerAnswer.{SillbadgerAnswer}
use Rattle.capi.specs.Answers.{refused_by, shapeless, with_score, answered}

abbrev pub score_told : Score → SillbadgerAnswer
score_told s = with_score (refused_by 0) s.count s.opacity s.change s.red s.green s.blue

abbrev pub scored_told : Outcome Score → SillbadgerAnswer
scored_told (Done s) = score_told s
scored_told (Refused k) = refused_by k

-- the answer for the shape that the coordinates say, from its refusal and its score
abbrev pub score_answer : ℕ → ℕ → Option Kind → (Kind → ℕ) → (Kind → Score) → SillbadgerAnswer
score_answer w h None number score = refused_by (shapeless w h)
score_answer w h (Some kind) number score = answered (number kind) (score_told (score kind))

-- at one opacity no levels are lent, and no count is given
unfoldable pub opacity_refusal : Kind → Float → ℕ → ℕ → Bool → ℕ
opacity_refusal kind opacity w h badLength =
    lowest
    (size_if (bad_size w h) ∷ length_if badLength ∷ place_if (bad_places kind) ∷ opacity_if (not (within opacity)) ∷ [])

-- ---- from a table
abbrev pub span_answer : ℕ → ℕ → Option Kind → Request → List Float → List Float → SillbadgerAnswer
span_answer w h kind request levels table =
    score_answer w h kind (λ k. span_refusal k request levels w h table) (λ k. score_at (span_sums k w h table) request levels)

abbrev pub SillbadgerSpanScoreSays : ℕ → ℕ → List ℤ → Float → List Float → SillbadgerAnswer → Type 0
SillbadgerSpanScoreSays w h shape opacity table r =
    r
    ≡ score_answer w h (kind_of shape) (λ k. opacity_refusal k opacity w h (bad_table w h (length table))) (λ k. finalized (span_sums k w h table) opacity)

abbrev pub SillbadgerSpanSweepSays : ℕ → ℕ → List ℤ → List Float → ℕ → List Float → SillbadgerAnswer → Type 0
SillbadgerSpanSweepSays w h shape levels count table r = r ≡ span_answer w h (kind_of shape) (Levels count) levels table

-- ---- from the pictures
abbrev pub by_points : Option Kind → Option Kind
by_points None = None
by_points (Some (Circle cx cy r)) = Some (Circle cx cy r)
by_points (Some (Triangle x0 y0 x1 y1 x2 y2)) = Some (Triangle x0 y0 x1 y1 x2 y2)
by_points (Some (Quad x0 y0 x1 y1 x2 y2 x3 y3)) = None

abbrev pub point_answer : ℕ → ℕ → Option Kind → Request → List Float → List Float → List Float → SillbadgerAnswer
point_answer w h kind request levels target canvas =
    score_answer w h kind (λ k. point_refusal k request levels w h target canvas) (λ k. score_at (point_sums k w h target canvas) request levels)

abbrev pub SillbadgerPointScoreSays : ℕ → ℕ → List ℤ → Float → List Float → List Float → SillbadgerAnswer → Type 0
SillbadgerPointScoreSays w h shape opacity target canvas r =
    r
    ≡ score_answer w h (by_points (kind_of shape)) (λ k. opacity_refusal k opacity w h (bad_picture w h (length target) || bad_picture w h (length canvas)))
    (λ k. finalized (point_sums k w h target canvas) opacity)

abbrev pub SillbadgerPointSweepSays : ℕ → ℕ → List ℤ → List Float → ℕ → List Float → List Float → SillbadgerAnswer → Type 0
SillbadgerPointSweepSays w h shape levels count target canvas r =
    r ≡ point_answer w h (by_points (kind_of shape)) (Levels count) levels target canvas
