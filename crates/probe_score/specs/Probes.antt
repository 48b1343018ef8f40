-- Rules: what the probes promise is what the functions behind them promise.
use Rattle.std.specs.Prelude.{◌≡◌, List, Bool, cond, ℕ, eqb, ℤ, Float}
use Rattle.float.specs.Within.{nought}
use Rattle.cover.specs.declared.Kind.{Kind}
use Rattle.cover.specs.declared.Kind.TheVariants.{Circle, Triangle, Quad}
use Rattle.score.specs.declared.Request.{Request}
use Rattle.score.specs.declared.Request.TheVariants.{Opacity, Levels}
use Rattle.refusal.specs.Outcomes.{Outcome, Done, Refused}
use Rattle.sums.specs.Sums.{no_sums}
use Rattle.grade.specs.Swept.{swept}
use Rattle.grade.specs.Answered.{answered}
use Rattle.grade.specs.AlphaSweep.{sweep_refusal}
use Rattle.gather.specs.Gathered.{span_sums, point_sums}
use Rattle.score.specs.Scoring.{collected, span_refusal, point_refusal, span_sums_refusal, point_sums_refusal, score_at}
use Rattle.sums.specs.declared.ShapeSums.{ShapeSums}
use Rattle.grade.specs.declared.Score.{Score}
use Rattle.grade.specs.Levels.{AlphaLevelsSays}
use Rattle.grade.specs.Finalize.{finalized}
use Rattle.probe_score.specs.declared.ProbedSums.{ProbedSums}
use Rattle.probe_score.specs.declared.ProbedScore.{ProbedScore}
use Rattle.probe_score.specs.declared.ProbedAnswer.{ProbedAnswer}
use Rattle.probe_score.specs.declared.ProbedCollected.{ProbedCollected}

abbrev pub ProbeAlphaLevelsSays : ℕ → List Float → ℕ → List Float → Type 0
ProbeAlphaLevelsSays bits before r after = AlphaLevelsSays bits before r after

-- the same fields, as C has them
abbrev pub sums_of : ProbedSums → ShapeSums
sums_of s = record { s_t = s.s_t; s_c = s.s_c; s_t2 = s.s_t2; s_c2 = s.s_c2; s_tc = s.s_tc; count = s.count }

abbrev pub score_of : Score → ProbedScore
score_of r = record { opacity = r.opacity; count = r.count; change = r.change; red = r.red; green = r.green; blue = r.blue }

abbrev pub ProbeFinalizeSays : ProbedSums → Float → ProbedScore → Type 0
ProbeFinalizeSays s a r = r ≡ score_of (finalized (sums_of s) a)

-- 1 is a circle, of which the first three numbers count, 2 a triangle, the rest a quad
abbrev pub kind_of : ℕ → ℤ → ℤ → ℤ → ℤ → ℤ → ℤ → ℤ → ℤ → Kind
kind_of kind x0 y0 x1 y1 x2 y2 x3 y3 =
    cond (eqb kind 1) (Circle x0 y0 x1) (cond (eqb kind 2) (Triangle x0 y0 x1 y1 x2 y2) (Quad x0 y0 x1 y1 x2 y2 x3 y3))

abbrev pub request_of : Bool → Float → ℕ → Request
request_of single a n = cond single (Opacity a) (Levels n)

-- a refusal has zeros
abbrev pub answer_of : Outcome Score → ProbedAnswer
answer_of (Done r) =
    record { refused = 0; opacity = r.opacity; count = r.count; change = r.change; red = r.red; green = r.green; blue = r.blue }
answer_of (Refused k) =
    record { refused = k; opacity = nought; count = 0; change = nought; red = nought; green = nought; blue = nought }

abbrev pub probed : ShapeSums → ℕ → ProbedCollected
probed s number =
    record {
      refused = number;
      s_t = s.s_t;
      s_c = s.s_c;
      s_t2 = s.s_t2;
      s_c2 = s.s_c2;
      s_tc = s.s_tc;
      count = s.count;
    }

abbrev pub gathered_of : Outcome ShapeSums → ProbedCollected
gathered_of (Done s) = probed s 0
gathered_of (Refused k) = probed no_sums k

abbrev pub ProbeSpanScoreSays : Kind → Request → List Float → ℕ → ℕ → List Float → ProbedAnswer → Type 0
ProbeSpanScoreSays kind request levels w h table r =
    r ≡ answer_of (answered (span_refusal kind request levels w h table) (score_at (span_sums kind w h table) request levels))

-- by points, of any kind; the two exports give theirs
abbrev pub point_answer : Kind → Request → List Float → ℕ → ℕ → List Float → List Float → ProbedAnswer
point_answer kind request levels w h target canvas =
    answer_of (answered (point_refusal kind request levels w h target canvas) (score_at (point_sums kind w h target canvas) request levels))

abbrev pub ProbeCirclePointScoreSays : ℤ → ℤ → ℤ → Request → List Float → ℕ → ℕ → List Float → List Float → ProbedAnswer → Type 0
ProbeCirclePointScoreSays cx cy r request levels w h target canvas s = s ≡ point_answer (Circle cx cy r) request levels w h target canvas

abbrev pub ProbeTrianglePointScoreSays : ℤ → ℤ → ℤ → ℤ → ℤ → ℤ → Request → List Float → ℕ → ℕ → List Float → List Float → ProbedAnswer → Type 0
ProbeTrianglePointScoreSays x0 y0 x1 y1 x2 y2 request levels w h target canvas s =
    s ≡ point_answer (Triangle x0 y0 x1 y1 x2 y2) request levels w h target canvas

abbrev pub ProbeAlphaSweepSays : ProbedSums → List Float → ℕ → ProbedAnswer → Type 0
ProbeAlphaSweepSays s levels n r = r ≡ answer_of (answered (sweep_refusal levels n) (swept (sums_of s) levels n))

abbrev pub ProbeCollectSpanSumsSays : Kind → ℕ → ℕ → List Float → ProbedCollected → Type 0
ProbeCollectSpanSumsSays kind w h table r = r ≡ gathered_of (collected (span_sums_refusal kind w h table) (span_sums kind w h table))

abbrev pub points_gathered : Kind → ℕ → ℕ → List Float → List Float → ProbedCollected
points_gathered kind w h target canvas = gathered_of (collected (point_sums_refusal kind w h target canvas) (point_sums kind w h target canvas))

abbrev pub ProbeCollectCircleSumsSays : ℤ → ℤ → ℤ → ℕ → ℕ → List Float → List Float → ProbedCollected → Type 0
ProbeCollectCircleSumsSays cx cy r w h target canvas s = s ≡ points_gathered (Circle cx cy r) w h target canvas

abbrev pub ProbeCollectTriangleSumsSays : ℤ → ℤ → ℤ → ℤ → ℤ → ℤ → ℕ → ℕ → List Float → List Float → ProbedCollected → Type 0
ProbeCollectTriangleSumsSays x0 y0 x1 y1 x2 y2 w h target canvas s = s ≡ points_gathered (Triangle x0 y0 x1 y1 x2 y2) w h target canvas
