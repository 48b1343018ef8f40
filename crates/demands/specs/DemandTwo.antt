-- Laws: demand 2. The promises are the written rules: counts are the covered pixels, in both engines and in every score.
use Rattle.std.specs.Prelude.{◌≡◌, refl, Bool, cond, List, ℕ, Float}
use Rattle.std.proofs.Common.{sym, ap, ◌∙◌, eq-eqb, ne_eqb}
use Rattle.std.proofs.Math.Decide.{ℕ_discrete}
use Rattle.cover.specs.declared.Kind.{Kind}
use Rattle.cover.specs.Cover.{count}
use Rattle.sums.specs.declared.ShapeSums.{ShapeSums}
use Rattle.score.specs.declared.Request.{Request}
use Rattle.score.specs.declared.Request.TheVariants.{Opacity, Levels}
use Rattle.grade.specs.declared.Score.{Score}
use Rattle.refusal.specs.Outcomes.{Outcome, Done, Refused}
use Rattle.grade.specs.Finalize.{no_score, finalized}
use Rattle.grade.specs.Sweep.{Found, nowhere, at, best_of}
use Rattle.grade.specs.Swept.{level, change_of, swept_at, swept}
use Rattle.gather.specs.CountLaws.{spans_count, points_count}
use Rattle.grade.specs.Answered.{answered}
use Rattle.gather.specs.Gathered.{span_sums, point_sums}
use Rattle.score.specs.Scoring.{score_at, span_refusal, point_refusal, SpanScoreSays, PointScoreSays}

-- ---- the count of a span score and of a point score

-- "a count not equal to the covered pixels": by spans
pub span_count_is_covered : (kind : Kind) (w h : ℕ) (table : List Float) → (span_sums kind w h table).count ≡ count kind w h
span_count_is_covered kind w h table = spans_count kind w h table

-- "Point sums add pixel by pixel in row order instead; their count is the same"
pub point_count_is_covered : (kind : Kind) (w h : ℕ) (target canvas : List Float) → (point_sums kind w h target canvas).count ≡ count kind w h
point_count_is_covered kind w h target canvas = points_count kind w h target canvas

-- a score has the count of its sums
finalized-count : (s : ShapeSums) (a : Float) → (finalized s a).count ≡ s.count
unfolding finalized no_score
finalized-count s a = by (ℕ_discrete s.count 0)
  where
    by : Dec (s.count ≡ 0) → (finalized s a).count ≡ s.count
    by (yes z) = rw (eq-eqb s.count 0 z) (sym z)
    by (no n) = rw (ne_eqb s.count 0 n) refl

swept-count : (s : ShapeSums) (levels : List Float) (f : Found) → (swept_at s levels f).count ≡ s.count
unfolding no_score
swept-count s levels nowhere = refl
swept-count s levels (at i) = finalized-count s (level levels i)

score-count : (s : ShapeSums) (request : Request) (levels : List Float) → (score_at s request levels).count ≡ s.count
unfolding score_at swept
score-count s (Opacity a) levels = finalized-count s a
score-count s (Levels n) levels = swept-count s levels (best_of (change_of s levels) n)

-- "a count not equal to the covered pixels": what a score that is not refused answers
abbrev pub scored_count : Outcome Score → ℕ
scored_count (Done s) = s.count
scored_count (Refused n) = 0

done-count : (n : ℕ) (s : Score) → n ≡ 0 → scored_count (answered n s) ≡ s.count
done-count n s z = ap (λ (b : Bool). scored_count (cond b (Done s) (Refused n))) (eq-eqb n 0 z)

pub span_score_counts_covered_pixels : (kind : Kind) (request : Request) (levels : List Float) (w h : ℕ) (table : List Float) (r : Outcome Score)
    → SpanScoreSays kind request levels w h table r → span_refusal kind request levels w h table ≡ 0 → scored_count r ≡ count kind w h
span_score_counts_covered_pixels kind request levels w h table r p z =
    ap scored_count p
    ∙ done-count (span_refusal kind request levels w h table) (score_at (span_sums kind w h table) request levels) z
    ∙ score-count (span_sums kind w h table) request levels
    ∙ span_count_is_covered kind w h table

pub point_score_counts_covered_pixels : (kind : Kind) (request : Request) (levels : List Float) (w h : ℕ) (target canvas : List Float) (r : Outcome Score)
    → PointScoreSays kind request levels w h target canvas r → point_refusal kind request levels w h target canvas ≡ 0 → scored_count r ≡ count kind w h
point_score_counts_covered_pixels kind request levels w h target canvas r p z =
    ap scored_count p
    ∙ done-count (point_refusal kind request levels w h target canvas) (score_at (point_sums kind w h target canvas) request levels) z
    ∙ score-count (point_sums kind w h target canvas) request levels
    ∙ point_count_is_covered kind w h target canvas
