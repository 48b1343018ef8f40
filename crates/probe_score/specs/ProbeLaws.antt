-- Laws: two answers of a probe are equal.
use Rattle.std.specs.Prelude.{◌≡◌, List, ℕ, ℤ, Float}
use Rattle.std.proofs.Common.{sym, ◌∙◌}
use Rattle.cover.specs.declared.Kind.{Kind}
use Rattle.score.specs.declared.Request.{Request}
use Rattle.probe_score.specs.declared.ProbedAnswer.{ProbedAnswer}
use Rattle.probe_score.specs.declared.ProbedCollected.{ProbedCollected}
use Rattle.grade.specs.LevelLaws.{AlphaLevelsSays-unique}
use Rattle.probe_score.specs.declared.ProbedSums.{ProbedSums}
use Rattle.probe_score.specs.declared.ProbedScore.{ProbedScore}
use Rattle.probe_score.specs.Probes.{
  ProbeAlphaLevelsSays,
  ProbeFinalizeSays,
  ProbeSpanScoreSays,
  ProbeCirclePointScoreSays,
  ProbeTrianglePointScoreSays,
  ProbeAlphaSweepSays,
  ProbeCollectSpanSumsSays,
  ProbeCollectCircleSumsSays,
  ProbeCollectTriangleSumsSays,
}

pub ProbeAlphaLevelsSays-unique : (b : ℕ) (lent : List Float) (r s : ℕ) (m n : List Float) → ProbeAlphaLevelsSays b lent r m → ProbeAlphaLevelsSays b lent s n → (r ≡ s) × (m ≡ n)
ProbeAlphaLevelsSays-unique b lent r s m n = AlphaLevelsSays-unique b lent r s m n

pub ProbeFinalizeSays-unique : (s : ProbedSums) (a : Float) (r q : ProbedScore) → ProbeFinalizeSays s a r → ProbeFinalizeSays s a q → r ≡ q
ProbeFinalizeSays-unique s a r q f g = f ∙ sym g

pub ProbeSpanScoreSays-unique : (kind : Kind) (request : Request) (levels : List Float) (w h : ℕ) (table : List Float) (r q : ProbedAnswer) → ProbeSpanScoreSays kind request levels w h table r → ProbeSpanScoreSays kind request levels w h table q → r ≡ q
ProbeSpanScoreSays-unique kind request levels w h table r q f g = f ∙ sym g

pub ProbeCirclePointScoreSays-unique : (x y z : ℤ) (request : Request) (levels : List Float) (w h : ℕ) (target canvas : List Float) (r q : ProbedAnswer) → ProbeCirclePointScoreSays x y z request levels w h target canvas r → ProbeCirclePointScoreSays x y z request levels w h target canvas q → r ≡ q
ProbeCirclePointScoreSays-unique x y z request levels w h target canvas r q f g = f ∙ sym g

pub ProbeTrianglePointScoreSays-unique : (a b c d e k : ℤ) (request : Request) (levels : List Float) (w h : ℕ) (target canvas : List Float) (r q : ProbedAnswer) → ProbeTrianglePointScoreSays a b c d e k request levels w h target canvas r → ProbeTrianglePointScoreSays a b c d e k request levels w h target canvas q → r ≡ q
ProbeTrianglePointScoreSays-unique a b c d e k request levels w h target canvas r q f g = f ∙ sym g

pub ProbeAlphaSweepSays-unique : (s : ProbedSums) (levels : List Float) (n : ℕ) (r q : ProbedAnswer) → ProbeAlphaSweepSays s levels n r → ProbeAlphaSweepSays s levels n q → r ≡ q
ProbeAlphaSweepSays-unique s levels n r q f g = f ∙ sym g

pub ProbeCollectSpanSumsSays-unique : (kind : Kind) (w h : ℕ) (table : List Float) (r q : ProbedCollected) → ProbeCollectSpanSumsSays kind w h table r → ProbeCollectSpanSumsSays kind w h table q → r ≡ q
ProbeCollectSpanSumsSays-unique kind w h table r q f g = f ∙ sym g

pub ProbeCollectCircleSumsSays-unique : (x y z : ℤ) (w h : ℕ) (target canvas : List Float) (r q : ProbedCollected) → ProbeCollectCircleSumsSays x y z w h target canvas r → ProbeCollectCircleSumsSays x y z w h target canvas q → r ≡ q
ProbeCollectCircleSumsSays-unique x y z w h target canvas r q f g = f ∙ sym g

pub ProbeCollectTriangleSumsSays-unique : (a b c d e k : ℤ) (w h : ℕ) (target canvas : List Float) (r q : ProbedCollected) → ProbeCollectTriangleSumsSays a b c d e k w h target canvas r → ProbeCollectTriangleSumsSays a b c d e k w h target canvas q → r ≡ q
ProbeCollectTriangleSumsSays-unique a b c d e k w h target canvas r q f g = f ∙ sym g
