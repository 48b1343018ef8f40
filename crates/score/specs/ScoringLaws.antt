-- Laws: one answer for each promise.
use Rattle.std.specs.Prelude.{◌≡◌, List, ℕ, ℤ, Float}
use Rattle.std.proofs.Common.{sym, ◌∙◌}
use Rattle.cover.specs.declared.Kind.{Kind}
use Rattle.cover.specs.declared.Kind.TheVariants.{Circle, Triangle}
use Rattle.sums.specs.declared.ShapeSums.{ShapeSums}
use Rattle.grade.specs.declared.Score.{Score}
use Rattle.refusal.specs.Outcomes.{Outcome}
use Rattle.score.specs.declared.Request.{Request}
use Rattle.score.specs.Scoring.{CollectSpanSumsSays, CollectPointSumsSays, SpanScoreSays, PointScoreSays, CirclePointScoreSays, TrianglePointScoreSays, CollectCircleSumsSays, CollectTriangleSumsSays}

pub CollectSpanSumsSays-unique : (kind : Kind) (w h : ℕ) (table : List Float) (r q : Outcome ShapeSums) → CollectSpanSumsSays kind w h table r → CollectSpanSumsSays kind w h table q → r ≡ q
CollectSpanSumsSays-unique kind w h table r q f g = f ∙ sym g

pub CollectPointSumsSays-unique : (kind : Kind) (w h : ℕ) (target canvas : List Float) (r q : Outcome ShapeSums)
    → CollectPointSumsSays kind w h target canvas r → CollectPointSumsSays kind w h target canvas q → r ≡ q
CollectPointSumsSays-unique kind w h target canvas r q f g = f ∙ sym g

pub SpanScoreSays-unique : (kind : Kind) (request : Request) (levels : List Float) (w h : ℕ) (table : List Float) (r q : Outcome Score)
    → SpanScoreSays kind request levels w h table r → SpanScoreSays kind request levels w h table q → r ≡ q
SpanScoreSays-unique kind request levels w h table r q f g = f ∙ sym g

pub PointScoreSays-unique : (kind : Kind) (request : Request) (levels : List Float) (w h : ℕ) (target canvas : List Float) (r q : Outcome Score)
    → PointScoreSays kind request levels w h target canvas r → PointScoreSays kind request levels w h target canvas q → r ≡ q
PointScoreSays-unique kind request levels w h target canvas r q f g = f ∙ sym g

pub CirclePointScoreSays-unique : (x y z : ℤ) (request : Request) (levels : List Float) (w h : ℕ) (target canvas : List Float) (r q : Outcome Score)
    → CirclePointScoreSays x y z request levels w h target canvas r → CirclePointScoreSays x y z request levels w h target canvas q → r ≡ q
CirclePointScoreSays-unique x y z = PointScoreSays-unique (Circle x y z)

pub TrianglePointScoreSays-unique : (a b c d e f : ℤ) (request : Request) (levels : List Float) (w h : ℕ) (target canvas : List Float) (r q : Outcome Score)
    → TrianglePointScoreSays a b c d e f request levels w h target canvas r → TrianglePointScoreSays a b c d e f request levels w h target canvas q → r ≡ q
TrianglePointScoreSays-unique a b c d e f = PointScoreSays-unique (Triangle a b c d e f)

pub CollectCircleSumsSays-unique : (x y z : ℤ) (w h : ℕ) (target canvas : List Float) (r q : Outcome ShapeSums)
    → CollectCircleSumsSays x y z w h target canvas r → CollectCircleSumsSays x y z w h target canvas q → r ≡ q
CollectCircleSumsSays-unique x y z = CollectPointSumsSays-unique (Circle x y z)

pub CollectTriangleSumsSays-unique : (a b c d e f : ℤ) (w h : ℕ) (target canvas : List Float) (r q : Outcome ShapeSums)
    → CollectTriangleSumsSays a b c d e f w h target canvas r → CollectTriangleSumsSays a b c d e f w h target canvas q → r ≡ q
CollectTriangleSumsSays-unique a b c d e f = CollectPointSumsSays-unique (Triangle a b c d e f)
