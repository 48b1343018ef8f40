-- Laws: two answers of a probe are equal.
use Rattle.std.specs.Prelude.{◌≡◌, List, ℕ, ℤ, Float, Option, None, Some}
use Rattle.std.proofs.Common.{sym, ◌∙◌}
use Rattle.cover.specs.declared.Kind.{Kind}
use Rattle.crossing.specs.Outlines.{kind_of}
use Rattle.picture.specs.PixelLaws.{FilledCanvasSays-unique}
use Rattle.probe_picture.specs.declared.ProbedMean.{ProbedMean}
use Rattle.probe_picture.specs.declared.ProbedTotal.{ProbedTotal}
use Rattle.probe_picture.specs.declared.ProbedReach.{ProbedReach}
use Rattle.probe_picture.specs.Probes.{
  Blended,
  ProbeFilledCanvasSays,
  ProbeMeanRgbSays,
  ProbeSseTotalSays,
  Blends,
  ProbeBlendSays,
  ProbeReachSays,
}

pub ProbeFilledCanvasSays-unique : (w h : ℕ) (red green blue : Float) (old : List Float) (r s : ℕ) (a b : List Float)
    → ProbeFilledCanvasSays w h red green blue old r a → ProbeFilledCanvasSays w h red green blue old s b → (r ≡ s) × (a ≡ b)
ProbeFilledCanvasSays-unique = FilledCanvasSays-unique

pub ProbeMeanRgbSays-unique : (w h : ℕ) (target : List Float) (r s : ProbedMean) → ProbeMeanRgbSays w h target r → ProbeMeanRgbSays w h target s → r ≡ s
ProbeMeanRgbSays-unique w h target r s p q = p ∙ sym q

pub ProbeSseTotalSays-unique : (w h : ℕ) (target canvas : List Float) (r s : ProbedTotal) → ProbeSseTotalSays w h target canvas r → ProbeSseTotalSays w h target canvas s → r ≡ s
ProbeSseTotalSays-unique w h target canvas r s p q = p ∙ sym q

pub blended_unique : (kind : Kind) (opacity red green blue : Float) (w h : ℕ) (old : List Float) (r s : ℕ) (a b : List Float)
    → Blended kind opacity red green blue w h old r a → Blended kind opacity red green blue w h old s b → (r ≡ s) × (a ≡ b)
blended_unique kind opacity red green blue w h old r s a b p q =
    let e = p.number ∙ sym q.number in
    (e, p.left ∙ rw e (sym q.left))

module _ (opacity red green blue : Float) (w h : ℕ) (old : List Float) (r s : ℕ) (a b : List Float) where
  blends_one : (kind : Option Kind) → Blends kind opacity red green blue w h old r a → Blends kind opacity red green blue w h old s b → (r ≡ s) × (a ≡ b)
  blends_one None p q = (p.0 ∙ sym q.0, p.1 ∙ sym q.1)
  blends_one (Some kind) p q = blended_unique kind opacity red green blue w h old r s a b p q

  pub ProbeBlendSays-unique : (shape : List ℤ) → ProbeBlendSays w h shape opacity red green blue old r a → ProbeBlendSays w h shape opacity red green blue old s b → (r ≡ s) × (a ≡ b)
  ProbeBlendSays-unique shape = blends_one (kind_of shape)

pub ProbeReachSays-unique : (w h : ℕ) (shape : List ℤ) (r s : ProbedReach) → ProbeReachSays w h shape r → ProbeReachSays w h shape s → r ≡ s
ProbeReachSays-unique w h shape r s p q = p ∙ sym q
