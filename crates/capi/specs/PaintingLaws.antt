-- Laws: two answers of the paint export are equal, and so is what they leave.
use Rattle.std.specs.Prelude.{◌≡◌, List, ℕ, ℤ, Float, Option, None, Some}
use Rattle.std.proofs.Common.{sym, ◌∙◌}
use Rattle.cover.specs.declared.Kind.{Kind}
use Rattle.paint.specs.PaintLaws.{PaintSays-unique}
use Rattle.crossing.specs.Outlines.{kind_of}
use Rattle.capi.specs.Painting.{Paints, SillbadgerPaintSays}

module _ (opacity red green blue : Float) (w h : ℕ) (target canvas table : List Float) (r k : ℕ) (a b s t : List Float) where
  paints-one : (kind : Option Kind) → Paints kind opacity red green blue w h target canvas table r a s → Paints kind opacity red green blue w h target canvas table k b t
      → (r ≡ k) × (a ≡ b) × (s ≡ t)
  paints-one None p q = (p.0 ∙ sym q.0, p.1 ∙ sym q.1, p.2 ∙ sym q.2)
  paints-one (Some kind) p q = PaintSays-unique kind opacity red green blue w h target canvas table r k a b s t p q

  pub SillbadgerPaintSays-unique : (shape : List ℤ) → SillbadgerPaintSays w h shape opacity red green blue target canvas table r a s
      → SillbadgerPaintSays w h shape opacity red green blue target canvas table k b t → (r ≡ k) × (a ≡ b) × (s ≡ t)
  SillbadgerPaintSays-unique shape p q = paints-one (kind_of shape) p q
