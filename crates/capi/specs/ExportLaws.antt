-- Laws: two answers of an export are equal; how a query's answer is exported.
use Rattle.std.specs.Prelude.{◌≡◌, refl, true, false, ℕ, zero, suc, ℤ, pos, neg_ℤ}
use Rattle.std.proofs.Common.{sym, ap, ◌∙◌, arith}
use Rattle.laws.specs.Answer.{Answer, answer}
use Rattle.laws.specs.Fit.{no_both}
use Rattle.capi.specs.Exports.{
  exported,
  SillbadgerNarrowBitsSays,
  SillbadgerCountCircleSays,
  SillbadgerCountTriangleSays,
  SillbadgerCountQuadSays,
  SillbadgerLeftCircleSays,
  SillbadgerLeftTriangleSays,
  SillbadgerLeftQuadSays,
  SillbadgerRightCircleSays,
  SillbadgerRightTriangleSays,
  SillbadgerRightQuadSays,
}

pub SillbadgerNarrowBitsSays-unique : (b : ℕ) (r s : ℤ) → SillbadgerNarrowBitsSays b r → SillbadgerNarrowBitsSays b s → r ≡ s
SillbadgerNarrowBitsSays-unique b r s p q = p ∙ sym q

module _ (w h : ℕ) (a b : ℤ) where
  pub SillbadgerCountCircleSays-unique : (cx cy r : ℤ) → SillbadgerCountCircleSays w h cx cy r a → SillbadgerCountCircleSays w h cx cy r b → a ≡ b
  SillbadgerCountCircleSays-unique cx cy r p q = p ∙ sym q

  pub SillbadgerCountTriangleSays-unique : (x0 y0 x1 y1 x2 y2 : ℤ) → SillbadgerCountTriangleSays w h x0 y0 x1 y1 x2 y2 a → SillbadgerCountTriangleSays w h x0 y0 x1 y1 x2 y2 b → a ≡ b
  SillbadgerCountTriangleSays-unique x0 y0 x1 y1 x2 y2 p q = p ∙ sym q

  pub SillbadgerCountQuadSays-unique : (x0 y0 x1 y1 x2 y2 x3 y3 : ℤ) → SillbadgerCountQuadSays w h x0 y0 x1 y1 x2 y2 x3 y3 a → SillbadgerCountQuadSays w h x0 y0 x1 y1 x2 y2 x3 y3 b → a ≡ b
  SillbadgerCountQuadSays-unique x0 y0 x1 y1 x2 y2 x3 y3 p q = p ∙ sym q

  pub SillbadgerLeftCircleSays-unique : (cx cy r y : ℤ) → SillbadgerLeftCircleSays w h cx cy r y a → SillbadgerLeftCircleSays w h cx cy r y b → a ≡ b
  SillbadgerLeftCircleSays-unique cx cy r y p q = p ∙ sym q

  pub SillbadgerLeftTriangleSays-unique : (x0 y0 x1 y1 x2 y2 y : ℤ) → SillbadgerLeftTriangleSays w h x0 y0 x1 y1 x2 y2 y a → SillbadgerLeftTriangleSays w h x0 y0 x1 y1 x2 y2 y b → a ≡ b
  SillbadgerLeftTriangleSays-unique x0 y0 x1 y1 x2 y2 y p q = p ∙ sym q

  pub SillbadgerLeftQuadSays-unique : (x0 y0 x1 y1 x2 y2 x3 y3 y : ℤ) → SillbadgerLeftQuadSays w h x0 y0 x1 y1 x2 y2 x3 y3 y a → SillbadgerLeftQuadSays w h x0 y0 x1 y1 x2 y2 x3 y3 y b → a ≡ b
  SillbadgerLeftQuadSays-unique x0 y0 x1 y1 x2 y2 x3 y3 y p q = p ∙ sym q

  pub SillbadgerRightCircleSays-unique : (cx cy r y : ℤ) → SillbadgerRightCircleSays w h cx cy r y a → SillbadgerRightCircleSays w h cx cy r y b → a ≡ b
  SillbadgerRightCircleSays-unique cx cy r y p q = p ∙ sym q

  pub SillbadgerRightTriangleSays-unique : (x0 y0 x1 y1 x2 y2 y : ℤ) → SillbadgerRightTriangleSays w h x0 y0 x1 y1 x2 y2 y a → SillbadgerRightTriangleSays w h x0 y0 x1 y1 x2 y2 y b → a ≡ b
  SillbadgerRightTriangleSays-unique x0 y0 x1 y1 x2 y2 y p q = p ∙ sym q

  pub SillbadgerRightQuadSays-unique : (x0 y0 x1 y1 x2 y2 x3 y3 y : ℤ) → SillbadgerRightQuadSays w h x0 y0 x1 y1 x2 y2 x3 y3 y a → SillbadgerRightQuadSays w h x0 y0 x1 y1 x2 y2 x3 y3 y b → a ≡ b
  SillbadgerRightQuadSays-unique x0 y0 x1 y1 x2 y2 x3 y3 y p q = p ∙ sym q

-- ---- a query's answer, whatever its value is
pub exports_value : {A : Type 0} (no : ℕ) (right nought : A) (f : A → ℤ) (x : A) → record { number = 0; value = x; done = true } ≡ answer no right nought → f x ≡ exported no (f right)
exports_value zero right nought f x e = ap (λ (a : Answer _). f a.value) e
exports_value (suc n) right nought f x e = absurd (omega (arith, ap (λ (a : Answer _). a.number) e))

pub exports_refusal : {A : Type 0} (no : ℕ) (right nought : A) (k : ℕ) (v : ℤ) → record { number = k; value = nought; done = false } ≡ answer no right nought → neg_ℤ (pos k) ≡ exported no v
exports_refusal zero right nought k v e = no_both refl (sym (ap (λ (a : Answer _). a.done) e))
exports_refusal (suc n) right nought k v e = ap (λ (a : Answer _). neg_ℤ (pos a.number)) e
