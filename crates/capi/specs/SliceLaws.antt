-- Laws: two answers of an export on lent slices are equal, and so is what they leave; how an answer that is an enum is exported.
use Rattle.std.specs.Prelude.{◌≡◌, refl, Bool, true, false, cond, List, ℕ, zero, suc, ℤ, Float}
use Rattle.std.proofs.Common.{sym, ap, ◌∙◌, arith, ne_eqb}
use Rattle.laws.specs.Answer.{Answer, answer}
use Rattle.laws.specs.Fit.{no_both}
use Rattle.grade.specs.LevelLaws.{AlphaLevelsSays-unique}
use Rattle.picture.specs.PixelLaws.{FilledCanvasSays-unique}
use Rattle.table.specs.TableLaws.{BuildSays-unique, UpdateCanvasRowsSays-unique}
use Rattle.capi.specs.declared.SillbadgerAnswer.{SillbadgerAnswer}
use Rattle.capi.specs.Answers.{answered, refused_by}
use Rattle.capi.specs.Pictures.{SillbadgerLevelsSays, SillbadgerFillSays, SillbadgerMeanSays, SillbadgerTotalSays}
use Rattle.capi.specs.Tables.{SillbadgerBuildSays, SillbadgerUpdateSays}

pub SillbadgerLevelsSays-unique : (b : ℕ) (lent : List Float) (r s : ℕ) (m n : List Float) → SillbadgerLevelsSays b lent r m → SillbadgerLevelsSays b lent s n → (r ≡ s) × (m ≡ n)
SillbadgerLevelsSays-unique b lent r s m n = AlphaLevelsSays-unique b lent r s m n

pub SillbadgerFillSays-unique : (w h : ℕ) (red green blue : Float) (old : List Float) (r s : ℕ) (m n : List Float)
    → SillbadgerFillSays w h red green blue old r m → SillbadgerFillSays w h red green blue old s n → (r ≡ s) × (m ≡ n)
SillbadgerFillSays-unique w h red green blue old r s m n = FilledCanvasSays-unique w h red green blue old r s m n

module _ (w h : ℕ) (target : List Float) (r s : SillbadgerAnswer) where
  pub SillbadgerMeanSays-unique : SillbadgerMeanSays w h target r → SillbadgerMeanSays w h target s → r ≡ s
  SillbadgerMeanSays-unique p q = p ∙ sym q

  pub SillbadgerTotalSays-unique : (canvas : List Float) → SillbadgerTotalSays w h target canvas r → SillbadgerTotalSays w h target canvas s → r ≡ s
  SillbadgerTotalSays-unique canvas p q = p ∙ sym q

module _ (w h : ℕ) (target canvas old : List Float) (r s : ℕ) (m n : List Float) where
  pub SillbadgerBuildSays-unique : SillbadgerBuildSays w h target canvas old r m → SillbadgerBuildSays w h target canvas old s n → (r ≡ s) × (m ≡ n)
  SillbadgerBuildSays-unique = BuildSays-unique target canvas w h old r s m n

  pub SillbadgerUpdateSays-unique : (ymin ymax : ℤ) → SillbadgerUpdateSays w h target canvas ymin ymax old r m → SillbadgerUpdateSays w h target canvas ymin ymax old s n
      → (r ≡ s) × (m ≡ n)
  SillbadgerUpdateSays-unique = UpdateCanvasRowsSays-unique target canvas w h old r s m n

-- ---- an answer in document 01's terms, whatever its value is
pub tells_value : {A : Type 0} (no : ℕ) (right nothing : A) (f : A → SillbadgerAnswer) (x : A) → record { number = 0; value = x; done = true } ≡ answer no right nothing → f x ≡ answered no (f right)
tells_value zero right nothing f x e = ap (λ (a : Answer _). f a.value) e
tells_value (suc n) right nothing f x e = absurd (omega (arith, ap (λ (a : Answer _). a.number) e))

pub tells_refusal : {A : Type 0} (no : ℕ) (right nothing : A) (k : ℕ) (done : SillbadgerAnswer) → record { number = k; value = nothing; done = false } ≡ answer no right nothing
    → refused_by k ≡ answered no done
tells_refusal zero right nothing k done e = no_both refl (sym (ap (λ (a : Answer _). a.done) e))
tells_refusal (suc n) right nothing k done e =
    ap (λ (a : Answer _). refused_by a.number) e ∙ sym (ap (λ (b : Bool). cond b done (refused_by (suc n))) (ne_eqb (suc n) 0 (λ z. omega arith)))
