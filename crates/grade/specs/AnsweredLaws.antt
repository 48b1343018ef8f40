-- Laws: the two ways to answer.
use Rattle.std.specs.Prelude.{◌≡◌, Bool, cond, ℕ}
use Rattle.std.proofs.Common.{sym, ◌∙◌, ap, eq-eqb, ne_eqb}
use Rattle.refusal.specs.Outcomes.{Done, Refused}
use Rattle.grade.specs.Answered.{answered}

pub answered-refused : {A : Type 0} (n k : ℕ) (s : A) → k ≡ n → (k ≡ 0 → ⊥) → Refused k ≡ answered n s
answered-refused n k s e z = ap Refused e ∙ sym (ap (λ (b : Bool). cond b (Done s) (Refused n)) (ne_eqb n 0 (λ q. z (e ∙ q))))

pub answered-done : {A : Type 0} (n : ℕ) (s t : A) → n ≡ 0 → t ≡ s → Done t ≡ answered n s
answered-done n s t z e = ap Done e ∙ sym (ap (λ (b : Bool). cond b (Done s) (Refused n)) (eq-eqb n 0 z))
