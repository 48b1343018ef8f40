-- Laws: an answer is the right one, where the call is done and where it is refused.
use Rattle.std.specs.Prelude.{◌≡◌, Bool, true, false, cond, ℕ}
use Rattle.std.proofs.Common.{sym, ap, ◌∙◌, ne_eqb}
use Rattle.laws.specs.Answer.{answer}

module _ {A : Type 0} (n : ℕ) (right nought : A) where
  pub answer-done : (v : A) → v ≡ right → n ≡ 0 → record { number = 0; value = v; done = true } ≡ answer n right nought
  answer-done v f e =
      ap (λ (x : A). record { number = 0; value = x; done = true }) f ∙ sym (ap (λ (k : ℕ). answer k right nought) e)

  pub answer-refused : (m : ℕ) → m ≡ n → (m ≡ 0 → ⊥) → record { number = m; value = nought; done = false } ≡ answer n right nought
  answer-refused m e h =
      ap (λ (k : ℕ). record { number = k; value = nought; done = false }) e
      ∙ ap (λ (b : Bool). record { number = n; value = cond b right nought; done = b }) (sym (ne_eqb n 0 (λ z. h (e ∙ z))))
