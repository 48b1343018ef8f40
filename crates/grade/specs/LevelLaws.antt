-- Laws: one answer meets the promise of the levels; what each way out of the code gives.
use Rattle.std.specs.Prelude.{◌≡◌, Bool, cond, ℕ, ◌≤◌, ◌<◌, eqb, ltb, length, Float}
use Rattle.std.proofs.Common.{sym, ◌∙◌, ap, arith, eq-eqb, ne_eqb, lt-ltb, le-ltb}
use Rattle.std.proofs.Math.Bool.{not}
use mathlib.Core.List.{List, [], ◌∷◌}
use Rattle.refusal.specs.Refusals.{length_if, count_if}
use Rattle.refusal.specs.RefusalLaws.{lowest_skip, lowest-take, lowest-empty}
use Rattle.grade.specs.Levels.{levels, levels_refusal, AlphaLevelsSays}

pub AlphaLevelsSays-unique : (b : ℕ) (lent : List Float) (r s : ℕ) (m n : List Float) → AlphaLevelsSays b lent r m → AlphaLevelsSays b lent s n → (r ≡ s) × (m ≡ n)
AlphaLevelsSays-unique b lent r s m n p q = (p.0 ∙ sym q.0, p.1 ∙ sym q.1)

module _ (b : ℕ) (lent : List Float) where
  wrong_length : (length lent ≡ 64 → ⊥) → levels_refusal b lent ≡ 2
  unfolding levels_refusal
  wrong_length h = lowest-take (length_if (not (eqb (length lent) 64))) (count_if (ltb 6 b) ∷ []) (ap not (ne_eqb (length lent) 64 h)) tt

  wrong_bits : length lent ≡ 64 → 6 < b → levels_refusal b lent ≡ 3
  unfolding levels_refusal
  wrong_bits h g =
      lowest_skip (length_if (not (eqb (length lent) 64))) (count_if (ltb 6 b) ∷ []) (ap not (eq-eqb (length lent) 64 h))
      ∙ lowest-take (count_if (ltb 6 b)) [] (lt-ltb 6 b g) tt

  right : length lent ≡ 64 → b ≤ 6 → levels_refusal b lent ≡ 0
  unfolding levels_refusal
  right h g =
      lowest_skip (length_if (not (eqb (length lent) 64))) (count_if (ltb 6 b) ∷ []) (ap not (eq-eqb (length lent) 64 h))
      ∙ lowest_skip (count_if (ltb 6 b)) [] (le-ltb 6 b g)
      ∙ lowest-empty

  refused : (k : ℕ) → levels_refusal b lent ≡ k → (k ≡ 0 → ⊥) → AlphaLevelsSays b lent k lent
  refused k e n = (sym e, sym (ap (λ (t : Bool). cond t (levels b) lent) (ap (λ (j : ℕ). eqb j 0) e ∙ ne_eqb k 0 n)))

  pub says_length : (length lent ≡ 64 → ⊥) → AlphaLevelsSays b lent 2 lent
  says_length h = refused 2 (wrong_length h) (λ e. omega arith)

  pub says_bits : length lent ≡ 64 → 6 < b → AlphaLevelsSays b lent 3 lent
  says_bits h g = refused 3 (wrong_bits h g) (λ e. omega arith)

  pub says_levels : (after : List Float) → length lent ≡ 64 → b ≤ 6 → after ≡ levels b → AlphaLevelsSays b lent 0 after
  says_levels after h g e =
      (sym (right h g), e ∙ sym (ap (λ (t : Bool). cond t (levels b) lent) (ap (λ (j : ℕ). eqb j 0) (right h g))))
