-- Laws: `finalize`'s two errors, their terms read in whole numbers, are the squared errors of the pixels, added up: as they are, and with the colour drawn over them.
use Rattle.std.specs.Prelude.{◌≡◌, [], ◌∷◌, ℤ, Float}
use Rattle.std.proofs.Math.Path.{refl, ap}
use Rattle.std.proofs.Common.{◌∙◌, add-one}
use Prim.Native.Nat.{ℕ, zero, suc}
use Rattle.std.proofs.Math.IntN.{pos, ◌+ℤ◌, ◌-ℤ◌, ◌*ℤ◌}
use Rattle.laws.specs.Poly.{x, c, ◌⊞◌, ◌⊟◌, ◌⊠◌, ring}
use Rattle.laws.specs.Before.{before}
use Rattle.laws.specs.F64.{◌⊕◌, ◌⊖◌, ◌⊗◌}
use Rattle.grade.specs.Finalize.{two, error_before, error_after}

-- the terms, in any arithmetic
module _ {E : Type 0} (twice : E) (◌+◌ ◌-◌ ◌*◌ : E → E → E) where
  infixl 6 ◌+◌ ◌-◌
  infixl 7 ◌*◌
  abbrev pub before_terms : E → E → E → E
  before_terms t2 tc c2 = t2 - twice * tc + c2

  abbrev pub after_terms : E → E → E → E → E → E → E → E → E → E
  after_terms t2 tc c2 t k a m p n = t2 - twice * m * tc + m * m * c2 - twice * a * p * t + twice * a * m * p * k + a * a * p * p * n

-- in f64 they are the rule's
pub before_terms_lem : (t2 tc c2 : Float) → error_before t2 tc c2 ≡ before_terms two ◌⊕◌ ◌⊖◌ ◌⊗◌ t2 tc c2
unfolding error_before
before_terms_lem t2 tc c2 = refl

pub after_terms_lem : (t2 tc c2 t k a m p n : Float) → error_after t2 tc c2 t k a m p n ≡ after_terms two ◌⊕◌ ◌⊖◌ ◌⊗◌ t2 tc c2 t k a m p n
unfolding error_after
after_terms_lem t2 tc c2 t k a m p n = refl

-- ---- in whole numbers

abbrev total : (ℕ → ℤ) → ℕ → ℤ
total f n = before (pos 0) ◌+ℤ◌ f n

module _ (t k : ℕ → ℤ) where
  abbrev t2 : ℕ → ℤ
  t2 i = t i *ℤ t i

  abbrev tk : ℕ → ℤ
  tk i = t i *ℤ k i

  abbrev k2 : ℕ → ℤ
  k2 i = k i *ℤ k i

  -- target t and canvas k of pixels 0 to n
  pub before_means : (n : ℕ) → total (λ i. (t i -ℤ k i) *ℤ (t i -ℤ k i)) n ≡ before_terms (pos 2) ◌+ℤ◌ ◌-ℤ◌ ◌*ℤ◌ (total t2 n) (total tk n) (total k2 n)
  unfolding before
  before_means zero = refl
  before_means (suc n) =
      ap (λ (z : ℤ). z +ℤ (t n -ℤ k n) *ℤ (t n -ℤ k n)) (before_means n)
      ∙ ring (total t2 n ∷ total tk n ∷ total k2 n ∷ t n ∷ k n ∷ [])
      (x 0 ⊟ c (pos 2) ⊠ x 1 ⊞ x 2 ⊞ (x 3 ⊟ x 4) ⊠ (x 3 ⊟ x 4))
      ((x 0 ⊞ x 3 ⊠ x 3) ⊟ c (pos 2) ⊠ (x 1 ⊞ x 3 ⊠ x 4) ⊞ (x 2 ⊞ x 4 ⊠ x 4))
      tt

  -- each pixel becomes m·k + a·p
  module _ (a m p : ℤ) where
    pub after_means : (n : ℕ) → total (λ i. (t i -ℤ (m *ℤ k i +ℤ a *ℤ p)) *ℤ (t i -ℤ (m *ℤ k i +ℤ a *ℤ p))) n
        ≡ after_terms (pos 2) ◌+ℤ◌ ◌-ℤ◌ ◌*ℤ◌ (total t2 n) (total tk n) (total k2 n) (total t n) (total k n) a m p (pos n)
    unfolding before
    after_means zero = ring (a ∷ m ∷ p ∷ []) (c (pos 0)) (c (pos 0) ⊟ c (pos 2) ⊠ x 1 ⊠ c (pos 0) ⊞ x 1 ⊠ x 1 ⊠ c (pos 0) ⊟ c (pos 2) ⊠ x 0 ⊠ x 2 ⊠ c (pos 0) ⊞ c (pos 2) ⊠ x 0 ⊠ x 1 ⊠ x 2 ⊠ c (pos 0) ⊞ x 0 ⊠ x 0 ⊠ x 2 ⊠ x 2 ⊠ c (pos 0)) tt
    after_means (suc n) =
        ap (λ (z : ℤ). z +ℤ (t n -ℤ (m *ℤ k n +ℤ a *ℤ p)) *ℤ (t n -ℤ (m *ℤ k n +ℤ a *ℤ p))) (after_means n)
        ∙ ring (total t2 n ∷ total tk n ∷ total k2 n ∷ total t n ∷ total k n ∷ a ∷ m ∷ p ∷ pos n ∷ t n ∷ k n ∷ [])
        ((x 0 ⊟ c (pos 2) ⊠ x 6 ⊠ x 1 ⊞ x 6 ⊠ x 6 ⊠ x 2 ⊟ c (pos 2) ⊠ x 5 ⊠ x 7 ⊠ x 3 ⊞ c (pos 2) ⊠ x 5 ⊠ x 6 ⊠ x 7 ⊠ x 4 ⊞ x 5 ⊠ x 5 ⊠ x 7 ⊠ x 7 ⊠ x 8) ⊞ (x 9 ⊟ (x 6 ⊠ x 10 ⊞ x 5 ⊠ x 7)) ⊠ (x 9 ⊟ (x 6 ⊠ x 10 ⊞ x 5 ⊠ x 7)))
        ((x 0 ⊞ x 9 ⊠ x 9) ⊟ c (pos 2) ⊠ x 6 ⊠ (x 1 ⊞ x 9 ⊠ x 10) ⊞ x 6 ⊠ x 6 ⊠ (x 2 ⊞ x 10 ⊠ x 10) ⊟ c (pos 2) ⊠ x 5 ⊠ x 7 ⊠ (x 3 ⊞ x 9) ⊞ c (pos 2) ⊠ x 5 ⊠ x 6 ⊠ x 7 ⊠ (x 4 ⊞ x 10) ⊞ x 5 ⊠ x 5 ⊠ x 7 ⊠ x 7 ⊠ (x 8 ⊞ c (pos 1)))
        tt
        ∙ ap (λ (i : ℕ). after_terms (pos 2) ◌+ℤ◌ ◌-ℤ◌ ◌*ℤ◌ (total t2 (suc n)) (total tk (suc n)) (total k2 (suc n)) (total t (suc n)) (total k (suc n)) a m p (pos i)) (add-one n)
