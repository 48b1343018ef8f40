-- Laws: a shape has one outline.
use Rattle.std.specs.Prelude.{◌≡◌, refl, Bool, true, false, cond, ◌||◌, List, ℕ, ◌≤◌, eqb, ℤ, Option}
use Rattle.std.proofs.Common.{sym, ◌∙◌, arith, eq-eqb, ne_eqb, eqb-true}
use Rattle.cover.specs.declared.Kind.{Kind}
use Rattle.laws.specs.Fit.{no_both}
use Rattle.crossing.specs.Outlines.{sized, wanted, OutlineSays}

pub OutlineSays-unique : (zs : List ℤ) (r s : Option Kind) → OutlineSays zs r → OutlineSays zs s → r ≡ s
OutlineSays-unique zs r s p q = p ∙ sym q

-- ---- how many coordinates are there
module _ (n l : ℕ) (h : wanted n ≤ l) where
  pub three : n ≡ 3 → 3 ≤ l
  three e = simp (eq-eqb n 3 e) at h

  pub six : (n ≡ 3 → ⊥) → n ≡ 6 → 6 ≤ l
  six d e = simp (ne_eqb n 3 d, eq-eqb n 6 e) at h

  pub eight : (n ≡ 3 → ⊥) → (n ≡ 6 → ⊥) → 8 ≤ l
  eight d e = simp (ne_eqb n 3 d, ne_eqb n 6 e) at h

pub at_most_eight : (n : ℕ) → wanted n ≤ 8
at_most_eight n = by (eqb n 3) (eqb n 6)
  where
    by : (a b : Bool) → cond a 3 (cond b 6 8) ≤ 8
    by true b = omega arith
    by false true = omega arith
    by false false = omega arith

-- a slice of so many has what its kind wants
pub all_there : (n : ℕ) → sized n ≡ true → wanted n ≤ n
all_there n e = by (eqb n 3) (eqb n 6) (eqb n 8) refl refl refl e
  where
    by : (a b d : Bool) → eqb n 3 ≡ a → eqb n 6 ≡ b → eqb n 8 ≡ d → (a || b || d) ≡ true → cond a 3 (cond b 6 8) ≤ n
    by true b d p q r t = omega (arith, eqb-true n 3 p)
    by false true d p q r t = omega (arith, eqb-true n 6 q)
    by false false true p q r t = omega (arith, eqb-true n 8 r)
    by false false false p q r t = no_both t refl
