-- Laws: tests in the order of their numbers, asked one after another, find the lowest number that holds; such a chain cut in two.
use Rattle.std.specs.Prelude.{◌≡◌, refl, Bool, true, false, ◌&&◌, cond, List, [], ◌∷◌, ◌++◌, ℕ, ◌<◌, T, eqb, ltb}
use Rattle.std.proofs.Common.{sym, ◌∙◌, ap, arith, ltb-true, eq-eqb, ne_eqb}
use Rattle.laws.specs.Bools.{is_true, true_is, and_left, and_right}
use Rattle.refusal.specs.Refusals.{Test, lowest}
use Rattle.refusal.specs.RefusalLaws.{above, lowest_skip, lowest-take}

-- the first that holds
abbrev pub chain : List Test → ℕ
chain [] = 0
chain (t ∷ r) = cond t.holds t.number (chain r)

-- it computes for a list of named tests
abbrev pub ascending : List Test → Bool
ascending [] = true
ascending (t ∷ r) = above t.number r && ascending r

pub lowest-chain : (ts : List Test) → T (ascending ts) → lowest ts ≡ chain ts
unfolding lowest
lowest-chain [] h = refl
lowest-chain (t ∷ r) h = by t.holds refl (lowest-chain r)
  where
    up : above t.number r ≡ true
    up = and_left (above t.number r) (ascending r) (is_true (ascending (t ∷ r)) h)

    rest : T (ascending r)
    rest = true_is (ascending r) (and_right (above t.number r) (ascending r) (is_true (ascending (t ∷ r)) h))

    by : (b : Bool) → t.holds ≡ b → (T (ascending r) → lowest r ≡ chain r) → lowest (t ∷ r) ≡ cond b t.number (chain r)
    by true e i = lowest-take t r e (true_is (above t.number r) up)
    by false e i = lowest_skip t r e ∙ i rest

-- cut in two: the second part is asked where the first found nothing
pub chain-append : (a b : List Test) → T (above 0 a) → chain (a ++ b) ≡ cond (eqb (chain a) 0) (chain b) (chain a)
chain-append [] b h = refl
chain-append (t ∷ r) b h = by t.holds (chain-append r b)
  where
    both : above 0 (t ∷ r) ≡ true
    both = is_true (above 0 (t ∷ r)) h

    positive : 0 < t.number
    positive = ltb-true 0 t.number (and_left (ltb 0 t.number) (above 0 r) both)

    by : (x : Bool) → (T (above 0 r) → chain (r ++ b) ≡ cond (eqb (chain r) 0) (chain b) (chain r))
        → cond x t.number (chain (r ++ b)) ≡ cond (eqb (cond x t.number (chain r)) 0) (chain b) (cond x t.number (chain r))
    by true i = sym (ap (λ (z : Bool). cond z (chain b) t.number) (ne_eqb t.number 0 (λ e. omega (arith, positive))))
    by false i = i (true_is (above 0 r) (and_right (ltb 0 t.number) (above 0 r) both))

pub chain_stop : (a b : List Test) → T (above 0 a) → (chain a ≡ 0 → ⊥) → chain (a ++ b) ≡ chain a
chain_stop a b h n = chain-append a b h ∙ ap (λ (z : Bool). cond z (chain b) (chain a)) (ne_eqb (chain a) 0 n)

pub chain_on : (a b : List Test) → T (above 0 a) → chain a ≡ 0 → chain (a ++ b) ≡ chain b
chain_on a b h e = chain-append a b h ∙ ap (λ (z : Bool). cond z (chain b) (chain a)) (eq-eqb (chain a) 0 e)

-- what 0 means
pub chain-none : (t : Test) (r : List Test) → T (above 0 (t ∷ r)) → chain (t ∷ r) ≡ 0 → (t.holds ≡ false) × (chain r ≡ 0)
chain-none t r h e = by t.holds refl
  where
    positive : 0 < t.number
    positive = ltb-true 0 t.number (and_left (ltb 0 t.number) (above 0 r) (is_true (above 0 (t ∷ r)) h))

    by : (b : Bool) → t.holds ≡ b → (t.holds ≡ false) × (chain r ≡ 0)
    by true p = absurd (omega (arith, positive, sym (ap (λ (z : Bool). cond z t.number (chain r)) p) ∙ e))
    by false p = (p, sym (ap (λ (z : Bool). cond z t.number (chain r)) p) ∙ e)

-- ---- the tests of a function, asked in their order: one is passed by, one is met, none is left
pub passed-by : (t : Test) (r : List Test) {n : ℕ} → t.holds ≡ false → n ≡ lowest r → n ≡ lowest (t ∷ r)
passed-by t r e p = p ∙ sym (lowest_skip t r e)

pub met : (t : Test) (r : List Test) → T (above t.number r) → t.holds ≡ true → t.number ≡ lowest (t ∷ r)
met t r h e = sym (lowest-take t r e h)

pub none_left : 0 ≡ lowest []
unfolding lowest
none_left = refl
