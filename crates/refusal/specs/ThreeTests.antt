-- Laws: an entry point with three tests, size, length and one of a larger number n: what each way through them answers, and what 0 gives; and with the first two in a function of their own.
use Rattle.std.specs.Prelude.{◌≡◌, Bool, ◌||◌, ℕ, ◌<◌, ltb}
use Rattle.std.proofs.Math.Path.{refl, sym}
use Rattle.std.proofs.Common.{ap, ◌∙◌, arith, lt-ltb}
use Rattle.std.proofs.Math.Bool.{true, false}
use mathlib.Core.List.{List, [], ◌∷◌}
use Rattle.refusal.specs.Refusals.{Test, lowest, size_if, length_if}
use Rattle.refusal.specs.RefusalLaws.{lowest_skip, lowest-take, lowest-none}

module _ (size length third : Bool) (n : ℕ) (large : 2 < n) where
  abbrev last : List Test
  last = record { number = n; holds = third } ∷ []

  abbrev tests : List Test
  tests = size_if size ∷ length_if length ∷ last

  one-n : ltb 1 n ≡ true
  one-n = lt-ltb 1 n (omega arith)

  two-n : ltb 2 n ≡ true
  two-n = lt-ltb 2 n large

  none-n : ltb 0 n ≡ true
  none-n = lt-ltb 0 n (omega arith)

  pub at_size : size ≡ true → 1 ≡ lowest tests
  at_size p = sym (lowest-take (size_if size) (length_if length ∷ last) p (rw one-n tt))

  pub at_length : size ≡ false → length ≡ true → 2 ≡ lowest tests
  at_length p q = sym (lowest_skip (size_if size) (length_if length ∷ last) p ∙ lowest-take (length_if length) last q (rw two-n tt))

  pub at-third : size ≡ false → length ≡ false → third ≡ true → n ≡ lowest tests
  at-third p q r =
      sym
      (lowest_skip (size_if size) (length_if length ∷ last) p
      ∙ lowest_skip (length_if length) last q
      ∙ lowest-take (record { number = n; holds = third }) [] r tt)

  pub at_none : size ≡ false → length ≡ false → third ≡ false → 0 ≡ lowest tests
  unfolding lowest
  at_none p q r =
      sym
      (lowest_skip (size_if size) (length_if length ∷ last) p
      ∙ lowest_skip (length_if length) last q
      ∙ lowest_skip (record { number = n; holds = third }) [] r)

  -- every test was passed
  pub passed : lowest tests ≡ 0 → (size ≡ false) × (length ≡ false) × (third ≡ false)
  passed e =
      let a = lowest-none (size_if size) (length_if length ∷ last) (rw none-n tt) e in
      let b = lowest-none (length_if length) last (rw none-n tt) a.1 in
      let c = lowest-none (record { number = n; holds = third }) [] (rw none-n tt) b.1 in
      (a.0, b.0, c.0)

-- ---- size and length alone
pub two-passed : (size length : Bool) → lowest (size_if size ∷ length_if length ∷ []) ≡ 0 → (size ≡ false) × (length ≡ false)
two-passed size length e =
    let a = lowest-none (size_if size) (length_if length ∷ []) tt e in
    let b = lowest-none (length_if length) [] tt a.1 in
    (a.0, b.0)

pub two_none : (size length : Bool) → size ≡ false → length ≡ false → 0 ≡ lowest (size_if size ∷ length_if length ∷ [])
unfolding lowest
two_none size length p q = sym (lowest_skip (size_if size) (length_if length ∷ []) p ∙ lowest_skip (length_if length) [] q)

module _ (third : Bool) (n : ℕ) (large : 2 < n) where
  -- they were refused: a further length and the third test change nothing
  pub two-refused : (size length more : Bool) → (lowest (size_if size ∷ length_if length ∷ []) ≡ 0 → ⊥)
      → lowest (size_if size ∷ length_if length ∷ []) ≡ lowest (size_if size ∷ length_if (length || more) ∷ record { number = n; holds = third } ∷ [])
  unfolding lowest
  two-refused true true more r = at_size true true third n large refl
  two-refused true false more r = at_size true more third n large refl
  two-refused false true more r = at_length false true third n large refl refl
  two-refused false false more r = absurd (r refl)

  pub one-length : (length : Bool) → length || false ≡ length
  one-length true = refl
  one-length false = refl

  pub refused-first : (size length : Bool) → (lowest (size_if size ∷ length_if length ∷ []) ≡ 0 → ⊥)
      → lowest (size_if size ∷ length_if length ∷ []) ≡ lowest (size_if size ∷ length_if length ∷ record { number = n; holds = third } ∷ [])
  refused-first size length r =
      two-refused size length false r ∙ ap (λ (b : Bool). lowest (size_if size ∷ length_if b ∷ record { number = n; holds = third } ∷ [])) (one-length length)

  -- the first length was passed, and the second was refused
  pub refused-second : (size length more : Bool) → length ≡ false → (lowest (size_if size ∷ length_if more ∷ []) ≡ 0 → ⊥)
      → lowest (size_if size ∷ length_if more ∷ []) ≡ lowest (size_if size ∷ length_if (length || more) ∷ record { number = n; holds = third } ∷ [])
  refused-second size length more p r = rw p (refused-first size more r)
