use Rattle.std.proofs.Common.{refl, ap, inl, inr, ⊎_elim}
use native.Mathlib.Omega.{arith}
use borrow.Author.Tests.{ne_eqb, lt-ltb, le-ltb}
use Prim.Native.Nat.{ℕ, zero, suc, ◌<◌, ◌≤◌, ◌+◌, ◌%◌}
use Rattle.std.specs.Prelude.{◌≡◌, ◌⊎◌, Some}
use Rattle.words.specs.Words.{negated}
use Rattle.words.proofs.negative.Goals as goal

-- The rule's cases, by the test.

pub returns-then-n-gt9223372036854775808 : goal.returns-then-n-gt9223372036854775808
unfolding negated
returns-then-n-gt9223372036854775808 c =
    let n = c.args.n in
    simp (ne_eqb n 0 (λ z. omega arith), lt-ltb 9223372036854775808 n (omega arith))

zero_or_not : (n : ℕ) → (n ≡ 0) ⊎ (n ≡ 0 → ⊥)
zero_or_not zero = inl refl
zero_or_not (suc m) = inr (λ z. omega arith)

-- 2^64 less n is 0 for 0
back : (n r : ℕ) → n ≤ 9223372036854775808 → r < 18446744073709551616 → (r + n) % 18446744073709551616 ≡ 0 → Some r ≡ negated (Some n)
unfolding negated
back n r h k e = ⊎_elim (λ (z : n ≡ 0). rw z (ap Some (omega arith))) (λ (z : n ≡ 0 → ⊥). simp (ne_eqb n 0 z, le-ltb 9223372036854775808 n h) (ap Some (omega arith))) (zero_or_not n)

pub returns : goal.returns
returns c = back c.args.n c.wrapping_neg.result (omega arith) (omega arith) c.wrapping_neg.ensures
