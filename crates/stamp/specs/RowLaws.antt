-- Laws: the first and the last digit of a row that is 1, by the zeros before and behind them.
use Rattle.std.specs.Prelude.{◌≡◌, ℕ, zero, suc, ◌+◌, ◌-◌, ◌<◌, ◌≤◌, Bool, true, false, ◌&&◌, ◌==◌, refl}
use Rattle.std.proofs.Common.{ap, ap₂, subst, arith, eqb→eq}
use Rattle.std.proofs.Math.Decide.{dec_le}
use Rattle.std.specs.Int.Count.{count_trailing_zeros, count_leading_zeros}
use Rattle.laws.specs.Bools.{and_left, and_right, true_is}
use Rattle.laws.specs.Fit.{no_both}
use Rattle.laws.specs.Ends.{Ends, none, ends, ends_of}
use Rattle.stamp.specs.Digits.{digit_is, moved, row_ends}

abbrev pub all_below : (ℕ → Bool) → ℕ → Bool
all_below p zero = true
all_below p (suc n) = p n && all_below p n

pub each_below : (p : ℕ → Bool) (n : ℕ) → all_below p n ≡ true → (k : ℕ) → k < n → p k ≡ true
each_below p zero h k l = absurd (omega arith)
each_below p (suc n) h k l = by (dec_le n k) (each_below p n (and_right (p n) (all_below p n) h) k)
  where
    by : Dec (n ≤ k) → (k < n → p k ≡ true) → p k ≡ true
    by (yes a) ih = let e : n ≡ k = omega arith in subst (λ (j : ℕ). p j ≡ true) e (and_left (p n) (all_below p n) h)
    by (no a) ih = ih (omega arith)

abbrev agree : Ends → ℕ → ℕ → Bool
agree none a b = false
agree (ends l r) a b = l == a && r == b

agreed : (e : Ends) (a b : ℕ) → agree e a b ≡ true → e ≡ ends a b
agreed none a b h = no_both h refl
agreed (ends l r) a b h = ap₂ ends (eqb→eq l a (true_is (l == a) (and_left (l == a) (r == b) h))) (eqb→eq r b (true_is (r == b) (and_right (l == a) (r == b) h)))

-- all 255 of them
abbrev check : ℕ → Bool
check n = agree (ends_of (digit_is (suc n)) 8) (count_trailing_zeros 32 (suc n)) (31 - count_leading_zeros 32 (suc n))

checked : all_below check 255 ≡ true
unfolding ends_of count_trailing_zeros count_leading_zeros
checked = refl

pub row-some : (b : ℕ) → 0 < b → b < 256 → ends_of (digit_is b) 8 ≡ ends (count_trailing_zeros 32 b) (31 - count_leading_zeros 32 b)
row-some zero p l = absurd (omega arith)
row-some (suc n) p l = agreed (ends_of (digit_is (suc n)) 8) (count_trailing_zeros 32 (suc n)) (31 - count_leading_zeros 32 (suc n)) (each_below check 255 checked n (omega arith))

pub row_ends_lem : (left b : ℕ) → 0 < b → b < 256 → row_ends left b ≡ ends (left + count_trailing_zeros 32 b) (left + (31 - count_leading_zeros 32 b))
row_ends_lem left b p l = ap (moved left) (row-some b p l)

pub row_none : (left : ℕ) → row_ends left 0 ≡ none
unfolding ends_of
row_none left = refl
