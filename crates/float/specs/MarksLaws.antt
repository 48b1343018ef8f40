-- Laws: a pattern without the top bit, of a float that is at most 1, is of one within 0..1; lists of them; sums and differences that are numbers.
use Rattle.std.specs.Prelude.{◌≡◌, ℕ, zero, suc, ◌+◌, ◌-◌, ◌*◌, ◌/◌, ◌%◌, ◌^◌, ◌<◌, ◌≤◌, Bool, true, false, cond, ◌&&◌, T, List, length, take, ◌==◌, bit_or, nat_lt, slice_index_or, to_bits, refl, Float}
use Rattle.std.proofs.Common.{sym, ◌∙◌, subst, zero-mul, arith, le_trans, lit<, lit≤, mul-le-mul, pow_pos, pow_mono}
use Rattle.std.proofs.Math.Decide.{dec_le}
use Rattle.std.specs.Bool.{beq}
use Rattle.std.specs.Int.Bits.{or_add_and}
use Rattle.std.proofs.lemmas.Nat.{and_le_l, and_le_r}
use Rattle.std.proofs.lemmas.Bool.{lt-leb, ne_eqb, false_from_ne_true}
use Rattle.std.specs.Float.{nan, inf, fin, Format, binary32}
use Rattle.std.specs.Float.Ieee.{lt, eq, le, fits, is_nan, odd, round, sum, of_fields, of_bits, add, sub, neg}
use Rattle.std.specs.Float.Ieee.Bits.{of_bits-to_bits}
use Rattle.std.specs.Float.Ieee.Exact.{HasValue, odd_sign}
use Rattle.std.specs.Float.Ieee.Fits.{and_i}
use Rattle.std.specs.Float.Ieee.Order.{le_of_values}
use Rattle.float.specs.Within.{nought, one, number, within, all_within, all_numbers}
use Rattle.laws.specs.EveryLaws.{every-step}
use Rattle.laws.specs.Bools.{is_true, true_is}
use Rattle.laws.specs.Fit.{no_both}
use Rattle.float.specs.Numbers.{itself_number, round_no_nan}
use Rattle.float.specs.WithinLaws.{all_within_numbers}

-- ---- a pattern without the top bit, of a float that is at most 1
pick : (P : Float → Type 0) (b : Bool) (x y : Float) → P x → P y → P (cond b x y)
pick P true x y f g = f
pick P false x y f g = g

abbrev Low : Float → Type 0
Low x = T (le x one) → T (le nought x)

low_value : (x : Float) (a c : ℕ) → 0 < c → HasValue x false a c → Low x
low_value x a c C v h = le_of_values nought x 0 1 a c (lit< tt) C (refl, refl) v (omega (arith, zero-mul c))

low_none : (t : ℕ) → Low (cond (t == 0) (inf false) nan)
unfolding le lt eq
low_none t = pick Low (t == 0) (inf false) nan (λ h. absurd h) (λ h. absurd h)

low_fields : (x t : ℕ) → Low (of_fields binary32 false x t)
unfolding of_fields
low_fields zero t = low_value (odd 24 false t 0 149) (t * 2 ^ 0) (2 ^ 149) (pow_pos 149) (odd_sign 24 false t 0 149)
low_fields (suc x) t =
    pick Low (suc x == 255) (cond (t == 0) (inf false) nan) (odd 24 false (0x80_0000 + t) x 149) (low_none t)
    (low_value (odd 24 false (0x80_0000 + t) x 149) ((0x80_0000 + t) * 2 ^ x) (2 ^ 149) (pow_pos 149) (odd_sign 24 false (0x80_0000 + t) x 149))

low_bits : (b : ℕ) → b < 0x8000_0000 → Low (of_bits binary32 b)
unfolding of_bits
low_bits b h =
    subst (λ (s : Bool). Low (of_fields binary32 s (b % 0x8000_0000 / 0x80_0000) (b % 0x80_0000))) (sym (lt-leb 0x8000_0000 b h))
    (low_fields (b % 0x8000_0000 / 0x80_0000) (b % 0x80_0000))

pub low_within : (x : Float) → T (fits binary32 x) → T (le x one) → to_bits binary32 x < 0x8000_0000 → T (within x)
unfolding within
low_within x f l h = and_i (le nought x) (le x one) (subst Low (of_bits-to_bits binary32 x f) (low_bits (to_bits binary32 x) h) l) l

-- ---- a pattern up to that of 1
upto_value : (x : Float) (a c : ℕ) → 0 < c → HasValue x false a c → a ≤ c → T (le x one)
upto_value x a c C v h = le_of_values x one a c 1 1 C (lit< tt) v (refl, refl) (omega arith)

upto_product : (x t : ℕ) → suc x * 0x80_0000 + t ≤ 0x3f80_0000 → t < 0x80_0000 → (0x80_0000 + t) * 2 ^ x ≤ 2 ^ 149
upto_product x t h l = by (dec_le x 125)
  where
    by : Dec (x ≤ 125) → (0x80_0000 + t) * 2 ^ x ≤ 2 ^ 149
    by (yes k) = mul-le-mul {n₁ = 0x80_0000 + t} {m₁ = 2 ^ x} {n₂ = 0x100_0000} {m₂ = 2 ^ 125} (omega arith) (pow_mono k)
    by (no k) = mul-le-mul {n₁ = 0x80_0000 + t} {m₁ = 2 ^ x} {n₂ = 0x80_0000} {m₂ = 2 ^ 126} (omega arith) (pow_mono {j = 126} (omega arith))

upto_fields : (x t : ℕ) → x * 0x80_0000 + t ≤ 0x3f80_0000 → t < 0x80_0000 → T (le (of_fields binary32 false x t) one)
unfolding of_fields
upto_fields zero t h l =
    upto_value (odd 24 false t 0 149) (t * 2 ^ 0) (2 ^ 149) (pow_pos 149) (odd_sign 24 false t 0 149)
    (small t l)
  where
    small : (t : ℕ) → t < 0x80_0000 → t * 2 ^ 0 ≤ 2 ^ 149
    small t l = let k : t * 1 ≤ 0x80_0000 = omega arith in le_trans k (lit≤ tt)
upto_fields (suc x) t h l =
    subst (λ (b : Bool). T (le (cond b (cond (t == 0) (inf false) nan) (odd 24 false (0x80_0000 + t) x 149)) one)) (sym (ne_eqb (suc x) 255 (λ e. omega arith)))
    (upto_value (odd 24 false (0x80_0000 + t) x 149) ((0x80_0000 + t) * 2 ^ x) (2 ^ 149) (pow_pos 149) (odd_sign 24 false (0x80_0000 + t) x 149) (upto_product x t h l))

upto_bits : (b : ℕ) → b ≤ 0x3f80_0000 → T (le (of_bits binary32 b) one)
unfolding of_bits
upto_bits b h =
    subst (λ (s : Bool). T (le (of_fields binary32 s (b % 0x8000_0000 / 0x80_0000) (b % 0x80_0000)) one)) (sym (lt-leb 0x8000_0000 b (omega arith)))
    (upto_fields (b % 0x8000_0000 / 0x80_0000) (b % 0x80_0000) (omega arith) (omega arith))

pub upto_within : (x : Float) → T (fits binary32 x) → to_bits binary32 x ≤ 0x3f80_0000 → T (within x)
upto_within x f h = low_within x f (subst (λ (v : Float). T (le v one)) (of_bits-to_bits binary32 x f) (upto_bits (to_bits binary32 x) h)) (omega arith)

-- ---- patterns put together: the top bit is clear only where each one's is
pub or_low : (a b n : ℕ) → bit_or a b < n → (a < n) × (b < n)
or_low a b n h = (omega (arith, or_add_and a b, and_le_r a b), omega (arith, or_add_and a b, and_le_l a b))

pub one_more : (xs : List Float) (i : ℕ) → i < length xs → T (all_within (take i xs)) → T (within (slice_index_or xs i nan)) → T (all_within (take (i + 1) xs))
one_more xs i l p q =
    let a = all_within (take i xs) in
    let b = within (slice_index_or xs i nan) in
    subst T (every-step within xs i nan a b l refl refl) (and_i a b p q)

-- of a list with a NaN not all are within
pub none_within : (xs : List Float) → all_numbers xs ≡ false → all_within xs ≡ false
none_within xs h =
    false_from_ne_true (all_within xs) (λ e. no_both (is_true (all_numbers xs) (all_within_numbers xs (true_is (all_within xs) e))) h)

-- ---- sums and differences that are numbers
either : (k : Bool) (x y : Float) → T (number x) → T (number y) → T (number (cond k x y))
either true x y p q = p
either false x y p q = q

pub sum_number : (f : Format) (s : Bool) (a : ℕ) (t : Bool) (b c : ℕ) → T (number (sum f s a t b c))
unfolding sum
sum_number f s a t b c =
    either (beq s t) (round f s (a + b) c) (cond (nat_lt a b) (round f t (b - a) c) (round f (s && nat_lt b a) (a - b) c))
    (round_no_nan f s (a + b) c)
    (either (nat_lt a b) (round f t (b - a) c) (round f (s && nat_lt b a) (a - b) c) (round_no_nan f t (b - a) c) (round_no_nan f (s && nat_lt b a) (a - b) c))

-- a sum that is a number is of two numbers
pub sum_numbers : (f : Format) (x y : Float) → T (number (add f x y)) → T (number x) × T (number y)
unfolding add is_nan
sum_numbers f nan y h = absurd h
sum_numbers f (inf s) nan h = absurd h
sum_numbers f (inf s) (inf t) h = (tt, tt)
sum_numbers f (inf s) (fin t n d) h = (tt, tt)
sum_numbers f (fin s m e) nan h = absurd h
sum_numbers f (fin s m e) (inf t) h = (tt, tt)
sum_numbers f (fin s m e) (fin t n d) h = (tt, tt)

-- three addends of a sum that equals itself
pub addends : (f : Format) (x y z : Float) → eq (add f (add f x y) z) (add f (add f x y) z) ≡ true → T (number x) × T (number y) × T (number z)
addends f x y z e =
    let p = sum_numbers f (add f x y) z (true_is (number (add f (add f x y) z)) (sym (itself_number (add f (add f x y) z)) ∙ e)) in
    let q = sum_numbers f x y p.0 in
    (q.0, q.1, p.1)

negated_number : (y : Float) → T (number (neg y)) → T (number y)
unfolding neg is_nan
negated_number nan h = absurd h
negated_number (inf s) h = tt
negated_number (fin s m e) h = tt

-- and so is a difference
pub parts_numbers : (f : Format) (x y : Float) → T (number (sub f x y)) → T (number x) × T (number y)
unfolding sub
parts_numbers f x y h = let p = sum_numbers f x (neg y) h in (p.0, negated_number y p.1)
