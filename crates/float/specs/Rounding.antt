-- Laws: rounding to the nearest whole number by one division; and the bit pattern of a rounded value of binary32.
use Rattle.std.specs.Prelude.{◌≡◌, ℕ, zero, suc, ◌+◌, ◌-◌, ◌*◌, ◌/◌, ◌%◌, ◌^◌, ◌<◌, ◌≤◌, Bool, true, false, cond, not, T, ◌⊎◌, ◌==◌, nat_lt, refl, Float}
use Rattle.std.proofs.Common.{sym, ap, ◌∙◌, subst, inl, inr, add-zero, add_comm, add_assoc, le_trans, le_of_eq, lt_of_lt_of_le, lt_of_le_of_lt, lt_of_not-le, not-le_of_lt, eq-or-lt_of_le, div-add-mod', mod-lt, mul-div_cancel, mul_assoc, mul-le-mul_right, mul-le-mul, suc-mul, arith, leb→le, eqb→eq, ltb→lt, lit<, lit≤, pow-add, pow_pos, pow_mono, shl_lt}
use Prim.Native.Nat.{compare, Ordering}
use Rattle.std.proofs.Math.Nat.{add-mul-div_right, mul-add-mod_self_right, pow-succ'}
use Rattle.std.proofs.Math.Dec.{is_le, compare_is_eq, nleb→lt, eqb_refl}
use Rattle.std.proofs.Math.Arith.{lt_of_le-ne, digits_div}
use Rattle.std.specs.Float.{nan, inf, fin, Format, binary32}
use Rattle.std.specs.Float.Ieee.{prec, low, down, hid, top, size, nearest, odd, units, to_bits}
use Rattle.std.specs.Float.Ieee.Digits.{size-lt, size-le}
use Rattle.std.specs.Float.Ieee.Fits.{down_pos}
use Rattle.std.specs.Float.Ieee.Exact.{HasValue, units_val}
use Rattle.std.specs.Float.Ieee.Nearest.{closest}

-- ---- what `compare` says
abbrev pub Cmp : Ordering → ℕ → ℕ → Type 0
Cmp Ordering.lt a b = a < b
Cmp Ordering.eq a b = a ≡ b
Cmp Ordering.gt a b = b < a

pub cmp : (a b : ℕ) → Cmp (compare a b) a b
cmp a b = go (compare a b) (leb→le a b) (nleb→lt a b) (eqb→eq a b) (λ (e : a ≡ b). subst (λ (x : ℕ). T (a == x)) e (eqb_refl a))
  where
    go : (o : Ordering) → (T (is_le o) → a ≤ b) → (T (not (is_le o)) → b < a) → (T (compare_is_eq o) → a ≡ b) → (a ≡ b → T (compare_is_eq o)) → Cmp o a b
    go Ordering.lt h k e n = lt_of_le-ne (h tt) n
    go Ordering.eq h k e n = e tt
    go Ordering.gt h k e n = k tt

-- ---- the nearest whole number to q / (h + h), a tie to the even one, is one division
next : (w d v : ℕ) → d ≤ v → v < d + d → (w * d + v) / d ≡ suc w
next w d v l u =
    let e : w * d + v ≡ suc w * d + (v - d) = omega (arith, suc-mul w d) in
    ap (λ (x : ℕ). x / d) e ∙ digits_div (suc w) (omega arith)

half : (w m h : ℕ) (o : Ordering) → Cmp o (m * 2) (h + h) → m < h + h → 0 < h → nearest w o ≡ (w * (h + h) + (m + (h - 1) + w % 2)) / (h + h)
half w m h Ordering.lt c l p = sym (digits_div w (omega arith))
half w m h Ordering.gt c l p = sym (next w (h + h) (m + (h - 1) + w % 2) (omega arith) (omega arith))
half w m h Ordering.eq c l p = go (w % 2) (omega arith)
  where
    go : (z : ℕ) → z < 2 → w + z ≡ (w * (h + h) + (m + (h - 1) + z)) / (h + h)
    go zero y = add-zero w ∙ sym (digits_div w (omega arith))
    go (suc z) y = let k : w + suc z ≡ suc w = omega arith in k ∙ sym (next w (h + h) (m + (h - 1) + suc z) (omega arith) (omega arith))

pub closest_div : (q h : ℕ) → 0 < h → closest q (h + h) ≡ (q + (h - 1) + q / (h + h) % 2) / (h + h)
closest_div q h p =
    let d = h + h in
    let s = div-add-mod' q d in
    half (q / d) (q % d) h (compare (q % d * 2) d) (cmp (q % d * 2) d) (mod-lt q (omega arith)) p
    ∙ ap (λ (x : ℕ). x / d) (omega arith)

pub closest_shift : (q k : ℕ) → closest q (2 ^ (k + 1)) ≡ (q + (2 ^ k - 1) + q / 2 ^ (k + 1) % 2) / 2 ^ (k + 1)
closest_shift q k =
    let e : 2 ^ k + 2 ^ k ≡ 2 ^ (k + 1) = sym (pow-add 2 k 1 ∙ omega arith) in
    subst (λ (d : ℕ). closest q d ≡ (q + (2 ^ k - 1) + q / d % 2) / d) e (closest_div q (2 ^ k) (pow_pos k))

-- an even number of units more
more-near : (i w : ℕ) (o : Ordering) → nearest (i * 2 + w) o ≡ i * 2 + nearest w o
more-near i w Ordering.lt = refl
more-near i w Ordering.eq = omega arith
more-near i w Ordering.gt = omega arith

pub closest_more : (i q d : ℕ) → 0 < d → closest (i * 2 * d + q) d ≡ i * 2 + closest q d
closest_more i q d p =
    ap (λ (w : ℕ). nearest w (compare ((i * 2 * d + q) % d * 2) d)) (ap (λ (x : ℕ). x / d) (add_comm (i * 2 * d) q) ∙ add-mul-div_right q (i * 2) p ∙ add_comm (q / d) (i * 2))
    ∙ ap (λ (m : ℕ). nearest (i * 2 + q / d) (compare (m * 2) d)) (mul-add-mod_self_right (i * 2) d q)
    ∙ more-near i (q / d) (compare (q % d * 2) d)

-- ---- the pattern of a value, by its size in units of the format's smallest value
pub to_bits-value : (f : Format) (x : Float) (s : Bool) (a : ℕ) → HasValue x s a (2 ^ low f)
    → to_bits f x ≡ cond s (top f) 0 + (size a - prec f) * hid f + a / 2 ^ (size a - prec f)
unfolding to_bits
to_bits-value f nan s a h = absurd h
to_bits-value f (inf t) s a h = absurd h
to_bits-value f (fin t m e) s a h =
    ap (λ (n : ℕ). cond t (top f) 0 + (size n - prec f) * hid f + n / 2 ^ (size n - prec f)) (ap (λ (x : ℕ). x / down e) h.1 ∙ mul-div_cancel a (down_pos e))
    ∙ ap (λ (b : Bool). cond b (top f) 0 + (size a - prec f) * hid f + a / 2 ^ (size a - prec f)) h.0

pub size_gt : (n j : ℕ) → 2 ^ j ≤ n → j < size n
size_gt n j h = lt_of_not-le (λ (g : size n ≤ j). not-le_of_lt (lt_of_lt_of_le (size-lt n) (pow_mono g)) h)

pub size-drop : (p z k : ℕ) → z ≤ p + k → (k ≡ 0) ⊎ (p + k ≤ z) → z - p ≡ k
size-drop p z k h (inl e) = omega arith
size-drop p z k h (inr l) = omega arith

-- q * 2 ^ k units, with at most 24 digits in q, and all of them where a digit was dropped
abbrev pub Full : ℕ → ℕ → Type 0
Full q k = (k ≡ 0) ⊎ (0x80_0000 ≤ q)

full_size : (q k : ℕ) → q < 0x100_0000 → Full q k → size (q * 2 ^ k) - 24 ≡ k
full_size q k h (inl e) = size-drop 24 (size (q * 2 ^ k)) k (size-le (q * 2 ^ k) (24 + k) (shl_lt 24 k h)) (inl e)
full_size q k h (inr l) =
    let g = size_gt (q * 2 ^ k) (23 + k) (le_trans (le_of_eq (pow-add 2 23 k)) (mul-le-mul_right (2 ^ k) l)) in
    size-drop 24 (size (q * 2 ^ k)) k (size-le (q * 2 ^ k) (24 + k) (shl_lt 24 k h)) (inr (omega arith))

written : (x : Float) (s : Bool) (q k : ℕ) → HasValue x s (q * 2 ^ k) (2 ^ 149) → q < 0x100_0000 → Full q k → to_bits binary32 x ≡ cond s 0x8000_0000 0 + k * 0x80_0000 + q
written x s q k v h u =
    to_bits-value binary32 x s (q * 2 ^ k) v
    ∙ ap (λ (j : ℕ). cond s 0x8000_0000 0 + j * 0x80_0000 + q * 2 ^ k / 2 ^ j) (full_size q k h u)
    ∙ ap (λ (j : ℕ). cond s 0x8000_0000 0 + k * 0x80_0000 + j) (mul-div_cancel q (pow_pos k))

-- the infinity's pattern is 255 * 2 ^ 23, and the values from 2 ^ 277 units up are it
under : (q k : ℕ) → q ≤ 0x100_0000 → k * 0x80_0000 + q < 0x7f80_0000 → Full q k → q * 2 ^ k < 2 ^ 277
under q k h l u = go (eq-or-lt_of_le h)
  where
    few : k * 0x80_0000 + q < 0x7f80_0000 → Full q k → k ≤ 253
    few b (inl e) = omega arith
    few b (inr e) = omega arith

    go : (q ≡ 0x100_0000) ⊎ (q < 0x100_0000) → q * 2 ^ k < 2 ^ 277
    go (inl e) = lt_of_le_of_lt (mul-le-mul h (pow_mono {i = k} {j = 252} (omega arith))) (lit< tt)
    go (inr e) = lt_of_lt_of_le (shl_lt 24 k e) (pow_mono {i = 24 + k} {j = 277} (omega (arith, few l u)))

over : (q k : ℕ) → q ≤ 0x100_0000 → 0x7f80_0000 ≤ k * 0x80_0000 + q → Full q k → 2 ^ 277 ≤ q * 2 ^ k
over q k h l u = go (eq-or-lt_of_le h)
  where
    lots : Full q k → 0x80_0000 ≤ q
    lots (inl e) = omega arith
    lots (inr e) = e

    go : (q ≡ 0x100_0000) ⊎ (q < 0x100_0000) → 2 ^ 277 ≤ q * 2 ^ k
    go (inl e) = le_trans (pow_mono {i = 277} {j = 24 + k} (omega arith)) (le_trans (le_of_eq (pow-add 2 24 k)) (mul-le-mul_right (2 ^ k) (le_of_eq (sym e))))
    go (inr e) = le_trans (pow_mono {i = 277} {j = 23 + k} (omega arith)) (le_trans (le_of_eq (pow-add 2 23 k)) (mul-le-mul_right (2 ^ k) (lots u)))

-- ---- the pattern of q * 2 ^ k units: a carry out of the digits is one more in the exponent's field
pub units_under : (s : Bool) (q k : ℕ) → q ≤ 0x100_0000 → Full q k → k * 0x80_0000 + q < 0x7f80_0000
    → to_bits binary32 (units binary32 s q k) ≡ cond s 0x8000_0000 0 + (k * 0x80_0000 + q)
units_under s q k h u l = go (eq-or-lt_of_le h)
  where
    v : HasValue (units binary32 s q k) s (q * 2 ^ k) (2 ^ 149)
    v = units_val binary32 s q k (under q k h l u)

    go : (q ≡ 0x100_0000) ⊎ (q < 0x100_0000) → to_bits binary32 (units binary32 s q k) ≡ cond s 0x8000_0000 0 + (k * 0x80_0000 + q)
    go (inr e) = written (units binary32 s q k) s q k v e u ∙ add_assoc (cond s 0x8000_0000 0) (k * 0x80_0000) q
    go (inl e) =
        let w : q * 2 ^ k ≡ 0x80_0000 * 2 ^ suc k = ap (λ (z : ℕ). z * 2 ^ k) e ∙ mul_assoc 0x80_0000 2 (2 ^ k) ∙ ap (λ (z : ℕ). 0x80_0000 * z) (sym (pow-succ' 2 k)) in
        written (units binary32 s q k) s 0x80_0000 (suc k) (subst (λ (z : ℕ). HasValue (units binary32 s q k) s z (2 ^ 149)) w v) (lit< tt) (inr (lit≤ tt)) ∙ omega arith

pub units_over : (s : Bool) (q k : ℕ) → q ≤ 0x100_0000 → Full q k → 0x7f80_0000 ≤ k * 0x80_0000 + q
    → to_bits binary32 (units binary32 s q k) ≡ cond s 0x8000_0000 0 + 0x7f80_0000
unfolding units to_bits
units_over s q k h u l = go (nat_lt (q * 2 ^ k) (2 ^ 277)) (ltb→lt (q * 2 ^ k) (2 ^ 277))
  where
    go : (b : Bool) → (T b → q * 2 ^ k < 2 ^ 277) → to_bits binary32 (cond b (odd 25 s q k 149) (inf s)) ≡ cond s 0x8000_0000 0 + 0x7f80_0000
    go true t = absurd (not-le_of_lt (t tt) (over q k h l u))
    go false t = refl
