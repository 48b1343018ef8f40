-- Laws: the binary32 pattern of a binary64 pattern's value, rounded.
use Rattle.std.specs.Prelude.{◌≡◌, ℕ, zero, suc, ◌+◌, ◌-◌, ◌*◌, ◌/◌, ◌%◌, ◌^◌, ◌<◌, ◌≤◌, Bool, true, false, cond, not, ◌&&◌, ◌||◌, T, ltb, leb, ◌⊎◌, ◌==◌, nat_le, nat_lt, refl, Float}
use Rattle.std.proofs.Common.{sym, ◌∙◌, subst, inl, inr, zero-add, zero-mul, not-le_of_lt, lt_trans, mod-lt, add-zero, mod-eq_of_lt, le-add_right, lt_irrefl, le_trans, le_of_eq, lt_of_lt_of_le, eq-or-lt_of_le, mul_assoc, mul-pos, mul-le-mul_right, div-lt_iff_lt-mul, le-div_iff_mul-le, arith, leb→le, eqb→eq, lit<, lit≤, ltb-true, ltb-false, leb-true, leb-false, lt-ltb, le-ltb, le-leb, pow-add, pow_pos, pow_mono, shl_lt}
use Rattle.std.proofs.Math.Path.{ap}
use Prim.Native.Nat.{zero-le, compare, Ordering}
use Rattle.std.proofs.Math.Nat.{div-eq_of_lt}
use Rattle.std.proofs.Math.Decide.{dec_le}
use Rattle.std.proofs.Math.Dec.{nleb→lt, not_T}
use Rattle.std.proofs.lemmas.Bool.{lt-leb}
use Rattle.std.proofs.Math.Pow.{mod-mod-pow}
use Rattle.std.specs.Float.{nan, inf, fin, binary64}
use Rattle.std.specs.Float.Ieee.{binary32, up, down, lt, fits, is_nan, size, nearest, odd, units, of_fields, of_bits, to_bits}
use Rattle.std.specs.Float.Ieee.Digits.{size-le}
use Rattle.std.specs.Float.Ieee.Fits.{core, round_is, nearest-le}
use Rattle.std.specs.Float.Ieee.Bits.{cond_no, of_bits-to_bits}
use Rattle.std.specs.Float.Ieee.Exact.{odd_sign}
use Rattle.std.specs.Float.Ieee.Nearest.{closest, closest_same, nearest-ge}
use Rattle.laws.specs.Bools.{and_left, and_right, or_left, or_right}
use Rattle.laws.specs.Fit.{no_both}
use Rattle.float.specs.Within.{nought, number}
use Rattle.float.specs.Narrowed.{narrowed}
use Rattle.float.specs.Shortened.{shortened}
use Rattle.float.specs.Numbers.{above_nan}
use Rattle.float.specs.NarrowLaws.{narrowed-value}
use Rattle.float.specs.Rounding.{Cmp, cmp, closest_div, closest_more, size_gt, size-drop, units_under, units_over}

shifts : (q a b c e f : ℕ) → a + b + c ≡ e + f → q * 2 ^ a * 2 ^ b * 2 ^ c ≡ q * (2 ^ e * 2 ^ f)
shifts q a b c e f h =
    ap (λ (x : ℕ). x * 2 ^ c) (mul_assoc q (2 ^ a) (2 ^ b))
    ∙ mul_assoc q (2 ^ a * 2 ^ b) (2 ^ c)
    ∙ ap (λ (x : ℕ). q * x) (ap (λ (x : ℕ). x * 2 ^ c) (sym (pow-add 2 a b)) ∙ sym (pow-add 2 (a + b) c) ∙ ap (λ (x : ℕ). 2 ^ x) h ∙ pow-add 2 e f)

-- ---- two tests at once
and-rest : (a c : Bool) → a && c ≡ false → a ≡ true → c ≡ false
and-rest true c h e = h
and-rest false c h e = no_both e refl

or-rest : (a c : Bool) → a || c ≡ true → c ≡ false → a ≡ true
or-rest true c h e = refl
or-rest false c h e = no_both h e

or_other : (a c : Bool) → a || c ≡ true → a ≡ false → c ≡ true
or_other true c h e = no_both refl e
or_other false c h e = h

pub between : (a r c : ℕ) → nat_le a r && nat_lt r c ≡ true → (a ≤ r) × (r < c)
between a r c h = (leb-true a r (and_left (nat_le a r) (nat_lt r c) h), ltb-true r c (and_right (nat_le a r) (nat_lt r c) h))

pub not_outside : (a r c : ℕ) → nat_lt r a || nat_le c r ≡ false → (a ≤ r) × (r < c)
not_outside a r c h = (ltb-false r a (or_left (nat_lt r a) (nat_le c r) h), leb-false c r (or_right (nat_lt r a) (nat_le c r) h))

pub two_shifts : (q a b : ℕ) → q * 2 ^ a * 2 ^ b ≡ q * 2 ^ (a + b)
two_shifts q a b = mul_assoc q (2 ^ a) (2 ^ b) ∙ ap (λ (x : ℕ). q * x) (sym (pow-add 2 a b))

-- the whole part of q * 2 ^ j / 2 ^ 1074 in units of 2 ^ -149 has 24 + k digits, or no more than 24 where k is 0
digits : (q j d k : ℕ) → q < 2 ^ 53 → j + d ≡ 896 + k → (k ≡ 0) ⊎ ((d ≡ 0) × (2 ^ 52 ≤ q)) → size (q * 2 ^ j * 2 ^ 149 / 2 ^ 1074) - 24 ≡ k
digits q j d k h e c =
    size-drop 24 (size n) k
    (size-le n (24 + k)
    ((div-lt_iff_lt-mul (pow_pos 1074)).1
    (lt_of_lt_of_le (subst (λ (x : ℕ). x < 2 ^ (53 + (j + 149))) (sym (two_shifts q j 149)) (shl_lt 53 (j + 149) h))
    (le_trans (pow_mono {i = 53 + (j + 149)} {j = 24 + k + 1074} (omega arith)) (le_of_eq (pow-add 2 (24 + k) 1074))))))
    (go c)
  where
    n : ℕ
    n = q * 2 ^ j * 2 ^ 149 / 2 ^ 1074

    go : (k ≡ 0) ⊎ ((d ≡ 0) × (2 ^ 52 ≤ q)) → (k ≡ 0) ⊎ (24 + k ≤ size n)
    go (inl z) = inl z
    go (inr (z, l)) =
        let g = size_gt n (23 + k) ((le-div_iff_mul-le (pow_pos 1074)).1
        (le_trans (le_of_eq (sym (pow-add 2 (23 + k) 1074) ∙ ap (λ (x : ℕ). 2 ^ x) (omega arith) ∙ pow-add 2 52 (j + 149)))
        (le_trans (mul-le-mul_right (2 ^ (j + 149)) l) (le_of_eq (sym (two_shifts q j 149)))))) in
        inr (omega arith)

pub narrow_odd : (s : Bool) (q j d k : ℕ) → q < 2 ^ 53 → j + d ≡ 896 + k → (k ≡ 0) ⊎ ((d ≡ 0) × (2 ^ 52 ≤ q))
    → narrowed (odd 53 s q j 1074) ≡ units binary32 s (closest q (2 ^ (29 + d))) k
narrow_odd s q j d k h e c =
    let n = q * 2 ^ j * 2 ^ 149 in
    narrowed-value (odd 53 s q j 1074) s (q * 2 ^ j) (2 ^ 1074) (pow_pos 1074) (odd_sign 53 s q j 1074)
    ∙ round_is binary32 s (q * 2 ^ j) (2 ^ 1074)
    ∙ ap (λ (z : ℕ). core binary32 s n (2 ^ 1074) z) (digits q j d k h e c)
    ∙ ap (λ (z : ℕ). units binary32 s z k)
    (closest_same n (2 ^ 1074 * 2 ^ k) q (2 ^ (29 + d)) (mul-pos (pow_pos 1074) (pow_pos k)) (pow_pos (29 + d)) (shifts q j 149 (29 + d) 1074 k (omega arith)))

-- ---- the patterns of binary64
abbrev pub answer : ℕ → ℕ
answer b = to_bits binary32 (narrowed (of_bits binary64 b))

abbrev pub sgn : ℕ → ℕ
sgn b = b / 0x8000_0000_0000_0000 * 0x8000_0000

sign_is : (b : ℕ) → b < 0x1_0000_0000_0000_0000 → cond (nat_le 0x8000_0000_0000_0000 b) 0x8000_0000 0 ≡ sgn b
sign_is b h = go (nat_le 0x8000_0000_0000_0000 b) (leb→le 0x8000_0000_0000_0000 b) (nleb→lt 0x8000_0000_0000_0000 b)
  where
    go : (c : Bool) → (T c → 0x8000_0000_0000_0000 ≤ b) → (T (not c) → b < 0x8000_0000_0000_0000) → cond c 0x8000_0000 0 ≡ sgn b
    go true t f = let l = t tt in omega arith
    go false t f = let l = f tt in omega arith

pub of64 : (b : ℕ) → of_bits binary64 b ≡ of_fields binary64 (nat_le 0x8000_0000_0000_0000 b) (b % 0x8000_0000_0000_0000 / 0x10_0000_0000_0000) (b % 0x10_0000_0000_0000)
unfolding of_bits
of64 b = refl

pub mid : (s : Bool) (t x : ℕ) → suc x < 2047 → of_fields binary64 s (suc x) t ≡ odd 53 s (0x10_0000_0000_0000 + t) x 1074
unfolding of_fields
mid s t x h =
    cond_no (suc x == 2047) (cond (t == 0) (inf s) nan) (odd 53 s (0x10_0000_0000_0000 + t) x 1074) (not_T (suc x == 2047) (λ (u : T (suc x == 2047)). differ (eqb→eq (suc x) 2047 u)))
  where
    differ : suc x ≡ 2047 → ⊥
    differ e = omega arith

last : (s : Bool) → of_fields binary64 s 2047 0 ≡ inf s
unfolding of_fields
last s = refl

first : (s : Bool) (t : ℕ) → of_fields binary64 s 0 t ≡ odd 53 s t 0 1074
unfolding of_fields
first s t = refl

-- ---- a NaN
pub at_nan : (b : ℕ) → 0x7ff0_0000_0000_0000 < b % 0x8000_0000_0000_0000 → answer b ≡ 0x7fc0_0000
unfolding to_bits narrowed
at_nan b h = ap (λ (v : Float). to_bits binary32 (narrowed v)) (above_nan binary64 b h)

-- ---- the closest, bounded
pub closest_le : (q d k : ℕ) → 0 < d → q < suc k * d → closest q d ≤ suc k
closest_le q d k p h = le_trans (nearest-le (q / d) (compare (q % d * 2) d)) ((div-lt_iff_lt-mul p).1 h)

-- ---- the normal range of binary32, up to the infinity: x is the exponent's field, t the digits
module _ (s : Bool) (t y : ℕ) (H : t < 0x10_0000_0000_0000) where
  abbrev q : ℕ
  q = 0x10_0000_0000_0000 + t

  q-lt : q < 2 ^ 53
  q-lt = omega arith

  pub normal_le : closest q 0x2000_0000 ≤ 0x100_0000
  normal_le = closest_le q 0x2000_0000 0xff_ffff (lit< tt) (omega arith)

  pub normal_ge : 0x80_0000 ≤ closest q 0x2000_0000
  normal_ge = le_trans (omega arith) (nearest-ge (q / 0x2000_0000) (compare (q % 0x2000_0000 * 2) 0x2000_0000))

  -- exponent field suc y, from 897 up
  pub normal : 896 ≤ y → suc y < 2047 → narrowed (of_fields binary64 s (suc y) t) ≡ units binary32 s (closest q 0x2000_0000) (y - 896)
  normal l h = ap narrowed (mid s t y h) ∙ narrow_odd s q y 0 (y - 896) q-lt (omega arith) (inr (refl, le-add_right 0x10_0000_0000_0000 t))

  pub normal_under : 896 ≤ y → (y - 896) * 0x80_0000 + closest q 0x2000_0000 < 0x7f80_0000
      → to_bits binary32 (narrowed (of_fields binary64 s (suc y) t)) ≡ cond s 0x8000_0000 0 + ((y - 896) * 0x80_0000 + closest q 0x2000_0000)
  normal_under l h = ap (to_bits binary32) (normal l (omega arith)) ∙ units_under s (closest q 0x2000_0000) (y - 896) normal_le (inr normal_ge) h

  pub normal_over : 896 ≤ y → suc y < 2047 → 0x7f80_0000 ≤ (y - 896) * 0x80_0000 + closest q 0x2000_0000
      → to_bits binary32 (narrowed (of_fields binary64 s (suc y) t)) ≡ cond s 0x8000_0000 0 + 0x7f80_0000
  normal_over l m h = ap (to_bits binary32) (normal l m) ∙ units_over s (closest q 0x2000_0000) (y - 896) normal_le (inr normal_ge) h

  -- below it: a multiple of the smallest value
  pub tiny_le : (d : ℕ) → 0 < d → closest q (2 ^ (29 + d)) ≤ 0x80_0000
  tiny_le d p =
      closest_le q (2 ^ (29 + d)) 0x7f_ffff (pow_pos (29 + d))
      (lt_of_lt_of_le q-lt (le_trans (pow_mono {i = 53} {j = 23 + (29 + d)} (omega arith)) (le_of_eq (pow-add 2 23 (29 + d)))))

  pub tiny : (d : ℕ) → y + d ≡ 896 → 0 < d → to_bits binary32 (narrowed (of_fields binary64 s (suc y) t)) ≡ cond s 0x8000_0000 0 + closest q (2 ^ (29 + d))
  tiny d e p =
      let w = tiny_le d p in
      ap (to_bits binary32) (ap narrowed (mid s t y (omega arith)) ∙ narrow_odd s q y d 0 q-lt (omega arith) (inl refl))
      ∙ units_under s (closest q (2 ^ (29 + d))) 0 (omega arith) (inl refl) (omega arith)
      ∙ omega arith

-- ---- too small
closest_zero : (q d : ℕ) → q * 2 < d → closest q d ≡ 0
closest_zero q d h =
    ap (λ (w : ℕ). nearest w (compare (q % d * 2) d)) (div-eq_of_lt (omega arith))
    ∙ ap (λ (m : ℕ). nearest 0 (compare (m * 2) d)) (mod-eq_of_lt (omega arith))
    ∙ go (compare (q * 2) d) (cmp (q * 2) d)
  where
    go : (o : Ordering) → Cmp o (q * 2) d → nearest 0 o ≡ 0
    go Ordering.lt c = refl
    go Ordering.eq c = absurd (lt_irrefl d (subst (λ (z : ℕ). z < d) c h))
    go Ordering.gt c = absurd (lt_irrefl d (lt_trans c h))

-- ---- the code's sum: what is above 896 * 2 ^ 52 in the pattern, its last 29 digits rounded off
shortened-is : (r : ℕ) → 0x3810_0000_0000_0000 ≤ r
    → (r / 0x10_0000_0000_0000 - 1 - 896) * 0x80_0000 + closest (0x10_0000_0000_0000 + r % 0x10_0000_0000_0000) 0x2000_0000 ≡ shortened (r - 0x3800_0000_0000_0000)
shortened-is r h =
    let i = (r / 0x10_0000_0000_0000 - 897) * 0x40_0000 in
    let q = 0x10_0000_0000_0000 + r % 0x10_0000_0000_0000 in
    let e : i * 2 * 0x2000_0000 + q ≡ r - 0x3800_0000_0000_0000 = omega arith in
    let f : (r / 0x10_0000_0000_0000 - 1 - 896) * 0x80_0000 ≡ i * 2 = omega arith in
    ap (λ (z : ℕ). z + closest q 0x2000_0000) f ∙ sym (closest_more i q 0x2000_0000 (lit< tt)) ∙ ap (λ (z : ℕ). closest z 0x2000_0000) e ∙ closest_div (r - 0x3800_0000_0000_0000) 0x1000_0000 (lit< tt)

-- from 2^128 - 2^103 on, a tie with the odd largest number, it is the infinity's or beyond
shortened-over : (u : ℕ) → 0xfef_ffff_f000_0000 ≤ u → 0x7f80_0000 ≤ shortened u
shortened-over u h = go (dec_le 0x7f80_0000 (u / 0x2000_0000))
  where
    go : Dec (0x7f80_0000 ≤ u / 0x2000_0000) → 0x7f80_0000 ≤ shortened u
    go (yes l) = omega arith
    go (no l) =
        let e : u / 0x2000_0000 ≡ 0x7f7f_ffff = omega arith in
        let o : u / 0x2000_0000 % 2 ≡ 1 = ap (λ (z : ℕ). z % 2) e in
        omega (arith, o)

at_inf : (s : Bool) → to_bits binary32 (narrowed (of_fields binary64 s 2047 0)) ≡ cond s 0x8000_0000 0 + 0x7f80_0000
unfolding to_bits narrowed
at_inf s = ap (λ (v : Float). to_bits binary32 (narrowed v)) (last s)

-- a subnormal
none : (s : Bool) (t : ℕ) → t < 0x10_0000_0000_0000 → to_bits binary32 (narrowed (of_fields binary64 s 0 t)) ≡ cond s 0x8000_0000 0 + 0
none s t h =
    ap (λ (v : Float). to_bits binary32 (narrowed v)) (first s t)
    ∙ ap (to_bits binary32)
    (narrow_odd s t 0 896 0 (omega arith) refl (inl refl) ∙ ap (λ (z : ℕ). units binary32 s z 0) (closest_zero t (2 ^ 925) (lt_trans (shl_lt 52 1 h) (lit< tt))))
    ∙ units_under s 0 0 (lit≤ tt) (inl refl) (lit< tt)

-- ---- the four finite cases, in the code's words. r is the pattern without its sign
abbrev pub body : ℕ → ℕ
body b = b % 0x8000_0000_0000_0000

abbrev pub expo : ℕ → ℕ
expo b = body b / 0x10_0000_0000_0000

abbrev pub digs : ℕ → ℕ
digs b = body b % 0x10_0000_0000_0000

neg64 : ℕ → Bool
neg64 b = nat_le 0x8000_0000_0000_0000 b

-- by its fields x and t
abbrev At : Bool → ℕ → ℕ → ℕ
At s x t = to_bits binary32 (narrowed (of_fields binary64 s x t))

digs-lt : (b : ℕ) → digs b < 0x10_0000_0000_0000
digs-lt b = mod-lt (body b) (lit< tt)

module _ (b : ℕ) (B : b < 0x1_0000_0000_0000_0000) where
  read : (x : ℕ) → expo b ≡ x → answer b ≡ At (neg64 b) x (digs b)
  unfolding neg64
  read x e = ap (λ (v : Float). to_bits binary32 (narrowed v)) (of64 b) ∙ ap (λ (t : ℕ). At (neg64 b) (expo b) t) (sym (mod-mod-pow b 11 52)) ∙ ap (λ (z : ℕ). At (neg64 b) z (digs b)) e

  signed : (z : ℕ) → cond (neg64 b) 0x8000_0000 0 + z ≡ sgn b + z
  unfolding neg64
  signed z = ap (λ (w : ℕ). w + z) (sign_is b B)

  pub at_under : 0x3810_0000_0000_0000 ≤ body b → shortened (body b - 0x3800_0000_0000_0000) < 0x7f80_0000 → answer b ≡ sgn b + shortened (body b - 0x3800_0000_0000_0000)
  at_under l h =
      let c = shortened-is (body b) l in
      read (suc (expo b - 1)) (omega arith)
      ∙ normal_under (neg64 b) (digs b) (expo b - 1) (digs-lt b) (omega arith) (subst (λ (z : ℕ). z < 0x7f80_0000) (sym c) h)
      ∙ ap (λ (z : ℕ). cond (neg64 b) 0x8000_0000 0 + z) c
      ∙ signed (shortened (body b - 0x3800_0000_0000_0000))

  pub at-over : 0x3810_0000_0000_0000 ≤ body b → body b ≤ 0x7ff0_0000_0000_0000 → 0x7f80_0000 ≤ shortened (body b - 0x3800_0000_0000_0000) → answer b ≡ sgn b + 0x7f80_0000
  at-over l m h = go (eq-or-lt_of_le m) ∙ signed 0x7f80_0000
    where
      go : (body b ≡ 0x7ff0_0000_0000_0000) ⊎ (body b < 0x7ff0_0000_0000_0000) → answer b ≡ cond (neg64 b) 0x8000_0000 0 + 0x7f80_0000
      go (inl e) = read 2047 (ap (λ (z : ℕ). z / 0x10_0000_0000_0000) e) ∙ ap (λ (z : ℕ). At (neg64 b) 2047 (z % 0x10_0000_0000_0000)) e ∙ at_inf (neg64 b)
      go (inr k) =
          read (suc (expo b - 1)) (omega arith)
          ∙ normal_over (neg64 b) (digs b) (expo b - 1) (digs-lt b) (omega arith) (omega arith) (subst (λ (z : ℕ). 0x7f80_0000 ≤ z) (sym (shortened-is (body b) l)) h)

  pub at_tiny : 871 ≤ expo b → expo b < 897 → answer b ≡ sgn b + closest (0x10_0000_0000_0000 + digs b) (2 ^ (925 - expo b + 1))
  at_tiny l h =
      read (suc (expo b - 1)) (omega arith)
      ∙ tiny (neg64 b) (digs b) (expo b - 1) (digs-lt b) (897 - expo b) (omega arith) (omega arith)
      ∙ ap (λ (z : ℕ). cond (neg64 b) 0x8000_0000 0 + closest (0x10_0000_0000_0000 + digs b) (2 ^ z)) (omega arith)
      ∙ signed (closest (0x10_0000_0000_0000 + digs b) (2 ^ (925 - expo b + 1)))

  pub at_zero : expo b < 871 → answer b ≡ sgn b
  at_zero h = go (expo b) refl ∙ signed 0 ∙ add-zero (sgn b)
    where
      go : (x : ℕ) → expo b ≡ x → answer b ≡ cond (neg64 b) 0x8000_0000 0 + 0
      go zero e = read 0 e ∙ none (neg64 b) (digs b) (digs-lt b)
      go (suc y) e =
          read (suc y) e
          ∙ tiny (neg64 b) (digs b) y (digs-lt b) (896 - y) (omega arith) (omega arith)
          ∙ ap (λ (z : ℕ). cond (neg64 b) 0x8000_0000 0 + z) (closest_zero (0x10_0000_0000_0000 + digs b) (2 ^ (29 + (896 - y)))
          (lt_of_lt_of_le (shl_lt 53 1 (q-lt (neg64 b) (digs b) y (digs-lt b))) (pow_mono {i = 54} {j = 29 + (896 - y)} (omega arith))))

  pub tiny_small : expo b < 897 → closest (0x10_0000_0000_0000 + digs b) (2 ^ (925 - expo b + 1)) ≤ 0x80_0000
  tiny_small h = subst (λ (z : ℕ). closest (0x10_0000_0000_0000 + digs b) (2 ^ z) ≤ 0x80_0000) (omega arith) (tiny_le (neg64 b) (digs b) 0 (digs-lt b) (897 - expo b) (omega arith))

  -- what is beyond the usual range and is not below the normal one either: too small, or too large
  pub at_far : leb 0x3810_0000_0000_0000 (body b) && nat_lt (body b) 0x47ef_ffff_f000_0000 ≡ false → nat_lt (body b) 0x3670_0000_0000_0000 || nat_le 0x3810_0000_0000_0000 (body b) ≡ true
      → body b ≤ 0x7ff0_0000_0000_0000 → answer b ≡ sgn b + cond (nat_lt (body b) 0x3810_0000_0000_0000) 0 0x7f80_0000
  at_far u o m = go (dec_le 0x3810_0000_0000_0000 (body b))
    where
      go : Dec (0x3810_0000_0000_0000 ≤ body b) → answer b ≡ sgn b + cond (nat_lt (body b) 0x3810_0000_0000_0000) 0 0x7f80_0000
      go (yes l) =
          let k = ltb-false (body b) 0x47ef_ffff_f000_0000 (and-rest (nat_le 0x3810_0000_0000_0000 (body b)) (nat_lt (body b) 0x47ef_ffff_f000_0000) u (le-leb 0x3810_0000_0000_0000 (body b) l)) in
          at-over l m (shortened-over (body b - 0x3800_0000_0000_0000) (omega arith)) ∙ ap (λ (t : Bool). sgn b + cond t 0 0x7f80_0000) (sym (le-ltb (body b) 0x3810_0000_0000_0000 l))
      go (no l) =
          let k = ltb-true (body b) 0x3670_0000_0000_0000 (or-rest (nat_lt (body b) 0x3670_0000_0000_0000) (nat_le 0x3810_0000_0000_0000 (body b)) o (lt-leb 0x3810_0000_0000_0000 (body b) (omega arith))) in
          at_zero (omega arith) ∙ sym (add-zero (sgn b)) ∙ ap (λ (t : Bool). sgn b + cond t 0 0x7f80_0000) (sym (lt-ltb (body b) 0x3810_0000_0000_0000 (omega arith)))

  -- by the exponent alone, where it is neither f32's nor the last one: 0 below, infinity above
  pub at_beyond : ltb (expo b) 871 || nat_lt 1150 (expo b) ≡ true → expo b < 2047 → answer b ≡ sgn b + expo b / 1024 * 0x7f80_0000
  at_beyond o m = go (dec_le 871 (expo b))
    where
      go : Dec (871 ≤ expo b) → answer b ≡ sgn b + expo b / 1024 * 0x7f80_0000
      go (yes l) =
          let k = ltb-true 1150 (expo b) (or_other (nat_lt (expo b) 871) (nat_lt 1150 (expo b)) o (le-ltb (expo b) 871 l)) in
          let one : 0x7f80_0000 ≡ expo b / 1024 * 0x7f80_0000 = omega arith in
          at-over (omega arith) (omega arith) (shortened-over (body b - 0x3800_0000_0000_0000) (omega arith)) ∙ ap (λ (z : ℕ). sgn b + z) one
      go (no l) =
          let nothing : 0 ≡ expo b / 1024 * 0x7f80_0000 = omega arith in
          at_zero (omega arith) ∙ sym (add-zero (sgn b)) ∙ ap (λ (z : ℕ). sgn b + z) nothing

-- ---- a positive number, by its own pattern
pub at_positive : (x : Float) → T (fits binary64 x) → to_bits binary64 x < 0x1_0000_0000_0000_0000
    → 0x3810_0000_0000_0000 ≤ to_bits binary64 x → shortened (to_bits binary64 x - 0x3800_0000_0000_0000) < 0x7f80_0000 → to_bits binary64 x < 0x8000_0000_0000_0000
    → shortened (to_bits binary64 x - 0x3800_0000_0000_0000) ≡ to_bits binary32 (narrowed x)
at_positive x f B l h p =
    let b = to_bits binary64 x in
    let e : body b ≡ b = mod-eq_of_lt p in
    let z : sgn b ≡ 0 = ap (λ (k : ℕ). k * 0x8000_0000) (div-eq_of_lt p) in
    sym
    (ap (λ (v : Float). to_bits binary32 (narrowed v)) (sym (of_bits-to_bits binary64 x f))
    ∙ at_under b B (le_trans l (le_of_eq (sym e))) (subst (λ (k : ℕ). shortened (k - 0x3800_0000_0000_0000) < 0x7f80_0000) (sym e) h)
    ∙ ap (λ (k : ℕ). k + shortened (body b - 0x3800_0000_0000_0000)) z
    ∙ zero-add (shortened (body b - 0x3800_0000_0000_0000))
    ∙ ap (λ (k : ℕ). shortened (k - 0x3800_0000_0000_0000)) e)

pub positive : (x : Float) → T (number x) → to_bits binary64 x < 0x8000_0000_0000_0000 → lt x nought ≡ false
unfolding to_bits lt is_nan
positive nan n h = absurd n
positive (inf true) n h = absurd (not-le_of_lt h (lit≤ tt))
positive (inf false) n h = refl
positive (fin true m e) n h = absurd (not-le_of_lt h (le_trans (le-add_right 0x8000_0000_0000_0000 _) (le-add_right _ _)))
positive (fin false m e) n h = le-ltb (m * up e * 1) (0 * 1 * down e) (le_trans (le_of_eq (zero-mul (down e))) zero-le)
