-- Laws: the pattern of an f64 with its last 29 digits rounded off is that of the narrowed number, where f32 has as many digits for it.
use Rattle.std.specs.Prelude.{◌≡◌, ℕ, suc, ◌+◌, ◌-◌, ◌*◌, ◌/◌, ◌%◌, ◌^◌, ◌<◌, ◌≤◌, Bool, true, false, not, ◌&&◌, ◌||◌, T, ◌⊎◌, ◌==◌, is_nan, nat_le, nat_lt, to_bits, refl, Float}
use Rattle.std.proofs.Common.{sym, ap, ◌∙◌, subst, inl, inr, eq-or-lt_of_le, lt_of_lt_of_le, mul_assoc, mul_right_comm, arith, eqb→eq, lit<, pow-add, pow_mono, shl_lt}
use Rattle.std.proofs.lemmas.Bool.{lt-leb}
use Rattle.std.specs.Float.{nan, inf, fin, binary32, binary64}
use Rattle.std.specs.Float.Ieee.{up, down, odd, units, fits, nan_bits, of_fields, of_bits, round}
use Rattle.std.specs.Float.Ieee.Bits.{of_bits-fits, of_bits-to_bits, nan_bits_is}
use Rattle.std.specs.Float.Ieee.Exact.{HasValue, odd_sign, units_val}
use Rattle.std.specs.Float.Ieee.Fits.{fits_widens}
use Rattle.std.specs.Float.Ieee.Nearest.{closest}
use Rattle.float.specs.Narrowed.{narrowed}
use Rattle.float.specs.Shortened.{masked, Plain}
use Rattle.float.specs.Within.{number}
use Rattle.float.specs.NarrowLaws.{narrowed-fits, narrowed_no_nan}
use Rattle.float.specs.Rounding.{closest_div, closest_more}
use Rattle.float.specs.Held.{value_unique}
use Rattle.float.specs.Narrowing.{between, two_shifts, of64, mid, normal, normal_le, normal_ge}

-- a value in smaller units
scaled : (x : Float) (s : Bool) (a c w : ℕ) → HasValue x s a c → HasValue x s (a * w) (c * w)
scaled nan s a c w h = h
scaled (inf t) s a c w h = h
scaled (fin t m e) s a c w h = (h.0, sym (mul_assoc (m * up e) c w) ∙ ap (λ (z : ℕ). z * w) h.1 ∙ mul_right_comm a (down e) w)

module _ (b : ℕ) (L : 0x3810_0000_0000_0000 ≤ b) (U : b < 0x4000_0000_0000_0000) where
  -- the exponent's field less one, the digits, and those that f32 keeps
  abbrev y : ℕ
  y = b / 0x10_0000_0000_0000 - 1

  abbrev t : ℕ
  t = b % 0x10_0000_0000_0000

  t-lt : t < 0x10_0000_0000_0000
  t-lt = omega arith

  abbrev c : ℕ
  c = closest (0x10_0000_0000_0000 + t) 0x2000_0000

  least : 0x80_0000 ≤ c
  least = normal_ge false t y t-lt

  most : c ≤ 0x100_0000
  most = normal_le false t y t-lt

  masked-is : masked b ≡ (y * 0x80_0000 + c) * 0x2000_0000
  masked-is =
      let i = y * 0x40_0000 in
      let e : i * 2 * 0x2000_0000 + (0x10_0000_0000_0000 + t) ≡ b = omega arith in
      let f : i * 2 ≡ y * 0x80_0000 = omega arith in
      ap (λ (z : ℕ). z * 0x2000_0000)
      (sym (closest_div b 0x1000_0000 (lit< tt)) ∙ ap (λ (z : ℕ). closest z 0x2000_0000) (sym e) ∙ closest_more i (0x10_0000_0000_0000 + t) 0x2000_0000 (lit< tt) ∙ ap (λ (z : ℕ). z + c) f)

  -- both have the value c * 2 ^ (y + 29) in units of 2 ^ -1074
  abbrev value : ℕ
  value = c * 0x2000_0000 * 2 ^ y

  field : (m x u : ℕ) → m < 0x8000_0000_0000_0000 → m / 0x10_0000_0000_0000 ≡ x → m % 0x10_0000_0000_0000 ≡ u → of_bits binary64 m ≡ of_fields binary64 false x u
  field m x u l e f =
      let g : m % 0x8000_0000_0000_0000 / 0x10_0000_0000_0000 ≡ x = omega (arith, e) in
      of64 m ∙ ap (λ (s : Bool). of_fields binary64 s (m % 0x8000_0000_0000_0000 / 0x10_0000_0000_0000) (m % 0x10_0000_0000_0000)) (lt-leb 0x8000_0000_0000_0000 m l)
      ∙ ap (λ (z : ℕ). of_fields binary64 false z (m % 0x10_0000_0000_0000)) g ∙ ap (λ (z : ℕ). of_fields binary64 false x z) f

  masked-value : HasValue (of_bits binary64 (masked b)) false value (2 ^ 1074)
  masked-value = by (eq-or-lt_of_le most)
    where
      by : (c ≡ 0x100_0000) ⊎ (c < 0x100_0000) → HasValue (of_bits binary64 (masked b)) false value (2 ^ 1074)
      by (inl e) =
          let m : masked b ≡ suc (suc y) * 0x10_0000_0000_0000 = masked-is ∙ omega (arith, e) in
          let f = ap (of_bits binary64) m ∙ field (suc (suc y) * 0x10_0000_0000_0000) (suc (suc y)) 0 (omega arith) (omega arith) (omega arith) ∙ mid false 0 (suc y) (omega arith) in
          let w : (0x10_0000_0000_0000 + 0) * 2 ^ suc y ≡ 0x100_0000 * 0x2000_0000 * 2 ^ y = omega (arith, pow-add 2 1 y) in
          let v : (0x10_0000_0000_0000 + 0) * 2 ^ suc y ≡ value = w ∙ sym (ap (λ (z : ℕ). z * 0x2000_0000 * 2 ^ y) e) in
          subst (λ (x : Float). HasValue x false value (2 ^ 1074)) (sym f) (subst (λ (n : ℕ). HasValue (odd 53 false (0x10_0000_0000_0000 + 0) (suc y) 1074) false n (2 ^ 1074)) v (odd_sign 53 false (0x10_0000_0000_0000 + 0) (suc y) 1074))
      by (inr l) =
          let u = c * 0x2000_0000 - 0x10_0000_0000_0000 in
          let f = ap (of_bits binary64) masked-is ∙ field ((y * 0x80_0000 + c) * 0x2000_0000) (suc y) u (omega (arith, l)) (omega (arith, l, least)) (omega (arith, l, least)) ∙ mid false u y (omega arith) in
          let v : 0x10_0000_0000_0000 + u ≡ c * 0x2000_0000 = omega (arith, least) in
          subst (λ (x : Float). HasValue x false value (2 ^ 1074)) (sym f) (subst (λ (n : ℕ). HasValue (odd 53 false (0x10_0000_0000_0000 + u) y 1074) false (n * 2 ^ y) (2 ^ 1074)) v (odd_sign 53 false (0x10_0000_0000_0000 + u) y 1074))

  narrowed-is : narrowed (of_bits binary64 b) ≡ units binary32 false c (y - 896)
  narrowed-is = ap narrowed (field b (suc y) t (omega arith) (omega arith) refl) ∙ normal false t y t-lt (omega arith) (omega arith)

  few : c * 2 ^ (y - 896) < 2 ^ 277
  few = lt_of_lt_of_le (shl_lt 25 (y - 896) (omega (arith, most))) (pow_mono {i = 25 + (y - 896)} {j = 277} (omega arith))

  narrowed-value : HasValue (narrowed (of_bits binary64 b)) false value (2 ^ 1074)
  narrowed-value =
      let v : c * 2 ^ (y - 896) * 2 ^ 925 ≡ value = two_shifts c (y - 896) 925 ∙ ap (λ (z : ℕ). c * 2 ^ z) (omega arith) ∙ sym (two_shifts c 29 y) in
      let h = scaled (units binary32 false c (y - 896)) false (c * 2 ^ (y - 896)) (2 ^ 149) (2 ^ 925) (units_val binary32 false c (y - 896) few) in
      subst (λ (x : Float). HasValue x false value (2 ^ 1074)) (sym narrowed-is)
      (subst (λ (n : ℕ). HasValue (units binary32 false c (y - 896)) false n (2 ^ 1074)) v
      (subst (λ (n : ℕ). HasValue (units binary32 false c (y - 896)) false (c * 2 ^ (y - 896) * 2 ^ 925) n) (sym (pow-add 2 149 925)) h))

  masked_normal : of_bits binary64 (masked b) ≡ narrowed (of_bits binary64 b)
  masked_normal =
      value_unique binary64 (of_bits binary64 (masked b)) (narrowed (of_bits binary64 b)) false value (of_bits-fits binary64 (masked b))
      (fits_widens (narrowed (of_bits binary64 b)) (narrowed-fits (of_bits binary64 b))) masked-value narrowed-value

masked_zero : of_bits binary64 (masked 0) ≡ narrowed (of_bits binary64 0)
unfolding of_bits narrowed round
masked_zero = refl

pub masked_narrows : (b : ℕ) → Plain b → of_bits binary64 (masked b) ≡ narrowed (of_bits binary64 b)
masked_narrows b (inl e) = subst (λ (n : ℕ). of_bits binary64 (masked n) ≡ narrowed (of_bits binary64 n)) (sym e) masked_zero
masked_narrows b (inr (l, u)) = masked_normal b l u

-- a number's own pattern: what comes of it is no NaN's
pub masked-is-narrowed : (x : Float) → T (fits binary64 x) → Plain (to_bits binary64 x) → of_bits binary64 (masked (to_bits binary64 x)) ≡ narrowed x
masked-is-narrowed x f p = masked_narrows (to_bits binary64 x) p ∙ ap narrowed (of_bits-to_bits binary64 x f)

pub masked_no_nan : (x : Float) → T (fits binary64 x) → T (number x) → Plain (to_bits binary64 x) → T (not (nan_bits binary64 (masked (to_bits binary64 x))))
masked_no_nan x f n p =
    subst (λ (b : Bool). T (not b)) (sym (nan_bits_is binary64 (masked (to_bits binary64 x))))
    (subst (λ (v : Float). T (not (is_nan v))) (sym (masked-is-narrowed x f p)) (narrowed_no_nan x n))

pub plain_under : (b : ℕ) → Plain b → b < 0x4000_0000_0000_0000
plain_under b (inl e) = omega (arith, e)
plain_under b (inr (l, u)) = u

-- the code's tests
pub plain_is : (b : ℕ) → (b == 0) || (nat_le 0x3810_0000_0000_0000 b && nat_lt b 0x4000_0000_0000_0000) ≡ true → Plain b
plain_is b h = by (b == 0) (eqb→eq b 0) h
  where
    by : (e : Bool) → (T e → b ≡ 0) → e || (nat_le 0x3810_0000_0000_0000 b && nat_lt b 0x4000_0000_0000_0000) ≡ true → Plain b
    by true z g = inl (z tt)
    by false z g = inr (between 0x3810_0000_0000_0000 b 0x4000_0000_0000_0000 g)
