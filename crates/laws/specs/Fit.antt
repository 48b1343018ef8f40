-- Laws: ranges of signed integers, for `omega`: `of_mag z` links the `mag z` of an `SFits w z` with P z and N z.
use Rattle.std.specs.Prelude.{◌≡◌, refl, ℕ, zero, suc, pred, ◌+◌, ◌*◌, ◌-◌, ◌^◌, ◌≤◌, ◌<◌, ℤ, pos, negsuc, neg_ℤ, ◌+ℤ◌, ◌-ℤ◌, ◌*ℤ◌, nat_abs, ◌≤ℤ◌, ◌<ℤ◌, Bool, true, false, not, T, ◌⊎◌}
use Rattle.std.proofs.Common.{sym, ◌∙◌, ap, subst, arith, pow_pos, to_z-of_z, lt_of_le_of_lt, inl, inr}
use Rattle.std.specs.Int.Signed.{mag, lt_z, le_z, lt_z_no, rem_z, mag_rem, shr_z, mag_shr}
use Rattle.std.specs.Int.{Width, w8, w16, w32, w64}
use mir.Val.{SFits, hbits, to_z, of_z}
use Rattle.laws.specs.Order.{of*-bound, ≤ℤ-or-<ℤ}
use Rattle.laws.specs.Parts.{P, N, zord, of+, of-, of*, one_zero}

pub of_mag : (z : ℤ) → mag z ≡ P z + pred (N z)
of_mag (pos n) = omega arith
of_mag (negsuc n) = omega arith

pub sub32 : (a b : ℤ) → SFits w32 a → SFits w32 b → SFits w64 (a -ℤ b)
sub32 a b fa fb = omega (arith, of- a b, of_mag a, of_mag b, of_mag (a -ℤ b), one_zero (a -ℤ b))

-- ---- what a test leaves
pub lt_true : (a b : ℤ) → lt_z a b ≡ true → a <ℤ b
lt_true a b e = record { lt = subst T (sym e) tt }

pub lt_false : (a b : ℤ) → lt_z a b ≡ false → b ≤ℤ a
lt_false a b e = lt_z_no (subst (λ (t : Bool). T (not t)) (sym e) tt)

pub le_true : (a b : ℤ) → le_z a b ≡ true → a ≤ℤ b
le_true a b e = record { le = subst T (sym e) tt }

-- two integers that fit and have the same bits are equal
pub of_z_inj : {w : Width} {a b : ℤ} → SFits w a → SFits w b → of_z w a ≡ of_z w b → a ≡ b
of_z_inj {w} {a} {b} f g e = sym (to_z-of_z f) ∙ ap (to_z w) e ∙ to_z-of_z g

-- `x == 0` on a signed number is a fact of its bits
zero_fits : (w : Width) → SFits w (pos 0)
zero_fits w = record { sfits = half w }
  where
    half : (w : Width) → 0 < 2 ^ hbits w
    half w = pow_pos (hbits w)

pub bits_zero : {w : Width} {a : ℤ} → SFits w a → of_z w a ≡ 0 → a ≡ pos 0
bits_zero {w} {a} f e = of_z_inj f (zero_fits w) e

pub bits_nonzero : (w : Width) {a : ℤ} → (of_z w a ≡ 0 → ⊥) → a ≡ pos 0 → ⊥
bits_nonzero w {a} h e = h (ap (of_z w) e)

pub nonzero_bits : {w : Width} {a : ℤ} → SFits w a → (a ≡ pos 0 → ⊥) → 0 < of_z w a
nonzero_bits {w} {a} f h = by (of_z w a) refl
  where
    by : (n : ℕ) → of_z w a ≡ n → 0 < n
    by zero e = absurd (h (bits_zero f e))
    by (suc n) e = omega arith

pub rem_fits : {w : Width} {a : ℤ} (b : ℤ) → SFits w a → SFits w (rem_z a b)
rem_fits {w} {a} b f = record { sfits = lt_of_le_of_lt (mag_rem a b) f.sfits }

-- |z|
pub of_abs : (z : ℤ) → nat_abs z ≡ P z + N z
of_abs (pos n) = omega arith
of_abs (negsuc n) = omega arith

-- |z| is small: z fits
pub fits-abs : {w : Width} (z : ℤ) → nat_abs z < 2 ^ hbits w → SFits w z
fits-abs z h = record { sfits = omega (arith, of_abs z, of_mag z) }

-- |a ± b| ≤ |a| + |b|, |a * b| ≤ A * B
pub abs+ : (a b : ℤ) (A B : ℕ) → nat_abs a ≤ A → nat_abs b ≤ B → nat_abs (a +ℤ b) ≤ A + B
abs+ a b A B h l = omega (arith, of_abs a, of_abs b, of_abs (a +ℤ b), of+ a b, one_zero (a +ℤ b))

pub abs- : (a b : ℤ) (A B : ℕ) → nat_abs a ≤ A → nat_abs b ≤ B → nat_abs (a -ℤ b) ≤ A + B
abs- a b A B h l = omega (arith, of_abs a, of_abs b, of_abs (a -ℤ b), of- a b, one_zero (a -ℤ b))

pub abs* : (a b : ℤ) (A B : ℕ) → nat_abs a ≤ A → nat_abs b ≤ B → nat_abs (a *ℤ b) ≤ A * B
abs* a b A B h l = omega (arith, of_abs (a *ℤ b), of*-bound a b A B (omega (arith, of_abs a)) (omega (arith, of_abs b)))

-- a call's result, read back from its local: `read w64 c.f.result c.f.ok`
pub read : (w : Width) (z : ℤ) → mag z < 2 ^ hbits w → to_z w (of_z w z) ≡ z
read w z h = to_z-of_z (record { sfits = h })

pub le_false : (a b : ℤ) → le_z a b ≡ false → b <ℤ a
le_false a b e = by (≤ℤ-or-<ℤ a b)
  where
    by : (a ≤ℤ b) ⊎ (b <ℤ a) → b <ℤ a
    by (inl l) = absurd (subst T e l.le)
    by (inr l) = l

-- a test is not both
pub no_both {ℓ} : {X : Type ℓ} {b : Bool} → b ≡ true → b ≡ false → X
no_both e f = absurd (subst T (sym e ∙ f) tt)

-- a shift to the right keeps the range
pub shr_fits : {w : Width} (a : ℤ) (m : ℕ) → SFits w a → SFits w (shr_z a m)
shr_fits a m f = record { sfits = lt_of_le_of_lt (mag_shr a m) f.sfits }
