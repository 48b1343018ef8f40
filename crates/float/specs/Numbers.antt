-- Laws: what is a NaN and what is none: by a comparison, by a pattern, after rounding; and NaNs that a quotient makes.
use Rattle.std.specs.Prelude.{◌≡◌, ℕ, zero, suc, ◌+◌, ◌*◌, ◌/◌, ◌%◌, ◌^◌, ◌<◌, ◌≤◌, Bool, true, false, cond, not, T, ◌==◌, nat_lt, refl, Float}
use Rattle.std.proofs.Common.{sym, ap, ◌∙◌, subst, true≢false, lt→ltb, le-ltb}
use Rattle.std.proofs.Math.Dec.{eqb_refl}
use Rattle.std.specs.Float.{nan, inf, fin, Format, binary32, binary64}
use Rattle.std.specs.Float.Ieee.{prec, emax, low, hid, ones, top, up, down, odd, units, round, div, level, eq, ne, fits, is_nan, nan_bits, of_bits, to_bits}
use Rattle.std.specs.Float.Ieee.Bits.{is_true, of_bits-to_bits, nan_bits_is, nan_bits_above}
use Rattle.std.specs.Float.Ieee.Compare.{differs_from_itself}
use Rattle.std.specs.Float.Ieee.Fits.{and_i, round_is}
use Rattle.float.specs.Within.{number}

pub nan_is : (x : Float) → is_nan x ≡ true → x ≡ nan
unfolding is_nan
nan_is nan e = refl
nan_is (inf s) e = absurd (true≢false (sym e))
nan_is (fin s m x) e = absurd (true≢false (sym e))

-- by comparison: a NaN alone differs from itself
pub itself_number : (x : Float) → eq x x ≡ number x
unfolding eq is_nan
itself_number nan = refl
itself_number (inf true) = refl
itself_number (inf false) = refl
itself_number (fin s m e) = is_true (eq (fin s m e) (fin s m e)) (same s (m * up e * down e))
  where
    same : (s : Bool) (a : ℕ) → T (level s a s a)
    same true a = and_i (a == a) true (eqb_refl a) tt
    same false a = and_i (a == a) true (eqb_refl a) tt

pub itself_nan : (x : Float) → ne x x ≡ true → x ≡ nan
itself_nan x e = differs_from_itself x (subst T (sym e) tt)

-- by pattern: the patterns above the infinity's, signs aside
pub above_nan : (f : Format) (b : ℕ) → ones f * hid f < b % top f → of_bits f b ≡ nan
above_nan f b h =
    nan_is (of_bits f b) (sym (nan_bits_is f b) ∙ nan_bits_above f b ∙ is_true (nat_lt (ones f * hid f) (b % top f)) (lt→ltb (ones f * hid f) (b % top f) h))

pub upto_no_nan : (f : Format) (b : ℕ) → b % top f ≤ ones f * hid f → T (not (nan_bits f b))
upto_no_nan f b h = subst (λ (z : Bool). T (not z)) (sym (nan_bits_above f b ∙ le-ltb (ones f * hid f) (b % top f) h)) tt

-- what stands for a NaN
pub nan_bits_lem : (f : Format) (x : Float) → x ≡ nan → ones f * hid f + hid f / 2 ≡ to_bits f x
unfolding to_bits
nan_bits_lem f x e = ap (to_bits f) (sym e)

-- not x != x: no NaN
pub itself_no_nan : (x : Float) → ne x x ≡ false → T (not (is_nan x))
unfolding ne is_nan
itself_no_nan nan e = absurd (true≢false e)
itself_no_nan (inf s) e = tt
itself_no_nan (fin s m x) e = tt

pub nan32 : div binary32 (of_bits binary32 0) (of_bits binary32 0) ≡ nan
unfolding div of_bits
nan32 = refl

pub nan64 : div binary64 (of_bits binary64 0) (of_bits binary64 0) ≡ nan
unfolding div of_bits
nan64 = refl

odd_no_nan : (d : ℕ) (s : Bool) (q k l : ℕ) → T (not (is_nan (odd d s q k l)))
unfolding odd is_nan
odd_no_nan d s zero k l = tt
odd_no_nan d s (suc q) k l = tt

either : (b : Bool) (x : Float) (s : Bool) → T (not (is_nan x)) → T (not (is_nan (cond b x (inf s))))
unfolding is_nan
either true x s h = h
either false x s h = tt

units_no_nan : (f : Format) (s : Bool) (q k : ℕ) → T (not (is_nan (units f s q k)))
unfolding units
units_no_nan f s q k = either (nat_lt (q * 2 ^ k) (2 ^ (low f + suc (emax f)))) (odd (suc (prec f)) s q k (low f)) s (odd_no_nan (suc (prec f)) s q k (low f))

-- rounding never makes a NaN
pub round_no_nan : (f : Format) (s : Bool) (a b : ℕ) → T (not (is_nan (round f s a b)))
round_no_nan f s a b = subst (λ (v : Float). T (not (is_nan v))) (sym (round_is f s a b)) (units_no_nan f s _ _)

-- what is written of a value that fits is no NaN's pattern, where the value is no NaN
pub no_nan_bits : (f : Format) (x : Float) → T (fits f x) → T (not (is_nan x)) → T (not (nan_bits f (to_bits f x)))
no_nan_bits f x h n = subst (λ (b : Bool). T (not b)) (sym (nan_bits_is f (to_bits f x) ∙ ap is_nan (of_bits-to_bits f x h))) n
