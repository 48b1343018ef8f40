-- Laws: a narrowing is one rounding of the value; it fits f32, makes no NaN, and changes nothing that f32 holds. Document 01's figures.
use Rattle.std.specs.Prelude.{◌≡◌, ℕ, ◌+◌, ◌-◌, ◌*◌, ◌^◌, ◌<◌, Bool, false, not, T, pos, negsuc, from_bits, refl, Float}
use Rattle.std.proofs.Common.{sym, ap, ◌∙◌}
use Rattle.std.specs.Float.{nan, inf, fin, binary32, binary64}
use Rattle.std.specs.Float.Ieee.{up, down, round, fits, is_nan, nan_bits, to_bits}
use Rattle.std.specs.Float.Ieee.Bits.{is_true, nan_bits_is}
use Rattle.std.specs.Float.Ieee.Exact.{HasValue}
use Rattle.std.specs.Float.Ieee.Fits.{down_pos, round-fits}
use Rattle.std.specs.Float.Ieee.Scale.{round_same}
use Rattle.float.specs.Narrowed.{narrowed, NarrowSays, NarrowBitsSays}
use Rattle.float.specs.Held.{round_own}
use Rattle.float.specs.Numbers.{nan_is, round_no_nan}

pub NarrowSays-unique : (x r s : Float) → NarrowSays x r → NarrowSays x s → r ≡ s
NarrowSays-unique x r s p q = p ∙ sym q

pub NarrowBitsSays-unique : (b r s : ℕ) → NarrowBitsSays b r → NarrowBitsSays b s → r ≡ s
NarrowBitsSays-unique b r s p q = p ∙ sym q

-- it sees only the value
pub narrowed-value : (x : Float) (s : Bool) (a c : ℕ) → 0 < c → HasValue x s a c → narrowed x ≡ round binary32 s a c
unfolding narrowed
narrowed-value nan s a c C h = absurd h
narrowed-value (inf t) s a c C h = absurd h
narrowed-value (fin t m e) s a c C h = ap (λ (b : Bool). round binary32 b (m * up e) (down e)) h.0 ∙ round_same binary32 s (m * up e) (down e) a c (down_pos e) C h.1

pub narrowed_no_nan : (x : Float) → T (not (is_nan x)) → T (not (is_nan (narrowed x)))
unfolding narrowed is_nan
narrowed_no_nan nan h = h
narrowed_no_nan (inf s) h = tt
narrowed_no_nan (fin s m e) h = round_no_nan binary32 s (m * up e) (down e)

pub narrowed-fits : (x : Float) → T (fits binary32 (narrowed x))
unfolding narrowed fits
narrowed-fits nan = tt
narrowed-fits (inf s) = tt
narrowed-fits (fin s m e) = round-fits binary32 s (m * up e) (down e)

-- any NaN gives 7FC00000
pub nan_narrows : (b r : ℕ) → T (nan_bits binary64 b) → NarrowBitsSays b r → r ≡ 0x7FC0_0000
unfolding narrowed to_bits
nan_narrows b r h e =
    e ∙ ap (λ (v : Float). to_bits binary32 (narrowed v)) (nan_is (from_bits binary64 b) (sym (nan_bits_is binary64 b) ∙ is_true (nan_bits binary64 b) h))

-- what f32 holds stays as it is, its subnormals too
pub narrowed_same : (x : Float) → T (fits binary32 x) → narrowed x ≡ x
unfolding narrowed
narrowed_same nan h = refl
narrowed_same (inf s) h = refl
narrowed_same (fin s m e) h = round_own binary32 s m e h

-- ---- document 01, "Boundary figures": 1 + 2^-24 gives 1; 1 + 3·2^-24 gives 1 + 2^-22; 2^-150 gives +0; 2^128 - 2^103 gives infinity
pub tie_down : narrowed (fin false (2 ^ 24 + 1) (negsuc 23)) ≡ fin false 1 (pos 0)
unfolding narrowed round
tie_down = refl

pub tie_up : narrowed (fin false (2 ^ 24 + 3) (negsuc 23)) ≡ fin false (2 ^ 22 + 1) (negsuc 21)
unfolding narrowed round
tie_up = refl

pub half_smallest : narrowed (fin false 1 (negsuc 149)) ≡ fin false 0 (pos 0)
unfolding narrowed round
half_smallest = refl

pub half_past_largest : narrowed (fin false (2 ^ 25 - 1) (pos 103)) ≡ inf false
unfolding narrowed round
half_past_largest = refl
