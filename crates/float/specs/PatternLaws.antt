-- Laws: two answers of a conversion are equal; the patterns that stand for a NaN.
use Rattle.std.specs.Prelude.{◌≡◌, ℕ, refl, Float}
use Rattle.std.proofs.Common.{sym, ◌∙◌}
use Rattle.std.specs.Float.{nan, binary32, binary64}
use Rattle.std.specs.Float.Ieee.{to_bits}
use Rattle.float.specs.Patterns.{Bits32Says, Bits64Says, OfBits32Says, OfBits64Says, WidenSays, WidenNumberSays}

pub Bits32Says-unique : (x : Float) (r s : ℕ) → Bits32Says x r → Bits32Says x s → r ≡ s
Bits32Says-unique x r s p q = p ∙ sym q

pub Bits64Says-unique : (x : Float) (r s : ℕ) → Bits64Says x r → Bits64Says x s → r ≡ s
Bits64Says-unique x r s p q = p ∙ sym q

pub OfBits32Says-unique : (b : ℕ) (r s : Float) → OfBits32Says b r → OfBits32Says b s → r ≡ s
OfBits32Says-unique b r s p q = p ∙ sym q

pub OfBits64Says-unique : (b : ℕ) (r s : Float) → OfBits64Says b r → OfBits64Says b s → r ≡ s
OfBits64Says-unique b r s p q = p ∙ sym q

pub WidenSays-unique : (x r s : Float) → WidenSays x r → WidenSays x s → r ≡ s
WidenSays-unique x r s p q = p ∙ sym q

pub WidenNumberSays-unique : (x r s : Float) → WidenNumberSays x r → WidenNumberSays x s → r ≡ s
WidenNumberSays-unique x r s p q = p ∙ sym q

pub nan_pattern32 : to_bits binary32 nan ≡ 0x7FC0_0000
unfolding to_bits
nan_pattern32 = refl

pub nan_pattern64 : to_bits binary64 nan ≡ 0x7FF8_0000_0000_0000
unfolding to_bits
nan_pattern64 = refl
