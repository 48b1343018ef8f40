-- Rules: a float and its bit pattern, both ways, for every float and every pattern; and an f32 at f64's format.
-- The language's own conversions are undefined at a NaN. Here any NaN's pattern is a NaN, and a NaN's pattern is the one that `to_bits` writes: 7FC00000, 7FF8000000000000.
use Rattle.std.specs.Prelude.{◌≡◌, ℕ, from_bits, to_bits, Float}
use Rattle.std.specs.Float.{binary32, binary64}

abbrev pub Bits32Says : Float → ℕ → Type 0
Bits32Says x r = r ≡ to_bits binary32 x

abbrev pub Bits64Says : Float → ℕ → Type 0
Bits64Says x r = r ≡ to_bits binary64 x

abbrev pub OfBits32Says : ℕ → Float → Type 0
OfBits32Says b r = r ≡ from_bits binary32 b

abbrev pub OfBits64Says : ℕ → Float → Type 0
OfBits64Says b r = r ≡ from_bits binary64 b

-- the same number: f64 holds every f32
abbrev pub WidenSays : Float → Float → Type 0
WidenSays x r = r ≡ x

abbrev pub WidenNumberSays : Float → Float → Type 0
WidenNumberSays x r = r ≡ x
