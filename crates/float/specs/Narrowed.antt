-- Rules: document 01, "Narrowing f64 to f32: nearest, ties to even; subnormals kept; too large gives infinity; any NaN gives 7FC00000".
-- A number is its exact value, rounded once by the logic's IEEE 754 (`round`). The pattern that `to_bits binary32` writes for a NaN is 7FC00000.
use Rattle.std.specs.Prelude.{◌≡◌, ℕ, ◌*◌, from_bits, to_bits, Float}
use Rattle.std.specs.Float.{nan, inf, fin, binary32, binary64}
use Rattle.std.specs.Float.Ieee.{up, down, round}

unfoldable pub narrowed : Float → Float
narrowed nan = nan
narrowed (inf s) = inf s
narrowed (fin s m e) = round binary32 s (m * up e) (down e)

abbrev pub NarrowSays : Float → Float → Type 0
NarrowSays x r = r ≡ narrowed x

-- on patterns, where a NaN has its bits
abbrev pub NarrowBitsSays : ℕ → ℕ → Type 0
NarrowBitsSays b r = r ≡ to_bits binary32 (narrowed (from_bits binary64 b))
