-- Rules: document 01, "below 0 becomes 0, above 1 becomes 1". Anything else stays as it is, also a NaN and -0.0.
use Rattle.std.specs.Prelude.{◌≡◌, cond, Float}
use Rattle.std.specs.Float.Ieee.{lt}
use Rattle.float.specs.Within.{nought, one}
use Rattle.float.specs.Narrowed.{narrowed}

unfoldable pub clamped : Float → Float
clamped x = cond (lt x nought) nought (cond (lt one x) one x)

abbrev pub Clamp01Says : Float → Float → Type 0
Clamp01Says x r = r ≡ clamped x

-- then narrowed
abbrev pub Narrow01Says : Float → Float → Type 0
Narrow01Says x r = r ≡ narrowed (clamped x)
