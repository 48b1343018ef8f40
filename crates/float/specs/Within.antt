-- Rules: document 01, "not within 0..1 (a NaN isn't)" and "-0.0 counts as within 0..1"; a whole slice is within where each element is.
use Rattle.std.specs.Prelude.{◌≡◌, Bool, false, not, ◌&&◌, List, pos, is_nan, Float}
use Rattle.std.specs.Float.{fin}
use Rattle.std.specs.Float.Ieee.{le}
use Rattle.laws.specs.Every.{every}

-- 0.0 and 1.0, in either format
abbrev pub nought : Float
nought = fin false 0 (pos 0)

abbrev pub one : Float
one = fin false 1 (pos 0)

unfoldable pub within : Float → Bool
within x = le nought x && le x one

abbrev pub all_within : List Float → Bool
all_within xs = every within xs

-- no element is a NaN
abbrev pub number : Float → Bool
number x = not (is_nan x)

abbrev pub all_numbers : List Float → Bool
all_numbers xs = every number xs

abbrev pub WithinSays : Float → Bool → Type 0
WithinSays x r = r ≡ within x

abbrev pub AllWithinSays : List Float → Bool → Type 0
AllWithinSays xs r = r ≡ all_within xs

abbrev pub AllNumbersSays : List Float → Bool → Type 0
AllNumbersSays xs r = r ≡ all_numbers xs
