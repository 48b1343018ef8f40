-- Rules: document 01, "Fill, mean, total": the sums of a picture's channels, and the total squared difference of two pictures.
use Rattle.std.specs.Prelude.{◌≡◌, ◌&&◌, cond, List, ℕ, ◌+◌, ◌*◌, pos, length, get_or, Float, Option, None, Some}
use Rattle.std.specs.Float.{nan, binary64}
use Rattle.std.specs.Float.Ieee.{of_int}
use Rattle.laws.specs.Before.{before}
use Rattle.laws.specs.F32.{◌⊟◌}
use Rattle.laws.specs.F64.{◌⊕◌, ◌⊗◌, ◌⊘◌}
use Rattle.float.specs.Narrowed.{narrowed}
use Rattle.float.specs.Within.{nought, all_within}
use Rattle.tally.specs.declared.means.Sums.{Sums}

-- ---- of each channel the sum over the pixels, in their order, in f64
unfoldable pub channel_sum : List Float → ℕ → ℕ → Float
channel_sum target ch n = before nought ◌⊕◌ (λ i. get_or target (i * 3 + ch) nan) n

-- the three channels' sums over the first i pixels
unfoldable pub sums_to : List Float → ℕ → Sums
sums_to target i = record {
  red = channel_sum target 0 i;
  green = channel_sum target 1 i;
  blue = channel_sum target 2 i;
}

-- of a picture of n pixels within 0..1, and of no other
abbrev pub SumsWithinSays : List Float → ℕ → Option Sums → Type 0
SumsWithinSays target n r = r ≡ cond (all_within target) (Some (sums_to target n)) None

-- a sum divided by the pixels' count, narrowed
abbrev pub ShareSays : Float → ℕ → Float → Type 0
ShareSays sum n r = r ≡ narrowed (sum ⊘ of_int binary64 (pos n))

-- ---- of each number the difference in f32, widened, squared; added in f64 in slice order
abbrev pub squared_difference : Float → Float → Float
squared_difference t c = (t ⊟ c) ⊗ (t ⊟ c)

unfoldable pub total_of : List Float → List Float → Float
total_of target canvas =
    before nought ◌⊕◌ (λ i. squared_difference (get_or target i nan) (get_or canvas i nan)) (length target)

-- over the first n numbers
unfoldable pub total_to : List Float → List Float → ℕ → Float
total_to target canvas n = before nought ◌⊕◌ (λ i. squared_difference (get_or target i nan) (get_or canvas i nan)) n

-- of two pictures within 0..1, and of no others
abbrev pub TotalWithinSays : List Float → List Float → Option Float → Type 0
TotalWithinSays target canvas r =
    r ≡ cond (all_within target && all_within canvas) (Some (total_of target canvas)) None

-- for our own crates: of any numbers
abbrev pub SquaredAnySays : Float → Float → Float → Type 0
SquaredAnySays t c r = r ≡ squared_difference t c
