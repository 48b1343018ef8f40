-- Rules: document 01, "Fill, mean, total": a picture of one colour, the mean of its pixels, the total squared difference of two.
use Rattle.std.specs.Prelude.{◌≡◌, Bool, true, false, not, ◌&&◌, ◌||◌, cond, List, [], ◌∷◌, ℕ, ◌*◌, eqb, pos, length, Float}
use Rattle.std.specs.Float.{binary64}
use Rattle.std.specs.Float.Ieee.{of_int}
use Rattle.laws.specs.Answer.{Answer, answer}
use Rattle.laws.specs.F64.{◌⊘◌}
use Rattle.laws.specs.Pictures.{list_of, plain}
use Rattle.float.specs.Narrowed.{narrowed}
use Rattle.float.specs.Within.{nought, within, all_within}
use Rattle.refusal.specs.Refusals.{lowest, size_if, length_if, colour_if, pixel_if, bad_size}
use Rattle.refusal.specs.Outcomes.{Outcome, Done, Refused}
use Rattle.refusal.specs.Lengths.{bad_picture}
use Rattle.tally.specs.Tally.{channel_sum, total_of}
use Rattle.picture.specs.declared.Colour.{Colour}

-- ---- a colour channel is not within 0..1
unfoldable pub bad_colour : Float → Float → Float → Bool
bad_colour red green blue = not (within red && within green && within blue)

abbrev pub BadColourSays : Float → Float → Float → Bool → Type 0
BadColourSays red green blue r = r ≡ bad_colour red green blue

-- ---- fill: every pixel has the colour
abbrev pub filled : ℕ → ℕ → Float → Float → Float → List Float
filled w h red green blue = list_of w h (plain red green blue)

unfoldable pub fill_refusal : ℕ → ℕ → Float → Float → Float → ℕ → ℕ
fill_refusal w h red green blue n =
    lowest (size_if (bad_size w h) ∷ length_if (bad_picture w h n) ∷ colour_if (bad_colour red green blue) ∷ [])

abbrev pub FillSays : ℕ → ℕ → Float → Float → Float → List Float → Type 0
FillSays w h red green blue new = new ≡ filled w h red green blue

-- the number r, and of the picture, old as it was lent, new as it is left
pub record FilledCanvasSays (w h : ℕ) (red green blue : Float) (old : List Float) (r : ℕ) (new : List Float) : Type 0 where
  pub number : r ≡ fill_refusal w h red green blue (length old)
  pub left : new ≡ cond (eqb r 0) (filled w h red green blue) old

-- ---- mean: of each channel the sum over the pixels, in their order, in f64; divided by their count, narrowed
unfoldable pub channel_mean : List Float → ℕ → ℕ → Float
channel_mean target ch n = narrowed (channel_sum target ch n ⊘ of_int binary64 (pos n))

unfoldable pub mean_of : ℕ → ℕ → List Float → Colour
mean_of w h target = record {
  red = channel_mean target 0 (h * w);
  green = channel_mean target 1 (h * w);
  blue = channel_mean target 2 (h * w);
}

unfoldable pub mean_refusal : ℕ → ℕ → List Float → ℕ
mean_refusal w h target =
    lowest (size_if (bad_size w h) ∷ length_if (bad_picture w h (length target)) ∷ pixel_if (not (all_within target)) ∷ [])

abbrev pub no_colour : Colour
no_colour = record { red = nought; green = nought; blue = nought }

abbrev pub mean_answer : Outcome Colour → Answer Colour
mean_answer (Done c) = record { number = 0; value = c; done = true }
mean_answer (Refused k) = record { number = k; value = no_colour; done = false }

abbrev pub MeanRgbSays : ℕ → ℕ → List Float → Outcome Colour → Type 0
MeanRgbSays w h target r = mean_answer r ≡ answer (mean_refusal w h target) (mean_of w h target) no_colour

-- ---- total: the sum of the squared differences, in slice order
unfoldable pub total_refusal : ℕ → ℕ → List Float → List Float → ℕ
total_refusal w h target canvas =
    lowest
    (size_if (bad_size w h)
    ∷ length_if (bad_picture w h (length target) || bad_picture w h (length canvas))
    ∷ pixel_if (not (all_within target) || not (all_within canvas))
    ∷ [])

abbrev pub total_answer : Outcome Float → Answer Float
total_answer (Done t) = record { number = 0; value = t; done = true }
total_answer (Refused k) = record { number = k; value = nought; done = false }

abbrev pub SseTotalSays : ℕ → ℕ → List Float → List Float → Outcome Float → Type 0
SseTotalSays w h target canvas r = total_answer r ≡ answer (total_refusal w h target canvas) (total_of target canvas) nought

-- without the tests, for our own crates: of any numbers
abbrev pub TotalAnySays : List Float → List Float → Float → Type 0
TotalAnySays target canvas r = r ≡ total_of target canvas
