-- Rules: the exports on pictures promise what the calls behind them promise.
use Rattle.std.specs.Prelude.{◌≡◌, List, ℕ, Float}
use Rattle.grade.specs.Levels.{AlphaLevelsSays}
use Rattle.picture.specs.declared.Colour.{Colour}
use Rattle.tally.specs.Tally.{total_of}
use Rattle.picture.specs.Pixels.{FilledCanvasSays, mean_refusal, mean_of, total_refusal}
use Rattle.capi.specs.declared.SillbadgerAnswer.{SillbadgerAnswer}
use Rattle.capi.specs.Answers.{answered, colour_told, total_told}

-- the number, and what is lent after it
abbrev pub SillbadgerLevelsSays : ℕ → List Float → ℕ → List Float → Type 0
SillbadgerLevelsSays bits lent r after = AlphaLevelsSays bits lent r after

abbrev pub SillbadgerFillSays : ℕ → ℕ → Float → Float → Float → List Float → ℕ → List Float → Type 0
SillbadgerFillSays w h red green blue old r new = FilledCanvasSays w h red green blue old r new

abbrev pub of_colour : Colour → SillbadgerAnswer
of_colour c = colour_told c.red c.green c.blue

abbrev pub SillbadgerMeanSays : ℕ → ℕ → List Float → SillbadgerAnswer → Type 0
SillbadgerMeanSays w h target r = r ≡ answered (mean_refusal w h target) (of_colour (mean_of w h target))

abbrev pub SillbadgerTotalSays : ℕ → ℕ → List Float → List Float → SillbadgerAnswer → Type 0
SillbadgerTotalSays w h target canvas r = r ≡ answered (total_refusal w h target canvas) (total_told (total_of target canvas))
