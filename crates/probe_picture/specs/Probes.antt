-- Rules: what the probes promise is what the functions behind them promise, with the tests of document 01's table before painting.
use Rattle.std.specs.Prelude.{◌≡◌, cond, List, [], ◌∷◌, ℕ, eqb, ℤ, pos, length, Float, Option, None, Some}
use Rattle.laws.specs.Answer.{Answer, answer}
use Rattle.float.specs.Within.{nought}
use Rattle.refusal.specs.Refusals.{lowest, size_if, length_if, place_if, bad_size}
use Rattle.refusal.specs.Lengths.{bad_picture}
use Rattle.cover.specs.declared.Kind.{Kind}
use Rattle.cover.specs.declared.Reach.{Reach}
use Rattle.cover.specs.Cover.{bad_places, refusal_of, reach}
use Rattle.crossing.specs.Outlines.{kind_of}
use Rattle.picture.specs.declared.Colour.{Colour}
use Rattle.picture.specs.Painting.{painted}
use Rattle.tally.specs.Tally.{total_of}
use Rattle.picture.specs.Pixels.{FilledCanvasSays, no_colour, mean_of, mean_refusal, total_refusal}
use Rattle.probe_picture.specs.declared.ProbedMean.{ProbedMean}
use Rattle.probe_picture.specs.declared.ProbedTotal.{ProbedTotal}
use Rattle.probe_picture.specs.declared.ProbedReach.{ProbedReach}

abbrev pub ProbeFilledCanvasSays : ℕ → ℕ → Float → Float → Float → List Float → ℕ → List Float → Type 0
ProbeFilledCanvasSays w h red green blue old r new = FilledCanvasSays w h red green blue old r new

-- the same answers, as C has them
abbrev pub probed_mean : Answer Colour → ProbedMean
probed_mean a = record { number = a.number; red = a.value.red; green = a.value.green; blue = a.value.blue }

abbrev pub ProbeMeanRgbSays : ℕ → ℕ → List Float → ProbedMean → Type 0
ProbeMeanRgbSays w h target r = r ≡ probed_mean (answer (mean_refusal w h target) (mean_of w h target) no_colour)

abbrev pub probed_total : Answer Float → ProbedTotal
probed_total a = record { number = a.number; total = a.value }

abbrev pub ProbeSseTotalSays : ℕ → ℕ → List Float → List Float → ProbedTotal → Type 0
ProbeSseTotalSays w h target canvas r = r ≡ probed_total (answer (total_refusal w h target canvas) (total_of target canvas) nought)

-- ---- painting, after the tests of size, length and place
unfoldable pub blend_refusal : Kind → ℕ → ℕ → ℕ → ℕ
blend_refusal kind w h n = lowest (size_if (bad_size w h) ∷ length_if (bad_picture w h n) ∷ place_if (bad_places kind) ∷ [])

-- the number r, and of the picture, old as it was lent, new as it is left
pub record Blended (kind : Kind) (opacity red green blue : Float) (w h : ℕ) (old : List Float) (r : ℕ) (new : List Float) : Type 0 where
  pub number : r ≡ blend_refusal kind w h (length old)
  pub left : new ≡ cond (eqb r 0) (painted kind opacity red green blue w h old) old

-- a shape crosses as a slice of coordinates; another length than 3, 6, 8 is refusal 2
abbrev pub Blends : Option Kind → Float → Float → Float → Float → ℕ → ℕ → List Float → ℕ → List Float → Type 0
Blends None opacity red green blue w h old r new = (r ≡ 2) × (new ≡ old)
Blends (Some kind) opacity red green blue w h old r new = Blended kind opacity red green blue w h old r new

abbrev pub ProbeBlendSays : ℕ → ℕ → List ℤ → Float → Float → Float → Float → List Float → ℕ → List Float → Type 0
ProbeBlendSays w h shape opacity red green blue old r new = Blends (kind_of shape) opacity red green blue w h old r new

-- ---- the row reach
abbrev pub no_reach : Reach
no_reach = record { first = pos 0; last = pos 0 }

abbrev pub probed_reach : Answer Reach → ProbedReach
probed_reach a = record { number = a.number; first = a.value.first; last = a.value.last }

abbrev pub reach_of : Kind → ℕ → ℕ → ProbedReach
reach_of kind w h = probed_reach (answer (refusal_of kind w h) (reach kind h) no_reach)

abbrev pub unreached : ℕ → ProbedReach
unreached number = record { number = number; first = pos 0; last = pos 0 }

abbrev pub reach_in : Option Kind → ℕ → ℕ → ProbedReach
reach_in None w h = unreached 2
reach_in (Some kind) w h = reach_of kind w h

abbrev pub ProbeReachSays : ℕ → ℕ → List ℤ → ProbedReach → Type 0
ProbeReachSays w h shape r = r ≡ reach_in (kind_of shape) w h
