-- Rules: the answer of an export of which more than a number comes back: "A refused call returns its number with every other part of the answer zero".
use Rattle.std.specs.Prelude.{true, cond, [], ◌∷◌, ℕ, eqb, Float}
use Rattle.float.specs.Within.{nought}
use Rattle.refusal.specs.Refusals.{lowest, size_if, length_if, bad_size}
use Rattle.capi.specs.declared.SillbadgerAnswer.{SillbadgerAnswer}

abbrev pub refused_by : ℕ → SillbadgerAnswer
refused_by number = record {
  refusal = number;
  count = 0;
  opacity = nought;
  change = nought;
  red = nought;
  green = nought;
  blue = nought;
  passes = 0;
  trials = 0;
  acceptances = 0;
  total = nought;
}

-- an answer with another score, another colour, another total, other counts
abbrev pub with_score : SillbadgerAnswer → ℕ → Float → Float → Float → Float → Float → SillbadgerAnswer
with_score a count opacity change red green blue = record {
  refusal = a.refusal;
  count = count;
  opacity = opacity;
  change = change;
  red = red;
  green = green;
  blue = blue;
  passes = a.passes;
  trials = a.trials;
  acceptances = a.acceptances;
  total = a.total;
}

abbrev pub with_colour : SillbadgerAnswer → Float → Float → Float → SillbadgerAnswer
with_colour a red green blue = record {
  refusal = a.refusal;
  count = a.count;
  opacity = a.opacity;
  change = a.change;
  red = red;
  green = green;
  blue = blue;
  passes = a.passes;
  trials = a.trials;
  acceptances = a.acceptances;
  total = a.total;
}

abbrev pub with_total : SillbadgerAnswer → Float → SillbadgerAnswer
with_total a total = record {
  refusal = a.refusal;
  count = a.count;
  opacity = a.opacity;
  change = a.change;
  red = a.red;
  green = a.green;
  blue = a.blue;
  passes = a.passes;
  trials = a.trials;
  acceptances = a.acceptances;
  total = total;
}

abbrev pub with_counts : SillbadgerAnswer → ℕ → ℕ → ℕ → SillbadgerAnswer
with_counts a passes trials acceptances = record {
  refusal = a.refusal;
  count = a.count;
  opacity = a.opacity;
  change = a.change;
  red = a.red;
  green = a.green;
  blue = a.blue;
  passes = passes;
  trials = trials;
  acceptances = acceptances;
  total = a.total;
}

-- a call that is done has number 0 and what it works out; the rest is 0
abbrev pub colour_told : Float → Float → Float → SillbadgerAnswer
colour_told red green blue = with_colour (refused_by 0) red green blue

abbrev pub total_told : Float → SillbadgerAnswer
total_told total = with_total (refused_by 0) total

-- the answer, from the refusal's number and what a call that is done answers
abbrev pub answered : ℕ → SillbadgerAnswer → SillbadgerAnswer
answered number done = cond (eqb number 0) done (refused_by number)

-- no kind of shape has as many coordinates as were lent: 2 holds, so only 1 can be lower
abbrev pub shapeless : ℕ → ℕ → ℕ
shapeless w h = lowest (size_if (bad_size w h) ∷ length_if true ∷ [])
