use mathlib.Core.Path.{refl}
use Rattle.laws.specs.Fit.{no_both}
use Rattle.gather.proofs.points.Pair.both_numbers.Goals as goal

-- `gather::points::Pair::both_numbers` meets its contract: true only where both tests are.

pub returns-then-e-a-lt96 : goal.returns-then-e-a-lt96
returns-then-e-a-lt96 c = λ e. no_both e refl

pub returns-then-numbers_in : goal.returns-then-numbers_in
returns-then-numbers_in c = λ e. (c.numbers_in.ensures c.if-numbers_in.true, c.numbers_in-then-numbers_in.ensures e)

pub returns : goal.returns
returns c = λ e. no_both e refl
