use mathlib.Core.Path.{refl}
use lib.Ieee.{of_bits, div, le, round}
use Rattle.laws.specs.Fit.{no_both}
use Rattle.float.specs.Within.{within}
use Rattle.score.proofs.tests.asked.Goals as goal

-- `score::tests::asked` meets its contract: a NaN is not within 0..1.

pub returns-in-Levels : goal.returns-in-Levels
unfolding within le of_bits div round
returns-in-Levels c = λ e. no_both e refl
