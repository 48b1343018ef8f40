use mathlib.Core.Path.{refl}
use lib.Ieee.{of_bits}
use Rattle.sums.specs.Sums.{no_sums}
use Rattle.sums.proofs.ShapeSums.new.Goals as goal

-- `ShapeSums::new`: the code's 0.0 is +0.

pub returns : goal.returns
unfolding of_bits no_sums
returns c = refl
