use mathlib.Core.Path.{refl}
use lib.Ieee.{of_bits}
use Rattle.sums.specs.Sums.{no_sums}
use Rattle.gather.specs.Paired.{unpaired_of}
use Rattle.gather.proofs.points.no_pairs.Goals as goal

-- `gather::points::no_pairs` meets its contract: the code's 0.0 is +0.

pub returns : goal.returns
unfolding of_bits no_sums unpaired_of
returns c = refl
