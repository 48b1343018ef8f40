use Rattle.std.proofs.Common.{refl}
use lib.Ieee.{of_bits}
use Rattle.float.specs.Within.{within}
use Rattle.float.proofs.within.Goals as goal

-- The code's two comparisons are the rule's; its 0.0 and 1.0 are the rule's, by their patterns.

pub returns : goal.returns
unfolding within of_bits
returns c = refl
