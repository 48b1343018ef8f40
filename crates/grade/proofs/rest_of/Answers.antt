use lib.Ieee.{of_bits}
use Rattle.grade.proofs.rest_of.Goals as goal

-- `grade::rest_of` meets its contract.

pub returns : goal.returns
unfolding of_bits
returns c = c.widen.ensures
