use lib.Ieee.{of_bits}
use Rattle.grade.specs.Finalize.{before_at}
use Rattle.grade.proofs.all_before.Goals as goal

-- `grade::all_before` meets its contract: each channel's error, added in order.

pub returns : goal.returns
unfolding before_at of_bits
returns c = simp (c.error_before-third.ensures, c.error_before-second.ensures, c.error_before-first.ensures)
