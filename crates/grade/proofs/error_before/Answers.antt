use mathlib.Core.Path.{refl}
use lib.Ieee.{of_bits}
use Rattle.grade.specs.Finalize.{error_before}
use Rattle.grade.proofs.error_before.Goals as goal

-- `grade::error_before` meets its contract: the code is the rule's line.

pub returns : goal.returns
unfolding error_before of_bits
returns c = refl
