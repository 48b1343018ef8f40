use mathlib.Core.Path.{refl}
use lib.Ieee.{of_bits}
use Rattle.grade.specs.Parts.{error_left}
use Rattle.grade.proofs.error_left.Goals as goal

-- `grade::error_left` meets its contract: the code is the rule's line.

pub returns : goal.returns
unfolding error_left of_bits
returns c = refl
