use mathlib.Core.Path.{refl}
use lib.Ieee.{of_bits}
use Rattle.grade.specs.Parts.{error_drawn}
use Rattle.grade.proofs.error_drawn.Goals as goal

-- `grade::error_drawn` meets its contract: the code is the rule's line.

pub returns : goal.returns
unfolding error_drawn of_bits
returns c = refl
