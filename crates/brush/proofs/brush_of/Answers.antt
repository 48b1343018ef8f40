use mathlib.Core.Path.{refl}
use lib.Ieee.{of_bits}
use Rattle.brush.proofs.brush_of.Goals as goal

-- The code's 1.0 is the rule's, by its pattern.

pub returns : goal.returns
unfolding of_bits
returns c = refl
