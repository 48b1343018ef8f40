use mathlib.Core.Path.{refl}
use lib.Ieee.{of_bits}
use Rattle.capi.proofs.refused.Goals as goal

-- The number is the number, whatever it is kept in; all else is 0.

pub returns : goal.returns
unfolding of_bits
returns c = refl
