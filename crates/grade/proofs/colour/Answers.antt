use lib.Ieee.{of_bits, lt, round}
use Rattle.float.specs.Clamped.{clamped}
use Rattle.float.specs.Narrowed.{narrowed}
use Rattle.grade.specs.Finalize.{colour_of}
use Rattle.grade.proofs.colour.Goals as goal

-- `grade::colour` meets its contract: the two ways of the rule.

pub returns-then-denom : goal.returns-then-denom
unfolding colour_of of_bits
returns-then-denom c = simp (c.narrow01.ensures, c.if-denom.true)

pub returns : goal.returns
unfolding colour_of of_bits clamped narrowed lt round
returns c = simp c.if-denom.false
