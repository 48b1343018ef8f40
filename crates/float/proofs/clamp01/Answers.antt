use lib.Ieee.{of_bits}
use Rattle.float.specs.Clamped.{clamped}
use Rattle.float.proofs.clamp01.Goals as goal

-- The code's two comparisons are the rule's; its 0.0 and 1.0 are the rule's, by their patterns.

pub returns-then-x : goal.returns-then-x
unfolding clamped of_bits
returns-then-x c = simp c.if-x.true

pub returns-then-x-2 : goal.returns-then-x-2
unfolding clamped of_bits
returns-then-x-2 c = simp (c.if-x.false, c.if-x-2.true)

pub returns : goal.returns
unfolding clamped of_bits
returns c = simp (c.if-x.false, c.if-x-2.false)
