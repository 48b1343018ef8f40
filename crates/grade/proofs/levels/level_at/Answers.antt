use borrow.Author.Tests.{lt-ltb, le-ltb}
use lib.Ieee.{of_bits}
use Rattle.grade.specs.Levels.{level_at}
use Rattle.grade.proofs.levels.level_at.Goals as goal

-- `grade::levels::level_at` meets its contract.

pub returns-then-i-n : goal.returns-then-i-n
unfolding level_at
returns-then-i-n c = simp (c.level.ensures, lt-ltb _ _ c.if-i-n.true)

pub returns : goal.returns
unfolding level_at of_bits
returns c = simp (le-ltb _ _ c.if-i-n.false)
