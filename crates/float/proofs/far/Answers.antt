use Rattle.std.proofs.Common.{arith, le-ltb, lt-ltb}
use Rattle.float.proofs.far.Goals as goal

-- The rule's choice.

pub returns-then-r-lt4039728865751334912 : goal.returns-then-r-lt4039728865751334912
returns-then-r-lt4039728865751334912 c = (simp (lt-ltb _ _ c.if-r-lt4039728865751334912.true), omega arith)

pub returns-else-r-lt4039728865751334912 : goal.returns-else-r-lt4039728865751334912
returns-else-r-lt4039728865751334912 c = (simp (le-ltb _ _ c.if-r-lt4039728865751334912.false), omega arith)
