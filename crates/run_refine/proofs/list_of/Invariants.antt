use Rattle.std.proofs.Common.{◌≡◌, length}
use Rattle.run_refine.proofs.list_of.Given as goal

abbrev pub invariant-loop-i : goal.invariant-loop-i
invariant-loop-i l = length l.items ≡ 64
