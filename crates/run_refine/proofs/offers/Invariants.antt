use Rattle.std.proofs.Common.{◌≡◌, ◌≤◌, length}
use Rattle.run_refine.proofs.offers.Given as goal

abbrev pub invariant-loop-i : goal.invariant-loop-i
invariant-loop-i l = (l.i-end ≤ 1024) × (length l.slots ≡ 1024)
