use Rattle.std.proofs.Common.{◌≤◌, length}
use Rattle.run_scoring.proofs.read_full.Given as goal

abbrev pub invariant-loop : goal.invariant-loop
invariant-loop g l = l.n ≤ length l.text
