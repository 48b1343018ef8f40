use Rattle.std.proofs.Common.{◌<◌}
use Rattle.run_refine.proofs.checksum.Given as goal

abbrev pub invariant-loop-x : goal.invariant-loop-x
invariant-loop-x l = l.sum < 4294967291
