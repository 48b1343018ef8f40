use Rattle.std.proofs.Common.{◌≤◌, T, take}
use Rattle.laws.specs.Every.{every}
use Rattle.float.specs.Within.{within}
use Rattle.float.proofs.numbers_within.Given as goal

abbrev pub invariant-loop-x : goal.invariant-loop-x
invariant-loop-x l = l.most ≤ 0x3f80_0000 → T (every within (take l.x-index l.xs))
