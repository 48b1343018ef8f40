use Rattle.std.proofs.Common.{◌≡◌, take}
use Rattle.laws.specs.Every.{every}
use Rattle.float.specs.Within.{number}
use Rattle.float.proofs.all_numbers.Given as goal

abbrev pub invariant-loop-x : goal.invariant-loop-x
invariant-loop-x l = l.ok ≡ every number (take l.x-index l.xs)
