use lib.Ieee.{nan}
use Rattle.trials.specs.CopyLaws.{Copied}
use Rattle.trials.proofs.copy.Given as goal

abbrev pub invariant-loop-i : goal.invariant-loop-i
invariant-loop-i l = Copied nan l.from l.initial.to l.start l.i l.to
