use Rattle.std.proofs.Common.{◌+◌, take}
use Rattle.lines.specs.Inside.{SpelledBy}
use Rattle.lines.proofs.fill.Given as goal

abbrev pub invariant-loop-i : goal.invariant-loop-i
invariant-loop-i l = SpelledBy (take (l.i + l.i) l.line) (take l.i l.out)
