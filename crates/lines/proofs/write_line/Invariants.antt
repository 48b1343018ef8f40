use Rattle.std.proofs.Common.{◌≡◌, ◌+◌, ◌++◌, take, drop}
use Rattle.lines.specs.Hex.{hex_of}
use Rattle.lines.proofs.write_line.Given as goal

abbrev pub invariant-loop-i : goal.invariant-loop-i
invariant-loop-i l = l.out ≡ hex_of (take l.i l.bytes) ++ drop (l.i + l.i) l.initial.out
