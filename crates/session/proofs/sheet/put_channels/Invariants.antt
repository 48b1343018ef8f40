use Rattle.std.proofs.Common.{◌≡◌, map, take}
use Rattle.session.specs.Session.{channel}
use Rattle.session.proofs.sheet.put_channels.Given as goal

abbrev pub invariant-loop-i : goal.invariant-loop-i
invariant-loop-i l = take l.i l.out ≡ take l.i (map channel l.bytes)
