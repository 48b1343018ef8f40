use mathlib.Core.Path.{◌≡◌}
use Prim.Native.Nat.{◌-◌}
use lib.ListN.{length}
use Rattle.picture.specs.Strokes.{Coloured}
use Rattle.picture.proofs.put_each.Given as goal

abbrev pub invariant-loop-i : goal.invariant-loop-i
invariant-loop-i l = (length l.canvas ≡ length l.initial.canvas) × (Coloured l.colour l.from l.initial.canvas → Coloured l.colour l.i l.canvas)

abbrev pub decreases-loop-i : goal.decreases-loop-i
decreases-loop-i l = l.to - l.i
