use mathlib.Core.Path.{◌≡◌}
use Prim.Native.Nat.{◌-◌, ◌*◌}
use lib.ListN.{length}
use Rattle.picture.specs.declared.Colour.{Colour}
use Rattle.picture.specs.Strokes.{Coloured}
use Rattle.picture.proofs.put_fours.Given as goal

abbrev pub invariant-loop-i : goal.invariant-loop-i
invariant-loop-i l = (length l.canvas ≡ length l.initial.canvas) × ((k : Colour) → Coloured k 16 l.initial.canvas → Coloured k (l.i * 4) l.canvas)

abbrev pub decreases-loop-i : goal.decreases-loop-i
decreases-loop-i l = l.fours - l.i
