use mathlib.Core.Path.{◌≡◌}
use Prim.Native.Nat.{◌-◌, ◌*◌, ◌≤◌}
use lib.ListN.{length}
use Rattle.picture.specs.Strokes.{brushed_rows}
use Rattle.picture.proofs.blend_rows.Given as goal

abbrev pub invariant-loop-y : goal.invariant-loop-y
invariant-loop-y l = (l.initial.y ≤ l.y) × (l.y ≤ l.y-end) × (l.canvas ≡ brushed_rows l.brush l.runs l.initial.y l.y l.w l.h l.initial.canvas) × (length l.canvas ≡ l.h * l.w * 3)

abbrev pub decreases-loop-y : goal.decreases-loop-y
decreases-loop-y l = l.y-end - l.y
