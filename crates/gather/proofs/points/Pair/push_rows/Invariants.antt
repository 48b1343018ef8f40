use mathlib.Core.Path.{◌≡◌}
use Prim.Native.Nat.{◌-◌, ◌*◌, ◌≤◌}
use Rattle.gather.specs.Paired.{unpaired_of}
use Rattle.gather.specs.RunSums.{points_added}
use Rattle.gather.proofs.points.Pair.push_rows.Given as goal

abbrev pub invariant-loop-y : goal.invariant-loop-y
invariant-loop-y l =
    (l.top ≤ l.y) × (l.y ≤ l.bottom) × (l.s.count ≤ (l.y - l.top) * 256) × (unpaired_of l.s ≡ points_added l.self.w l.self.target.now l.self.canvas.now l.runs l.top (l.y - l.top))

abbrev pub decreases-loop-y : goal.decreases-loop-y
decreases-loop-y l = l.bottom - l.y
