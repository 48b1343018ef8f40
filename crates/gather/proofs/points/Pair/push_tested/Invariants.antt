use mathlib.Core.Path.{◌≡◌}
use Prim.Native.Nat.{◌+◌, ◌-◌, ◌≤◌}
use Rattle.gather.specs.RunSums.{pixels_added}
use Rattle.gather.specs.Paired.{unpaired_of}
use Rattle.gather.proofs.points.Pair.push_tested.Given as goal

abbrev pub invariant-loop-x : goal.invariant-loop-x
invariant-loop-x l =
    (l.left ≤ l.x) × (l.x ≤ l.right) × (l.s.count ≡ l.initial.s.count + (l.x - l.left)) × (unpaired_of l.s ≡ pixels_added l.self.w l.self.target.now l.self.canvas.now l.y l.left (l.x - l.left) (unpaired_of l.initial.s))

abbrev pub decreases-loop-x : goal.decreases-loop-x
decreases-loop-x l = l.right - l.x
