use mathlib.Core.Path.{◌≡◌}
use Prim.Native.Nat.{◌-◌, ◌*◌, ◌≤◌}
use Rattle.gather.specs.RunSums.{runs_added}
use Rattle.gather.proofs.spans.add_rows.Given as goal

abbrev pub invariant-loop-y : goal.invariant-loop-y
invariant-loop-y l =
    (l.top ≤ l.y) × (l.y ≤ l.bottom) × (l.s.count ≤ (l.y - l.top) * 256) × (l.s ≡ runs_added l.w l.table l.runs l.top (l.y - l.top))

abbrev pub decreases-loop-y : goal.decreases-loop-y
decreases-loop-y l = l.bottom - l.y
