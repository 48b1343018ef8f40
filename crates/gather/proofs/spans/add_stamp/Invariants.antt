use mathlib.Core.Path.{◌≡◌}
use Prim.Native.Nat.{◌+◌, ◌-◌, ◌*◌, ◌≤◌}
use lib.ListN.{length}
use Rattle.sums.specs.Sums.{no_sums}
use Rattle.gather.specs.StampSums.{stamp_spans, RowsIn}
use Rattle.gather.proofs.spans.add_stamp.Given as goal

abbrev pub invariant-loop-b : goal.invariant-loop-b
invariant-loop-b l =
    (l.top ≤ l.y) × (l.y ≤ l.top + 8) × (l.s.count ≤ (l.y - l.top) * 8) × RowsIn l.w l.left l.y (length l.table) (l.top + 8 - l.y) l.b
    × (stamp_spans l.w l.table l.left l.y (l.top + 8 - l.y) l.b l.s ≡ stamp_spans l.w l.table l.left l.top 8 l.bits no_sums)

abbrev pub decreases-loop-b : goal.decreases-loop-b
decreases-loop-b l = l.top + 8 - l.y
