use mathlib.Core.Path.{◌≡◌}
use Prim.Native.Nat.{◌-◌, ◌^◌, ◌≤◌, ◌<◌}
use lib.ListN.{length}
use lib.Count.{count_trailing_zeros}
use Rattle.gather.specs.Paired.{unpaired_of}
use Rattle.gather.specs.StampSums.{stamp_points, StampIn}
use Rattle.gather.proofs.points.Pair.push_stamp_any.Given as goal

abbrev pub invariant-loop-b : goal.invariant-loop-b
invariant-loop-b l =
    (l.b < 2 ^ 64) × (l.s.count ≤ count_trailing_zeros 64 l.b) × StampIn l.self.w l.left l.top (length l.self.target.now) l.b
    × (stamp_points l.self.w l.self.target.now l.self.canvas.now l.left l.top l.b (unpaired_of l.s) ≡ stamp_points l.self.w l.self.target.now l.self.canvas.now l.left l.top l.bits (unpaired_of l.initial.s))

abbrev pub decreases-loop-b : goal.decreases-loop-b
decreases-loop-b l = 64 - count_trailing_zeros 64 l.b
