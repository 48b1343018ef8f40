use mathlib.Core.Path.{◌≡◌}
use Prim.Native.Nat.{◌+◌, ◌-◌, ◌*◌, ◌^◌, ◌≤◌, ◌<◌}
use lib.ListN.{length}
use lib.Count.{count_trailing_zeros}
use Rattle.sums.specs.Sums.{no_sums}
use Rattle.gather.specs.Paired.{unpaired_of}
use Rattle.gather.specs.StampSums.{stamp_points, StampIn, first_place}
use Rattle.gather.proofs.points.push_stamp.Given as goal

abbrev pub invariant-loop-b : goal.invariant-loop-b
invariant-loop-b l =
    (l.b < 2 ^ 64) × (l.s.count ≤ count_trailing_zeros 64 l.b) × StampIn l.w l.left l.top (length l.target) l.b
    × (l.at ≡ first_place ((l.top * l.w + l.left) * 3) (l.w * 3) l.b)
    × (stamp_points l.w l.target l.canvas l.left l.top l.b (unpaired_of l.s) ≡ stamp_points l.w l.target l.canvas l.left l.top l.bits no_sums)

abbrev pub decreases-loop-b : goal.decreases-loop-b
decreases-loop-b l = 64 - count_trailing_zeros 64 l.b
