use mathlib.Core.Path.{◌≡◌}
use Prim.Native.Nat.{◌*◌}
use lib.ListN.{length}
use Rattle.float.specs.Within.{nought}
use Rattle.tally.specs.Rows.{total_on}
use Rattle.trials.specs.Courses.{SummedTo}
use Rattle.refine.proofs.courses.sum_rows.Given as goal

abbrev pub invariant-loop-y : goal.invariant-loop-y
invariant-loop-y l =
    (length l.sums ≡ 257) × (l.sum ≡ total_on l.target l.canvas nought 0 (l.y * l.w * 3)) × SummedTo l.w l.y l.target l.canvas l.sums
