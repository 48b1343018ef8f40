use mathlib.Core.Path.{◌≡◌}
use mathlib.Core.Bool.{true}
use Prim.Native.Nat.{◌+◌, ◌-◌, ◌*◌, ◌≤◌}
use lib.ListN.{length}
use Rattle.laws.specs.Rows.{put_rows}
use Rattle.table.specs.Fills.{row_at}
use Rattle.table.proofs.build_rows.Given as goal

abbrev pub invariant-loop-y : goal.invariant-loop-y
invariant-loop-y l =
    (l.y ≤ l.h) × (l.table ≡ put_rows ((l.w + 1) * 15) (row_at true l.w l.target l.canvas) 0 l.y l.initial.table) × (length l.table ≡ l.h * ((l.w + 1) * 15))

abbrev pub decreases-loop-y : goal.decreases-loop-y
decreases-loop-y l = l.h - l.y
