use mathlib.Core.Path.{◌≡◌}
use mathlib.Core.Bool.{false}
use Prim.Native.Nat.{◌+◌, ◌-◌, ◌*◌, ◌≤◌, min}
use lib.ListN.{length}
use Rattle.laws.specs.Rows.{put_rows}
use Rattle.table.specs.Fills.{row_at}
use Rattle.table.proofs.update_rows.Given as goal

abbrev pub invariant-loop-part : goal.invariant-loop-part
invariant-loop-part l =
    (l.part ≤ l.part-end) × (l.table ≡ put_rows ((l.w + 1) * 15) (row_at false l.w l.target l.canvas) l.lo (min l.hi (l.lo + l.part * l.n)) l.initial.table) × (length l.table ≡ l.h * ((l.w + 1) * 15))

abbrev pub decreases-loop-part : goal.decreases-loop-part
decreases-loop-part l = l.part-end - l.part
