use Prim.Native.Nat.{◌-◌, ◌≤◌, max}
use Rattle.polygon.specs.Steps.{Rows}
use Rattle.polygon.specs.OneRow.{four, Done}
use Rattle.polygon.proofs.quad_rows.Given as goal

abbrev pub invariant-loop-y : goal.invariant-loop-y
invariant-loop-y l =
    (l.first ≤ l.y) × (l.y ≤ max l.first l.past) × Rows (Done (four l.x0 l.x1 l.x2 l.x3) (four l.y0 l.y1 l.y2 l.y3) l.w) l.first l.y l.initial.out l.out

abbrev pub decreases-loop-y : goal.decreases-loop-y
decreases-loop-y l = l.past - l.y
