use mathlib.Core.Path.{◌≡◌}
use mathlib.Core.List.{List}
use Prim.Native.Nat.{◌≤◌}
use lib.Dec.{T}
use lib.ListN.{length}
use lib.Seq.{slice}
use Rattle.float.specs.Within.{all_within}
use Rattle.shapes.specs.declared.Shape.{Shape}
use Rattle.traces.specs.Traces.{Traced, RowPainted}
use Rattle.traces.proofs.Strokes.paint_row.Given as goal

abbrev pub invariant-loop-i : goal.invariant-loop-i
invariant-loop-i l =
    (length l.canvas ≡ length l.initial.canvas) × T (all_within l.canvas) × ((m : List Shape) → Traced l.w l.h m l.self.runs l.self.paints → l.to ≤ length m → RowPainted l.w l.h l.y (slice l.from l.i m) l.initial.canvas l.canvas)
