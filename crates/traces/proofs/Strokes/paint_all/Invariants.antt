use mathlib.Core.Path.{◌≡◌}
use mathlib.Core.List.{List}
use Prim.Native.Nat.{◌≤◌}
use lib.Dec.{T}
use lib.ListN.{length}
use lib.Seq.{slice}
use Rattle.float.specs.Within.{all_within}
use Rattle.shapes.specs.declared.Shape.{Shape}
use Rattle.traces.specs.Traces.{Traced}
use Rattle.traces.specs.TraceLaws.{RowsPainted}
use Rattle.traces.proofs.Strokes.paint_all.Given as goal

abbrev pub invariant-loop-y : goal.invariant-loop-y
invariant-loop-y l =
    (length l.canvas ≡ length l.initial.canvas) × T (all_within l.canvas) × ((m : List Shape) → Traced l.w l.h m l.self.runs l.self.paints → l.to ≤ length m → RowsPainted l.w l.h l.y (slice l.from l.to m) l.initial.canvas l.canvas)
