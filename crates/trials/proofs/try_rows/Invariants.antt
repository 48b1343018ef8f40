use mathlib.Core.Path.{◌≡◌}
use mathlib.Core.List.{List}
use Prim.Native.Nat.{◌*◌, ◌≤◌}
use lib.Dec.{T}
use lib.Ieee.{Float}
use lib.ListN.{length}
use lib.Seq.{slice}
use Rattle.float.specs.Within.{nought, all_within}
use Rattle.tally.specs.Rows.{total_on}
use Rattle.shapes.specs.declared.Shape.{Shape}
use Rattle.traces.specs.Refinement.{painted_on}
use Rattle.traces.specs.Scenes.{shape_painted}
use Rattle.traces.specs.Traces.{Traced}
use Rattle.trials.specs.Courses.{SummedTo, Apart}
use Rattle.trials.proofs.try_rows.Given as goal

abbrev pub invariant-loop-y : goal.invariant-loop-y
invariant-loop-y l =
    (length l.second ≡ length l.initial.second) × T (all_within l.second) × (length l.trial ≡ 257)
    × ((m : List Shape) (q : List Float) → Traced l.w l.h m l.strokes.runs l.strokes.paints → l.to ≤ length m → Apart l.w l.h l.top l.bottom q (painted_on (shape_painted l.w l.h) l.first (slice l.from l.to m)) → SummedTo l.w l.h l.target q l.sums
    → (l.sum ≡ total_on l.target (painted_on (shape_painted l.w l.h) l.first (slice l.from l.to m)) nought 0 (l.y * l.w * 3)) × SummedTo l.w l.y l.target (painted_on (shape_painted l.w l.h) l.first (slice l.from l.to m)) l.trial)
