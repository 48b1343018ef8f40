use mathlib.Core.Path.{◌≡◌}
use Prim.Native.Nat.{◌-◌, ◌*◌, ◌≤◌}
use Rattle.picture.specs.Pixels.{filled}
use Rattle.shapes.specs.Lists.{listed}
use Rattle.traces.specs.Refinement.{refined}
use Rattle.traces.specs.Scenes.{scene_of}
use Rattle.trials.specs.Courses.{progress_of, aids_of, Aided}
use Rattle.refine.specs.CourseLaws.{During, Between}
use Rattle.refine.proofs.refine_shapes.Given as goal

-- t trials of a pass
abbrev pub invariant-loop-t : goal.invariant-loop-t
invariant-loop-t l =
    During (scene_of l.w l.h l.red l.green l.blue l.target l.candidates) (l.h * l.w * 3) (Aided l.w l.h l.target (filled l.w l.h l.red l.green l.blue)) l.n (progress_of l.initial.c) l.t l.c l.first (aids_of l.second l.sums l.strokes.runs l.strokes.paints)

-- some passes
abbrev pub invariant-loop-c : goal.invariant-loop-c
invariant-loop-c l =
    Between (scene_of l.w l.h l.red l.green l.blue l.target l.candidates) (l.h * l.w * 3) (Aided l.w l.h l.target (filled l.w l.h l.red l.green l.blue)) l.n (refined (scene_of l.w l.h l.red l.green l.blue l.target l.candidates) l.passes (listed l.initial.c.list)) l.limit l.c l.first (aids_of l.second l.sums l.strokes.runs l.strokes.paints)

abbrev pub decreases-loop-c : goal.decreases-loop-c
decreases-loop-c l =
    l.limit - l.c.passes
