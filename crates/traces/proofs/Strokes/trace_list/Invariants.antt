use mathlib.Core.Path.{◌≡◌}
use Prim.Native.Nat.{ℕ, ◌<◌}
use lib.ListN.{length, get_or}
use Rattle.shapes.specs.Blank.{blank}
use Rattle.traces.specs.Traces.{Column}
use Rattle.traces.proofs.Strokes.trace_list.Given as goal

abbrev pub invariant-loop-i : goal.invariant-loop-i
invariant-loop-i l =
    (length l.self.runs ≡ 33280) × (length l.self.paints ≡ 260) × ((k : ℕ) → k < l.i → Column l.w l.h (get_or l.list.items k blank) l.self.runs l.self.paints k)
