use mathlib.Core.Path.{◌≡◌}
use Prim.Native.Nat.{◌≤◌, ◌-◌}
use Rattle.grade.specs.Sweep.{change_at, best_of}
use Rattle.grade.specs.SweepLaws.{level_found}
use Rattle.grade.specs.Swept.{change_of}
use Rattle.grade.proofs.sweeps.sweep.Given as goal

abbrev pub invariant-loop-level : goal.invariant-loop-level
invariant-loop-level l =
    (l.level-index ≤ l.n) × (l.best ≡ level_found l.levels (best_of (change_of l.s l.levels) l.level-index)) × (l.lowest ≡ change_at (change_of l.s l.levels) (best_of (change_of l.s l.levels) l.level-index))

abbrev pub decreases-loop-level : goal.decreases-loop-level
decreases-loop-level l = l.n - l.level-index
