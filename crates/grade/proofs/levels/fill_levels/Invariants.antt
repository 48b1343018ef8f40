use mathlib.Core.Path.{◌≡◌}
use Prim.Native.Nat.{◌≤◌, ◌-◌}
use lib.ListN.{length, take}
use Rattle.laws.specs.Tab.{tab}
use Rattle.grade.specs.Levels.{level_at}
use Rattle.grade.proofs.levels.fill_levels.Given as goal

abbrev pub invariant-loop-i : goal.invariant-loop-i
invariant-loop-i l = (l.i ≤ 64) × (length l.levels ≡ 64) × (take l.i l.levels ≡ take l.i (tab (level_at l.n) 64))

abbrev pub decreases-loop-i : goal.decreases-loop-i
decreases-loop-i l = 64 - l.i
