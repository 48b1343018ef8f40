use mathlib.Core.Path.{◌≡◌}
use Prim.Native.Nat.{◌≤◌, ◌-◌}
use lib.Dec.{T}
use lib.ListN.{length, take}
use Rattle.float.specs.Within.{all_within}
use Rattle.tally.specs.Tally.{total_to}
use Rattle.tally.proofs.totals.total_within.Given as goal

abbrev pub invariant-loop-i : goal.invariant-loop-i
invariant-loop-i l =
    (l.i ≤ l.n) × (l.n ≡ length l.target) × (l.n ≡ length l.canvas) × (l.sum ≡ total_to l.target l.canvas l.i) × T (all_within (take l.i l.target)) × T (all_within (take l.i l.canvas))

abbrev pub decreases-loop-i : goal.decreases-loop-i
decreases-loop-i l = l.n - l.i
