use mathlib.Core.Path.{◌≡◌}
use Prim.Native.Nat.{ℕ, ◌*◌, ◌/◌, ◌-◌, ◌≤◌}
use lib.Dec.{T}
use lib.ListN.{take}
use Rattle.float.specs.Within.{all_within}
use Rattle.tally.specs.Tally.{sums_to}
use Rattle.tally.proofs.means.sums_within.Given as goal

abbrev pub invariant-loop-part : goal.invariant-loop-part
invariant-loop-part l = (l.part ≤ l.parts) × (l.parts ≡ l.n / 16) × ((k : ℕ) → k ≡ l.part * 16 → (l.sums ≡ sums_to l.target k) × T (all_within (take (k * 3) l.target)))

abbrev pub decreases-loop-part : goal.decreases-loop-part
decreases-loop-part l = l.parts - l.part
