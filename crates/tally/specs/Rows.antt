-- Rules: document 01, "Fill, mean, total": a total that goes on from a sum: the numbers from one place of two pictures on, in slice order.
use Rattle.std.specs.Prelude.{◌≡◌, List, ℕ, ◌+◌, get_or, Float}
use Rattle.std.specs.Float.{nan}
use Rattle.laws.specs.Before.{before}
use Rattle.laws.specs.F64.{◌⊕◌}
use Rattle.tally.specs.Tally.{squared_difference}

unfoldable pub total_on : List Float → List Float → Float → ℕ → ℕ → Float
total_on target canvas sum from count =
    before sum ◌⊕◌ (λ i. squared_difference (get_or target (from + i) nan) (get_or canvas (from + i) nan)) count

-- for our own crates, of numbers within 0..1
abbrev pub TotalOnSays : List Float → List Float → ℕ → ℕ → Float → Float → Type 0
TotalOnSays target canvas from count sum r = r ≡ total_on target canvas sum from count
