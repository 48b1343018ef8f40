-- Rules: a step for each of k rows, from row a on, one after another. Over any state.
use Rattle.std.specs.Prelude.{ℕ, zero, suc, ◌+◌}

module _ {E : Type 0} (step : ℕ → E → E) where
  unfoldable pub rows_from : ℕ → ℕ → E → E
  rows_from a zero s = s
  rows_from a (suc k) s = step (a + k) (rows_from a k s)
