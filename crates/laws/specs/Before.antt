-- Rules: an ordered sum, over any kind of number.
use Rattle.std.specs.Prelude.{ℕ, zero, suc}

module _ {E : Type 0} (none : E) (plus : E → E → E) where
  -- f 0, f 1 and so on, those before x, added one by one to nothing
  unfoldable pub before : (ℕ → E) → ℕ → E
  before f zero = none
  before f (suc x) = plus (before f x) (f x)
