-- Rules: a bound of a signed number, as the contracts of helpers ask it.
use Rattle.std.specs.Prelude.{ℕ, ◌≤◌, ℤ, nat_abs}

-- |z| ≤ n; a record, so that n and z are inferred from a proof of it
pub record Bounded (n : ℕ) (z : ℤ) : Type 0 where
  pub within : nat_abs z ≤ n
