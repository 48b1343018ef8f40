-- Rules: what a float's mark shows. For our own crates.
use Rattle.std.specs.Prelude.{ℕ, ◌<◌, T, Float}
use Rattle.float.specs.Within.{within}

-- a clear top bit shows that x is within 0..1; a set one shows nothing, and the other bits are the code's own
pub record MarksSays (x : Float) (r : ℕ) : Type 0 where
  pub shows : r < 0x8000_0000 → T (within x)
