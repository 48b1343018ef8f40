-- Rules: a / b rounded down and rounded up, for b other than 0.
use Rattle.std.specs.Prelude.{suc, ℤ, pos, negsuc, neg_ℤ}
use Rattle.std.specs.Int.Signed.{shr_z}

-- a / b rounded down
abbrev pub floor_z : ℤ → ℤ → ℤ
floor_z a (pos b) = shr_z a b
floor_z a (negsuc b) = shr_z (neg_ℤ a) (suc b)

-- a / b rounded up
abbrev pub ceil_z : ℤ → ℤ → ℤ
ceil_z a b = neg_ℤ (floor_z (neg_ℤ a) b)
