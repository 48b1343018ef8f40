use native.Mathlib.Omega.{arith}
use Prim.Native.Nat.{◌<◌}
use lib.Dec.{T}
use lib.Ieee.{binary64, fits, to_bits}
use Rattle.laws.specs.Bools.{true_is}
use Rattle.float.specs.Masked.{plain_under, masked-is-narrowed, masked_no_nan}
use Rattle.grade.proofs.parts.rounded.Goals as goal
use Rattle.grade.proofs.parts.rounded.Goals.{Start}

-- `grade::parts::rounded` meets its contract: the pattern without its last 29 digits is that of the narrowed number.

under : (c : Start) → to_bits binary64 c.args.q < 0x4000_0000_0000_0000
under c = plain_under (to_bits binary64 c.args.q) c.requires.1

held : (c : Start) → T (fits binary64 c.args.q)
held c = true_is (fits binary64 c.args.q) c.well_formed.0.1

pub returns : goal.returns
returns c = masked-is-narrowed c.args.q (held (goal.at.returns c).Start) c.requires.1

pub overflow_add-result : goal.overflow_add-result
overflow_add-result c = omega (arith, under (goal.at.overflow_add-result c).Start)

pub overflow_add-result-2 : goal.overflow_add-result-2
overflow_add-result-2 c = omega (arith, under (goal.at.overflow_add-result-2 c).Start)

pub overflow_mul-result : goal.overflow_mul-result
overflow_mul-result c = omega (arith, under (goal.at.overflow_mul-result c).Start)

pub float_from_bits-result : goal.float_from_bits-result
float_from_bits-result c = masked_no_nan c.args.q (held (goal.at.float_from_bits-result c).Start) c.requires.0 c.requires.1
