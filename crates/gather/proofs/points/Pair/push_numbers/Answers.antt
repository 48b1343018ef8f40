use Prim.Native.Nat.{◌+◌}
use native.Mathlib.Omega.{arith}
use Rattle.gather.proofs.points.Pair.push_numbers.Goals as goal

-- `gather::points::Pair::push_numbers` meets its contract: no channel of the pixel is a NaN, so that each is widened by a plain cast.

pub widen_number-requires : goal.widen_number-requires
widen_number-requires c = c.requires.numbers_in.0 c.args.at (omega arith) (omega arith)

pub widen_number-requires-2 : goal.widen_number-requires-2
widen_number-requires-2 c = c.requires.numbers_in.0 (c.args.at + 1) (omega arith) (omega arith)

pub widen_number-requires-3 : goal.widen_number-requires-3
widen_number-requires-3 c = c.requires.numbers_in.0 (c.args.at + 2) (omega arith) (omega arith)

pub widen_number-requires-4 : goal.widen_number-requires-4
widen_number-requires-4 c = c.requires.numbers_in.1 c.args.at (omega arith) (omega arith)

pub widen_number-requires-5 : goal.widen_number-requires-5
widen_number-requires-5 c = c.requires.numbers_in.1 (c.args.at + 1) (omega arith) (omega arith)

pub widen_number-requires-6 : goal.widen_number-requires-6
widen_number-requires-6 c = c.requires.numbers_in.1 (c.args.at + 2) (omega arith) (omega arith)

pub returns : goal.returns
returns c = simp (c.push_pair.ensures, c.widen_number-6.ensures, c.widen_number-5.ensures, c.widen_number-4.ensures, c.widen_number-3.ensures, c.widen_number-2.ensures, c.widen_number.ensures)
