use Prim.Native.Nat.{◌*◌, ◌/◌, ◌≤◌}
use native.Mathlib.Nat.{mul-le-mul}
use native.Mathlib.Omega.{arith}
use lib.Count.{count_trailing_zeros, trailing_le}
use Rattle.gather.proofs.points.first_place.Goals as goal
use Rattle.gather.proofs.points.first_place.Goals.{Start}

-- `gather::points::first_place` meets its contract: there are 64 zeros at the most, so the numbers are small.

small : (c : Start) → count_trailing_zeros 64 c.args.bits / 8 * c.args.row ≤ 8 * 768
small c =
    let l = trailing_le 64 c.args.bits in
    let h : count_trailing_zeros 64 c.args.bits / 8 ≤ 8 = omega (arith, l) in
    mul-le-mul h c.requires.1

pub overflow_cast-i : goal.overflow_cast-i
overflow_cast-i c = let l = trailing_le 64 c.args.bits in omega (arith, l)

pub overflow_mul-result : goal.overflow_mul-result
overflow_mul-result c = let l = trailing_le 64 c.args.bits in omega (arith, l)

pub overflow_add-result : goal.overflow_add-result
overflow_add-result c = let l = trailing_le 64 c.args.bits in omega (arith, l, c.requires.0)

pub overflow_mul-result-2 : goal.overflow_mul-result-2
overflow_mul-result-2 c = omega (arith, small (goal.at.overflow_mul-result-2 c).Start)

pub overflow_add-result-2 : goal.overflow_add-result-2
overflow_add-result-2 c = let l = trailing_le 64 c.args.bits in omega (arith, l, small (goal.at.overflow_add-result-2 c).Start, c.requires.0)

pub overflow_mul-result-3 : goal.overflow_mul-result-3
overflow_mul-result-3 c = let l = trailing_le 64 c.args.bits in omega (arith, l)

pub overflow_sub-result : goal.overflow_sub-result
overflow_sub-result c = omega arith

pub returns : goal.returns
returns c = omega arith
