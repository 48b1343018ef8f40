use Prim.Native.Nat.{ℕ, ◌*◌, ◌≤◌, ◌<◌}
use native.Mathlib.Nat.{mul-le-mul}
use native.Mathlib.Omega.{arith}
use Rattle.gather.proofs.points.Pair.push_row.Goals as goal

-- `gather::points::Pair::push_row` meets its contract: either way the same pixels are added.

small : (y w : ℕ) → y < 256 → w ≤ 256 → y * w ≤ 65536
small y w a b =
    let p : y ≤ 256 = omega arith in
    let m : y * w ≤ 256 * 256 = mul-le-mul p b in
    omega arith

pub overflow_mul-y : goal.overflow_mul-y
overflow_mul-y c = omega (arith, small c.args.y c.args.self.w c.requires.sizes.1 c.requires.sizes.0)

pub overflow_add-y : goal.overflow_add-y
overflow_add-y c = omega (arith, small c.args.y c.args.self.w c.requires.sizes.1 c.requires.sizes.0, c.requires.sizes.0, c.requires.sizes.2, c.requires.sizes.3)

pub overflow_mul-y-2 : goal.overflow_mul-y-2
overflow_mul-y-2 c = omega (arith, small c.args.y c.args.self.w c.requires.sizes.1 c.requires.sizes.0, c.requires.sizes.0, c.requires.sizes.2, c.requires.sizes.3)

pub overflow_mul-y-3 : goal.overflow_mul-y-3
overflow_mul-y-3 c = omega (arith, small c.args.y c.args.self.w c.requires.sizes.1 c.requires.sizes.0)

pub overflow_add-y-2 : goal.overflow_add-y-2
overflow_add-y-2 c = omega (arith, small c.args.y c.args.self.w c.requires.sizes.1 c.requires.sizes.0, c.requires.sizes.0, c.requires.sizes.3)

pub overflow_mul-y-4 : goal.overflow_mul-y-4
overflow_mul-y-4 c = omega (arith, small c.args.y c.args.self.w c.requires.sizes.1 c.requires.sizes.0, c.requires.sizes.0, c.requires.sizes.3)

pub both_numbers-requires : goal.both_numbers-requires
both_numbers-requires c =
    (omega (arith, c.requires.sizes.2), omega (arith, c.requires.sizes.3, c.requires.lent.0), omega (arith, c.requires.sizes.3, c.requires.lent.1))

pub push_known-requires : goal.push_known-requires
push_known-requires c =
    record { sizes = c.requires.sizes; lent = c.requires.lent; numbers = c.both_numbers.ensures c.if-both_numbers.true }

pub returns-then-both_numbers : goal.returns-then-both_numbers
returns-then-both_numbers c = c.push_known.ensures

pub returns : goal.returns
returns c = c.push_tested.ensures
