use Prim.Native.Nat.{ℕ, ◌*◌, ◌≤◌}
use native.Mathlib.Nat.{mul-le-mul, mul-le-mul_right}
use native.Mathlib.Omega.{arith}
use Rattle.table.proofs.rows_numbers.Goals as goal

-- `rows_numbers`: the rows' numbers lie within both pictures.

-- numbers before a row of the pictures
few : (y w : ℕ) → y ≤ 256 → w ≤ 256 → y * (w * 3) ≤ 196608
few y w p q = let r : w * 3 ≤ 768 = omega arith in mul-le-mul p r

pub overflow_mul-lo : goal.overflow_mul-lo
overflow_mul-lo c = omega (arith, few c.args.lo c.args.w (omega arith) c.requires.0)

pub overflow_mul-hi : goal.overflow_mul-hi
overflow_mul-hi c = omega (arith, few c.args.hi c.args.w (omega arith) c.requires.0)

pub all_numbers-requires : goal.all_numbers-requires
all_numbers-requires c = (mul-le-mul_right (c.args.w * 3) c.requires.1, c.requires.3, c.requires.4)
