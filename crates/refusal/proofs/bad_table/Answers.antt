use mathlib.Core.Path.{refl}
use Prim.Native.Nat.{◌+◌, ◌*◌, ◌≤◌}
use native.Mathlib.Nat.{mul-le-mul}
use Rattle.refusal.specs.Lengths.{bad_table}
use native.Mathlib.Omega.{arith}
use Rattle.refusal.proofs.bad_table.Goals as goal
use Rattle.refusal.proofs.bad_table.Goals.{Start}

-- `refusal::bad_table`: 256 times 257 times a constant fits.

-- h · w at most
product : (c : Start) → c.args.h * (c.args.w + 1) ≤ 256 * 257
product c =
    let v : c.args.w + 1 ≤ 257 = omega arith in
    mul-le-mul c.requires.1 v

pub overflow_mul-result : goal.overflow_mul-result
overflow_mul-result c = omega (arith, product (goal.at.overflow_mul-result c).Start)

pub overflow_mul-result-2 : goal.overflow_mul-result-2
overflow_mul-result-2 c = omega (arith, product (goal.at.overflow_mul-result-2 c).Start)

pub returns : goal.returns
unfolding bad_table
returns c = refl
