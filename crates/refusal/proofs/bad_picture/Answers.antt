use mathlib.Core.Path.{refl}
use Prim.Native.Nat.{◌*◌, ◌≤◌}
use native.Mathlib.Nat.{mul-le-mul}
use Rattle.refusal.specs.Lengths.{bad_picture}
use native.Mathlib.Omega.{arith}
use Rattle.refusal.proofs.bad_picture.Goals as goal
use Rattle.refusal.proofs.bad_picture.Goals.{Start}

-- `refusal::bad_picture`: 256 times 256 times a constant fits.

-- h · w at most
product : (c : Start) → c.args.h * c.args.w ≤ 256 * 256
product c =
    let v : c.args.w ≤ 256 = omega arith in
    mul-le-mul c.requires.1 v

pub overflow_mul-result : goal.overflow_mul-result
overflow_mul-result c = omega (arith, product (goal.at.overflow_mul-result c).Start)

pub overflow_mul-result-2 : goal.overflow_mul-result-2
overflow_mul-result-2 c = omega (arith, product (goal.at.overflow_mul-result-2 c).Start)

pub returns : goal.returns
unfolding bad_picture
returns c = refl
