use mathlib.Core.Path.{◌≡◌, refl}
use native.Mathlib.Omega.{arith}
use Rattle.grade.proofs.levels.count_of.Goals as goal

-- `grade::levels::count_of` meets its contract: each arm computes.

pub returns-in-0 : goal.returns-in-0
returns-in-0 c = rw c.in-0.is (refl, omega arith)

pub returns-in-1 : goal.returns-in-1
returns-in-1 c = rw c.in-1.is (refl, omega arith)

pub returns-in-2 : goal.returns-in-2
returns-in-2 c = rw c.in-2.is (refl, omega arith)

pub returns-in-3 : goal.returns-in-3
returns-in-3 c = rw c.in-3.is (refl, omega arith)

pub returns-in-4 : goal.returns-in-4
returns-in-4 c = rw c.in-4.is (refl, omega arith)

pub returns-in-5 : goal.returns-in-5
returns-in-5 c = rw c.in-5.is (refl, omega arith)

pub returns-in_default : goal.returns-in_default
returns-in_default c =
    let e : c.args.bits ≡ 6 = omega arith in
    rw e (refl, omega arith)
