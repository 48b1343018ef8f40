use Rattle.std.proofs.Common.{get_or, refl, arith}
use lib.Ieee.{nan, eq}
use Rattle.float.specs.Numbers.{itself_number}
use Rattle.laws.specs.Every.{every}
use Rattle.laws.specs.EveryLaws.{every-step, every-end}
use Rattle.float.specs.Within.{number}
use Rattle.float.proofs.all_numbers.Goals as goal

-- The loop carries the test of the elements passed.

pub loop-x-init : goal.loop-x-init
unfolding every
loop-x-init c = refl

pub loop-x-preserved : goal.loop-x-preserved
loop-x-preserved c =
    let x = get_or c.args.xs.now c.loop-x.x-index nan in
    every-step number c.args.xs.now c.loop-x.x-index nan c.loop-x.ok (eq x x) (omega arith) c.loop-x.invariant (itself_number x)

pub returns : goal.returns
returns c = every-end number c.args.xs.now c.loop-x.x-index c.loop-x.ok (omega arith) c.loop-x.invariant
