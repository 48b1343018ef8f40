use Rattle.std.proofs.Common.{arith, get_or}
use lib.Ieee.{nan}
use Rattle.laws.specs.Every.{every}
use Rattle.laws.specs.EveryLaws.{every-each}
use Rattle.float.specs.Within.{number}
use Rattle.float.specs.MarksLaws.{one_more, upto_within}
use Rattle.float.proofs.numbers_within.Goals as goal

-- While no pattern is above that of 1, the elements passed are within 0..1.

pub loop-x-init : goal.loop-x-init
unfolding every
loop-x-init c = λ h. tt

pub float_to_bits-x : goal.float_to_bits-x
float_to_bits-x c = every-each number c.args.xs.now c.loop-x.x-index nan c.requires (omega arith)

pub loop-x-preserved : goal.loop-x-preserved
loop-x-preserved c =
    let x = get_or c.args.xs.now c.loop-x.x-index nan in
    λ h. one_more c.args.xs.now c.loop-x.x-index (omega arith) (c.loop-x.invariant (omega (arith, c.max-most.ensures))) (upto_within x (c.type_inv.xs c.loop-x.x-index) (omega (arith, c.max-most.ensures)))
