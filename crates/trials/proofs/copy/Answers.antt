use lib.Ieee.{nan}
use Rattle.trials.specs.CopyLaws.{copied_none, copied_more}
use native.Mathlib.Omega.{arith}
use Rattle.trials.proofs.copy.Goals as goal

-- The numbers from `start` up to i are copied.

pub loop-i-init : goal.loop-i-init
loop-i-init c = copied_none nan c.args.from.now c.args.to.now c.args.start

pub bounds-from-i : goal.bounds-from-i
bounds-from-i c = omega (arith, c.loop-i-test.true, c.requires.0, c.requires.2)

pub bounds-to-i : goal.bounds-to-i
bounds-to-i c = omega (arith, c.loop-i-test.true, c.loop-i.invariant.long, c.requires.2)

pub loop-i-preserved : goal.loop-i-preserved
loop-i-preserved c =
    let l = c.loop-i in
    let a = c.args in
    copied_more nan a.from.now a.to.now a.start l.i l.to l.auto.i (omega (arith, c.loop-i-test.true, c.requires.2)) l.invariant

pub shape_of-to : goal.shape_of-to
shape_of-to c = c.loop-i.invariant.long

pub returns : goal.returns
returns c =
    let l = c.loop-i in
    (λ i a b. l.invariant.done i a (omega (arith, c.loop-i-test.false)), λ i a. l.invariant.before i a, λ i a. l.invariant.after i (omega arith))
