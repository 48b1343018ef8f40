use mathlib.Core.Path.{refl}
use lib.Ieee.{of_bits}
use Rattle.tally.specs.TallyLaws.{total-none, total-more, total-all}
use native.Mathlib.Omega.{arith}
use Rattle.picture.proofs.total_any.Goals as goal

-- The sum so far is that of the numbers passed.

pub loop-i-init : goal.loop-i-init
unfolding of_bits
loop-i-init c =
    (omega arith, refl, c.requires, total-none c.args.target.now c.args.canvas.now)

pub loop-i-preserved : goal.loop-i-preserved
loop-i-preserved c =
    let a = c.args in
    (omega arith, refl, c.loop-i.invariant.2, total-more a.target.now a.canvas.now c.loop-i.i c.loop-i.sum c.squared_any-sum.result c.loop-i.invariant.3 c.squared_any-sum.ensures)

pub returns : goal.returns
returns c =
    let l = c.loop-i in
    let a = c.args in
    total-all a.target.now a.canvas.now l.i l.sum (omega arith) l.invariant.3
