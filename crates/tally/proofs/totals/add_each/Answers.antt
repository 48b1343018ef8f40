use mathlib.Core.Path.{◌≡◌, ap, ◌∙◌}
use Rattle.tally.specs.Tally.{total_to}
use Rattle.tally.specs.TallyLaws.{total-more, within-before}
use native.Mathlib.Omega.{arith}
use Rattle.tally.proofs.totals.add_each.Goals as goal

-- The sum so far is that of the numbers passed.

pub loop-k-init : goal.loop-k-init
loop-k-init c = (omega arith, c.requires.before_value)

pub squared-sum-requires : goal.squared-sum-requires
squared-sum-requires c =
    let k = c.loop-k.k in
    (within-before c.args.target.now c.args.to k c.requires.t.0 (omega arith) (omega arith), within-before c.args.canvas.now c.args.to k c.requires.t.1 (omega arith) (omega arith))

pub loop-k-preserved : goal.loop-k-preserved
loop-k-preserved c =
    let a = c.args in
    (omega arith, total-more a.target.now a.canvas.now c.loop-k.k c.loop-k.sum c.squared-sum.result c.loop-k.invariant.1 c.squared-sum.ensures)

pub returns : goal.returns
returns c =
    let l = c.loop-k in
    let a = c.args in
    let e : l.k ≡ a.to = omega arith in
    l.invariant.1 ∙ ap (total_to a.target.now a.canvas.now) e
