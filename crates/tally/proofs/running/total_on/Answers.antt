use mathlib.Core.Path.{◌≡◌, ap, ◌∙◌}
use Prim.Native.Nat.{◌+◌}
use Rattle.tally.specs.TallyLaws.{within-at}
use Rattle.tally.specs.Rows.{total_on}
use Rattle.tally.specs.RowTotals.{on_none, on_more}
use native.Mathlib.Omega.{arith}
use Rattle.tally.proofs.running.total_on.Goals as goal

-- The sum so far is that of the numbers passed.

pub loop-i-init : goal.loop-i-init
loop-i-init c =
    let a = c.args in
    (omega arith, on_none a.target.now a.canvas.now a.sum a.from)

pub squared-total-requires : goal.squared-total-requires
squared-total-requires c =
    let i = c.loop-i.i in
    (within-at c.args.target.now (c.args.from + i) c.requires.t.0 (omega arith), within-at c.args.canvas.now (c.args.from + i) c.requires.t.1 (omega arith))

pub loop-i-preserved : goal.loop-i-preserved
loop-i-preserved c =
    let a = c.args in
    (omega arith, on_more a.target.now a.canvas.now a.sum a.from c.loop-i.i c.loop-i.total c.squared-total.result c.loop-i.invariant.1 c.squared-total.ensures)

pub returns : goal.returns
returns c =
    let l = c.loop-i in
    let a = c.args in
    let e : l.i ≡ a.count = omega arith in
    l.invariant.1 ∙ ap (total_on a.target.now a.canvas.now a.sum a.from) e
