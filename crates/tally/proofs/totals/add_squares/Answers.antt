use Prim.Native.Nat.{◌+◌, ◌≤◌}
use Rattle.tally.specs.TallyLaws.{within_first}
use native.Mathlib.Omega.{arith}
use Rattle.tally.proofs.totals.add_squares.Goals as goal

-- The sum so far is that of the eights passed.

pub loop-k-init : goal.loop-k-init
loop-k-init c = (c.requires.from_le_to.0, c.requires.before_value)

pub add_each-sum-requires : goal.add_each-sum-requires
add_each-sum-requires c =
    let a = c.args in
    let l = c.loop-k in
    let e : l.k + 8 ≤ a.to = omega arith in
    record { from_le_to = (omega arith, omega arith, omega arith); t = (within_first a.target.now (l.k + 8) a.to e c.requires.t.0, within_first a.canvas.now (l.k + 8) a.to e c.requires.t.1); before_value = l.invariant.1 }

pub loop-k-preserved : goal.loop-k-preserved
loop-k-preserved c = (omega arith, c.add_each-sum.ensures)

pub add_each-requires : goal.add_each-requires
add_each-requires c =
    let l = c.loop-k in
    record { from_le_to = (l.invariant.0, c.requires.from_le_to.1, c.requires.from_le_to.2); t = c.requires.t; before_value = l.invariant.1 }

pub returns : goal.returns
returns c = c.add_each.ensures
