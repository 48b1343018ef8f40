use mathlib.Core.Path.{refl, sym, ◌∙◌}
use lib.Ieee.{of_bits}
use lib.ListN.{take}
use Rattle.laws.specs.Bools.{true_is, and_left, and_right}
use Rattle.laws.specs.Every.{every}
use Rattle.float.specs.Within.{all_within}
use Rattle.tally.specs.TallyLaws.{total-none, total-all, total_beyond, total-done, part_bad, part-all}
use native.Mathlib.Omega.{arith}
use Rattle.tally.proofs.totals.total_within.Goals as goal

-- The sum so far is that of the parts passed, and they were within 0..1.

pub loop-i-init : goal.loop-i-init
unfolding of_bits every
loop-i-init c =
    (omega arith, refl, c.requires, total-none c.args.target.now c.args.canvas.now, tt, tt)

pub both_within-requires : goal.both_within-requires
both_within-requires c =
    let i = c.loop-i.invariant in
    let e = c.part_end-e.ensures in
    record { from_le_to = (omega (arith, e.0), omega (arith, e.1), omega (arith, e.1)); t = (i.4, i.5) }

pub returns-then-not-both_within : goal.returns-then-not-both_within
returns-then-not-both_within c =
    let g = c.args in
    let t = g.target.now in
    let k = g.canvas.now in
    let bad = part_bad t k c.part_end-e.result (sym c.both_within.ensures ∙ c.if-not-both_within.true) in
    total_beyond t k bad

pub add_squares-sum-requires : goal.add_squares-sum-requires
add_squares-sum-requires c =
    let g = c.args in
    let r = c.part_end-e.result in
    let e = c.part_end-e.ensures in
    let i = c.loop-i.invariant in
    let both = sym c.both_within.ensures ∙ c.if-not-both_within.false in
    let t = all_within (take r g.target.now) in
    let k = all_within (take r g.canvas.now) in
    record { from_le_to = (omega (arith, e.0), omega (arith, e.1), omega (arith, e.1)); t = (true_is t (and_left t k both), true_is k (and_right t k both)); before_value = i.3 }

pub loop-i-smaller : goal.loop-i-smaller
loop-i-smaller c = let e = c.part_end-e.ensures in omega (arith, e.0, e.1)

pub loop-i-preserved : goal.loop-i-preserved
loop-i-preserved c =
    let g = c.args in
    let r = c.part_end-e.result in
    let e = c.part_end-e.ensures in
    let i = c.loop-i.invariant in
    let both = sym c.both_within.ensures ∙ c.if-not-both_within.false in
    let t = all_within (take r g.target.now) in
    let k = all_within (take r g.canvas.now) in
    (omega (arith, e.1), i.1, i.2, c.add_squares-sum.ensures, true_is t (and_left t k both), true_is k (and_right t k both))

pub returns : goal.returns
returns c =
    let l = c.loop-i in
    let g = c.args in
    let t = g.target.now in
    let k = g.canvas.now in
    total-done t k l.sum (total-all t k l.i l.sum (omega arith) l.invariant.3) (part-all t k l.i (omega arith) (omega arith) l.invariant.4 l.invariant.5)
