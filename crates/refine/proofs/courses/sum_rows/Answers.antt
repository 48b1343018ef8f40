use mathlib.Core.Path.{sym, ap, subst, ◌∙◌}
use Prim.Native.Nat.{ℕ, ◌+◌, ◌*◌, ◌≤◌}
use native.Mathlib.Nat.{zero-mul}
use lib.Ieee.{nan, of_bits}
use lib.ListN.{set, length-set}
use lib.Seq.{get_or-set_same}
use Rattle.laws.specs.RowLaws.{row-le}
use Rattle.float.specs.Within.{nought}
use Rattle.tally.specs.Rows.{total_on}
use Rattle.tally.specs.RowTotals.{on_none}
use Rattle.picture.specs.PixelLaws.{few_pixels}
use Rattle.trials.specs.SumLaws.{sums_none, row-sum, sums-more}
use native.Mathlib.Omega.{arith}
use Rattle.refine.proofs.courses.sum_rows.Goals as goal

-- The sums so far are those of the rows passed.

pub loop-y-init : goal.loop-y-init
unfolding of_bits
loop-y-init c =
    let a = c.args in (
      length-set a.sums.now 0 nought ∙ c.requires.4,
      on_none a.target.now a.canvas.now nought 0 ∙ ap (total_on a.target.now a.canvas.now nought 0) {x = 0} {y = 0 * a.w * 3} (omega (arith, zero-mul a.w)),
      sums_none a.w a.target.now a.canvas.now (set a.sums.now 0 nought) (get_or-set_same a.sums.now 0 nought nan (omega (arith, c.requires.4))),
    )

pub overflow_mul-y : goal.overflow_mul-y
overflow_mul-y c = omega (arith, row-le c.args.w c.loop-y-test.true, few_pixels c.args.w c.args.h c.requires.0)

pub overflow_mul-y-in-loop-y : goal.overflow_mul-y-in-loop-y
overflow_mul-y-in-loop-y c = omega (arith, row-le c.args.w c.loop-y-test.true, few_pixels c.args.w c.args.h c.requires.0)

pub overflow_mul-w : goal.overflow_mul-w
overflow_mul-w c = omega (arith, c.requires.0.w_high)

pub total_on-sum-requires : goal.total_on-sum-requires
total_on-sum-requires c =
    let w = c.args.w in
    let y = c.loop-y.y in
    let e : y * w * 3 + w * 3 ≤ c.args.h * w * 3 = omega (arith, row-le w c.loop-y-test.true) in record {
      count_in_bounds = (subst (λ (n : ℕ). y * w * 3 + w * 3 ≤ n) (sym c.requires.1.long) e, subst (λ (n : ℕ). y * w * 3 + w * 3 ≤ n) (sym c.requires.2) e);
      t = (c.requires.1.inside, c.requires.3);
    }

pub overflow_add-sums : goal.overflow_add-sums
overflow_add-sums c = omega (arith, c.loop-y-test.true, c.requires.0.h_high)

pub offset_bounds-sums-y : goal.offset_bounds-sums-y
offset_bounds-sums-y c = omega (arith, c.loop-y-test.true, c.requires.0.h_high)

pub bounds-sums-y : goal.bounds-sums-y
bounds-sums-y c = omega (arith, c.loop-y-test.true, c.requires.0.h_high)

pub loop-y-preserved : goal.loop-y-preserved
loop-y-preserved c =
    let l = c.loop-y in
    let a = c.args in
    let v = row-sum a.w a.target.now a.canvas.now l.y l.sum c.total_on-sum.result l.invariant.1 c.total_on-sum.ensures in (
      length-set l.sums (l.y + 1) c.total_on-sum.result ∙ l.invariant.0,
      v,
      sums-more a.w a.target.now a.canvas.now l.sums l.y c.total_on-sum.result (omega (arith, c.loop-y-test.true, l.invariant.0, c.requires.0.h_high)) v l.invariant.2,
    )

pub returns : goal.returns
returns c = let l = c.loop-y in (l.invariant.0, λ y k. l.invariant.2 y (omega (arith, k, c.loop-y-test.false)))
