use mathlib.Core.Path.{◌≡◌, refl, ap, subst, ◌∙◌}
use Prim.Native.Nat.{ℕ, ◌+◌, ◌*◌}
use lib.ListN.{get_or, length-set}
use mathlib.Core.List.{List}
use lib.Ieee.{Float, nan}
use lib.Seq.{slice}
use Rattle.laws.specs.Bools.{true_is}
use Rattle.float.specs.Within.{nought}
use Rattle.tally.specs.Rows.{total_on}
use Rattle.traces.specs.Refinement.{painted_on}
use Rattle.traces.specs.Scenes.{shape_painted}
use Rattle.trials.specs.Courses.{SummedTo}
use Rattle.trials.specs.SumLaws.{sums-above, row-sum, sums-more, judged_early, judged_all}
use native.Mathlib.Omega.{arith}
use Rattle.trials.proofs.try_rows.Goals as goal

-- The sum so far is that of the trial's picture down to row y; where it is too high, the trial is judged.

pub offset_bounds-sums-top : goal.offset_bounds-sums-top
offset_bounds-sums-top c = omega (arith, c.requires.tabled.2, c.requires.tabled.3, c.requires.tabled.0.traced.sized.h_high)

pub bounds-sums-top : goal.bounds-sums-top
bounds-sums-top c = omega (arith, c.requires.tabled.2, c.requires.tabled.3, c.requires.tabled.0.traced.sized.h_high)

pub loop-y-init : goal.loop-y-init
loop-y-init c =
    let a = c.args in
    let e : a.trial.now ≡ a.sums.now = c.requires.tabled.4 in (
      refl,
      c.requires.targeted.4,
      c.requires.tabled.5,
      λ m q t u apart all.
          let above = sums-above a.w a.h a.target.now (painted_on (shape_painted a.w a.h) a.first.now (slice a.from a.to m)) q a.sums.now c.requires.targeted.0.long a.top a.bottom c.requires.tabled.2 c.requires.tabled.3 apart all in
          (above a.top (omega arith), λ z o. ap (λ (l : List Float). get_or l z nan) e ∙ above z o),
    )

pub offset_bounds-sums-mark : goal.offset_bounds-sums-mark
offset_bounds-sums-mark c = omega (arith, c.max-mark.ensures, c.loop-y-test.true, c.requires.tabled.3, c.requires.tabled.0.traced.sized.h_high)

pub bounds-sums-mark : goal.bounds-sums-mark
bounds-sums-mark c = omega (arith, c.max-mark.ensures, c.loop-y-test.true, c.requires.tabled.3, c.requires.tabled.0.traced.sized.h_high)

pub offset_bounds-sums-h : goal.offset_bounds-sums-h
offset_bounds-sums-h c = omega (arith, c.requires.tabled.0.traced.sized.h_high)

pub bounds-sums-h : goal.bounds-sums-h
bounds-sums-h c = omega (arith, c.requires.tabled.0.traced.sized.h_high)

pub shape_of-second-then-sums-mark : goal.shape_of-second-then-sums-mark
shape_of-second-then-sums-mark c = c.loop-y.invariant.0

pub returns-then-sums-mark : goal.returns-then-sums-mark
returns-then-sums-mark c =
    let a = c.args in
    let l = c.loop-y in
    let below = c.loop-y-test.true in
    let k = c.max-mark in (
      l.invariant.1,
      l.invariant.2,
      λ m q t e apart all.
          judged_early a.w a.h a.target.now (painted_on (shape_painted a.w a.h) a.first.now (slice a.from a.to m)) q a.sums.now c.requires.targeted.0.long a.top a.bottom c.requires.tabled.2 c.requires.tabled.3 apart all l.y k.result l.sum l.trial (l.invariant.3 m q t e apart all).0
          (omega (arith, k.ensures)) (omega (arith, k.ensures)) (omega (arith, k.ensures, below, c.requires.tabled.3)) (true_is _ c.if-sums-mark.true),
    )

pub try_row-sum-requires : goal.try_row-sum-requires
try_row-sum-requires c =
    let l = c.loop-y in
    record { tabled = (c.requires.tabled.0, c.loop-y-test.true, c.requires.tabled.1); targeted = (c.requires.targeted.0, c.requires.targeted.1, l.invariant.0 ∙ c.requires.targeted.2, c.requires.targeted.3, l.invariant.1) }

pub overflow_add-trial : goal.overflow_add-trial
overflow_add-trial c = omega (arith, c.loop-y-test.true, c.requires.tabled.0.traced.sized.h_high)

pub offset_bounds-trial-y : goal.offset_bounds-trial-y
offset_bounds-trial-y c = omega (arith, c.loop-y-test.true, c.requires.tabled.0.traced.sized.h_high)

pub bounds-trial-y : goal.bounds-trial-y
bounds-trial-y c = omega (arith, c.loop-y-test.true, c.requires.tabled.0.traced.sized.h_high)

pub loop-y-preserved : goal.loop-y-preserved
loop-y-preserved c =
    let a = c.args in
    let l = c.loop-y in
    let below = c.loop-y-test.true in
    let t = c.try_row-sum in (
      t.auto.second ∙ l.invariant.0,
      t.ensures.0,
      length-set l.trial (l.y + 1) t.result ∙ l.invariant.2,
      λ m q k e apart all.
          let i = l.invariant.3 m q k e apart all in
          let v = row-sum a.w a.target.now (painted_on (shape_painted a.w a.h) a.first.now (slice a.from a.to m)) l.y l.sum t.result i.0 (t.ensures.1 m k e) in
          (v, sums-more a.w a.target.now (painted_on (shape_painted a.w a.h) a.first.now (slice a.from a.to m)) l.trial l.y t.result (omega (arith, below, l.invariant.2, c.requires.tabled.0.traced.sized.h_high)) v i.1),
    )

pub shape_of-second : goal.shape_of-second
shape_of-second c = c.loop-y.invariant.0

pub returns : goal.returns
returns c =
    let a = c.args in
    let l = c.loop-y in
    let y-end : l.y ≡ a.h = omega arith in (
      l.invariant.1,
      l.invariant.2,
      λ m q k e apart all.
          let i = l.invariant.3 m q k e apart all in
          judged_all a.w a.h a.target.now (painted_on (shape_painted a.w a.h) a.first.now (slice a.from a.to m)) a.sums.now l.trial l.sum c.requires.targeted.0.long (i.0 ∙ ap (λ (n : ℕ). total_on a.target.now (painted_on (shape_painted a.w a.h) a.first.now (slice a.from a.to m)) nought 0 (n * a.w * 3)) y-end)
          (subst (λ (n : ℕ). SummedTo a.w n a.target.now (painted_on (shape_painted a.w a.h) a.first.now (slice a.from a.to m)) l.trial) y-end i.1),
    )
