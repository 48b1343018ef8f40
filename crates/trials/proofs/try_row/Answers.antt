use mathlib.Core.Path.{sym, subst, ◌∙◌}
use Prim.Native.Nat.{ℕ, ◌+◌, ◌*◌, ◌≤◌, ◌<◌}
use lib.Seq.{slice}
use Rattle.laws.specs.RowLaws.{row-le}
use Rattle.tally.specs.RowTotals.{on_same}
use Rattle.traces.specs.DrawingLaws.{painted_on_same}
use Rattle.trials.specs.CopyLaws.{row_ends, copied_within}
use Rattle.picture.specs.PixelLaws.{few_pixels}
use Rattle.traces.specs.Refinement.{painted_on}
use Rattle.traces.specs.Scenes.{shape_painted}
use native.Mathlib.Omega.{arith}
use Rattle.trials.proofs.try_row.Goals as goal

-- What the copy, the paint and the sum ensure, one after the other.

pub overflow_mul-start : goal.overflow_mul-start
overflow_mul-start c = omega (arith, row-le c.args.w c.requires.tabled.1, few_pixels c.args.w c.args.h c.requires.tabled.0.traced.sized)

pub overflow_mul-start-2 : goal.overflow_mul-start-2
overflow_mul-start-2 c = omega (arith, row-le c.args.w c.requires.tabled.1, few_pixels c.args.w c.args.h c.requires.tabled.0.traced.sized)

pub overflow_mul-n : goal.overflow_mul-n
overflow_mul-n c = omega (arith, c.requires.tabled.0.traced.sized.w_high)

pub overflow_add-start : goal.overflow_add-start
overflow_add-start c = omega (arith, row-le c.args.w c.requires.tabled.1, few_pixels c.args.w c.args.h c.requires.tabled.0.traced.sized)

pub copy-requires : goal.copy-requires
copy-requires c = (c.requires.targeted.1 ∙ sym c.requires.targeted.2, omega arith, omega (arith, row-le c.args.w c.requires.tabled.1, c.requires.targeted.2))

pub paint_row-requires : goal.paint_row-requires
paint_row-requires c =
    let a = c.args in
    let k = c.copy in
    let long = k.auto.to ∙ c.requires.targeted.2 in
    (c.requires.tabled.0, c.requires.tabled.1, c.requires.tabled.2, long, copied_within a.first.now a.second.now k.new.to (a.y * a.w * 3) (a.y * a.w * 3 + a.w * 3) k.auto.to (long ∙ sym c.requires.targeted.1) c.requires.targeted.3 c.requires.targeted.4 k.ensures.0 k.ensures.1 k.ensures.2)

pub total_on-requires : goal.total_on-requires
total_on-requires c =
    let w = c.args.w in
    let y = c.args.y in
    let e : y * w * 3 + w * 3 ≤ c.args.h * w * 3 = omega (arith, row-le w c.requires.tabled.1) in record { count_in_bounds = (subst (λ (n : ℕ). y * w * 3 + w * 3 ≤ n) (sym c.requires.targeted.0.long) e, subst (λ (n : ℕ). y * w * 3 + w * 3 ≤ n) (sym (c.paint_row.auto.canvas ∙ c.copy.auto.to ∙ c.requires.targeted.2)) e); t = (c.requires.targeted.0.inside, c.paint_row.ensures.0) }

pub returns : goal.returns
returns c =
    let a = c.args in
    let k = c.copy in
    let p = c.paint_row in (
      p.ensures.0,
      λ l t e.
          c.total_on.ensures
          ∙ on_same a.target.now p.new.canvas (painted_on (shape_painted a.w a.h) a.first.now (slice a.from a.to l)) a.sum (a.y * a.w * 3) (a.w * 3)
          (λ i m.
          let below : a.y * a.w * 3 + i < (a.y + 1) * a.w * 3 = omega (arith, row_ends a.w a.y) in
          (p.ensures.1 l t e).row (a.y * a.w * 3 + i) (omega arith) below
          ∙ painted_on_same a.w a.h t.sized.w_low a.y (a.y + 1) (omega (arith, c.requires.tabled.1)) (slice a.from a.to l) k.new.to a.first.now (λ n b o. k.ensures.0 n b (omega (arith, o, row_ends a.w a.y))) (a.y * a.w * 3 + i) (omega arith) below),
    )
