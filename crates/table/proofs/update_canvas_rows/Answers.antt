use mir.Facts.{to_z-of_z}
use mathlib.Core.Path.{sym, ◌∙◌, subst}
use Rattle.std.proofs.Common.{rules}
use Rattle.std.specs.Prelude.{◌≡◌}
use Rattle.refusal.specs.Outcomes.{number, number_of}
use Rattle.refusal.specs.OutcomeLaws.{number-positive}
use Rattle.table.specs.Table.{Updated, update_refusal}
use Rattle.table.specs.FillLaws.{updated}
use Rattle.table.specs.TestLaws.{update_refused, update_done, sizes}
use Rattle.table.proofs.update_canvas_rows.Goals as goal

-- `update_canvas_rows`: the two ends name the rows of the rule (`updated`).

pub returns-in_err-lengths_tested : goal.returns-in_err-lengths_tested
returns-in_err-lengths_tested c =
    let a = c.args in
    let k : number_of c.from_residual.result ≡ number c.in_err-lengths_tested.field-0.0 = search rules in
    update_refused a.target.now a.canvas.now a.w a.h a.table.now a.ymin a.ymax _ (k ∙ c.in_err-lengths_tested.ensures) (λ z. number-positive c.in_err-lengths_tested.field-0.0 (sym k ∙ z))

pub update_rows-requires : goal.update_rows-requires
unfolding update_refusal
update_rows-requires c =
    let a = c.args in
    (sizes a.target.now a.canvas.now a.w a.h a.table.now (sym (c.in_ok-lengths_tested.ensures)), c.first_row-lo.ensures.0, c.end_row-hi.ensures.0)

pub returns : goal.returns
unfolding update_refusal
returns c =
    let a = c.args in
    let e = sym (c.in_ok-lengths_tested.ensures) in
    let hi = c.end_row-hi.ensures in
    let lo = c.first_row-lo.ensures in
    update_done a.target.now a.canvas.now a.w a.h a.table.now a.ymin a.ymax _ e
    (subst (Updated a.w a.h a.target.now a.canvas.now a.ymin a.ymax a.table.now) (sym c.update_rows.ensures)
    (updated a.w a.h a.target.now a.canvas.now a.table.now (sizes a.target.now a.canvas.now a.w a.h a.table.now e).places _ _ lo.0 hi.0 a.ymin a.ymax
    (λ y l. rw (to_z-of_z, c.ranges.ymin) at (lo.1 y l)) (λ y l. rw (to_z-of_z, c.ranges.ymax) at (hi.1 y l))))
