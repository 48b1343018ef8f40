use mathlib.Core.Path.{sym, ap, ◌∙◌, subst}
use Rattle.std.proofs.Math.Bool.{not}
use Rattle.std.proofs.Common.{rules}
use Rattle.std.specs.Prelude.{◌≡◌}
use Rattle.refusal.specs.Outcomes.{number, number_of}
use Rattle.refusal.specs.OutcomeLaws.{number-positive}
use Rattle.table.specs.Table.{Table, update_refusal}
use Rattle.table.specs.FillLaws.{built}
use Rattle.table.specs.TestLaws.{build_refused, bad_target, bad_canvas, build_pixel, build_done, sizes}
use Rattle.table.proofs.build.Goals as goal

-- `build`: the tests leave the sizes and no NaN to the rows' loop, which leaves the table (`built`).

pub returns-in_err-lengths_tested : goal.returns-in_err-lengths_tested
returns-in_err-lengths_tested c =
    let a = c.args in
    let k : number_of c.from_residual.result ≡ number c.in_err-lengths_tested.field-0.0 = search rules in
    build_refused a.target.now a.canvas.now a.w a.h a.table.now _ (k ∙ c.in_err-lengths_tested.ensures) (λ z. number-positive c.in_err-lengths_tested.field-0.0 (sym k ∙ z))

pub returns-then-not-all_within : goal.returns-then-not-all_within
returns-then-not-all_within c =
    let a = c.args in
    build_pixel a.target.now a.canvas.now a.w a.h a.table.now (sym c.in_ok-lengths_tested.ensures) (bad_target a.target.now a.canvas.now a.w a.h a.table.now _ c.all_within.ensures (ap not c.if-not-all_within.true))

pub returns-then-not-all_within-2 : goal.returns-then-not-all_within-2
returns-then-not-all_within-2 c =
    let a = c.args in
    build_pixel a.target.now a.canvas.now a.w a.h a.table.now (sym c.in_ok-lengths_tested.ensures) (bad_canvas a.target.now a.canvas.now a.w a.h a.table.now _ c.all_within-2.ensures (ap not c.if-not-all_within-2.true))

pub build_rows-requires : goal.build_rows-requires
unfolding update_refusal
build_rows-requires c =
    let a = c.args in
    let good = sym c.all_within.ensures ∙ c.if-not-all_within.false in
    let kept = sym c.all_within-2.ensures ∙ c.if-not-all_within-2.false in
    record { sizes = sizes a.target.now a.canvas.now a.w a.h a.table.now (sym c.in_ok-lengths_tested.ensures); tested = (good, kept) }

pub returns : goal.returns
unfolding update_refusal
returns c =
    let a = c.args in
    let e = sym c.in_ok-lengths_tested.ensures in
    build_done a.target.now a.canvas.now a.w a.h a.table.now _ e (sym c.all_within.ensures ∙ c.if-not-all_within.false) (sym c.all_within-2.ensures ∙ c.if-not-all_within-2.false)
    (subst (Table a.w a.h a.target.now a.canvas.now) (sym c.build_rows.ensures) (built a.w a.h a.target.now a.canvas.now a.table.now (sizes a.target.now a.canvas.now a.w a.h a.table.now e).places))
