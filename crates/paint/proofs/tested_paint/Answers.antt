use mathlib.Core.Path.{sym, ◌∙◌}
use Rattle.std.proofs.Common.{rules}
use Rattle.std.specs.Prelude.{◌≡◌}
use Rattle.refusal.specs.Outcomes.{number, number_of}
use Rattle.refusal.specs.OutcomeLaws.{number-positive}
use Rattle.paint.specs.PaintLaws.{passed, paint-refused, paint_done, lengths_none}
use Rattle.paint.proofs.tested_paint.Goals as goal

-- Refused: nothing was touched. Else the tests give what the work asks.

pub returns-in_err-tested : goal.returns-in_err-tested
returns-in_err-tested c =
    let a = c.args in
    let k : number_of c.from_residual.result ≡ number c.in_err-tested.field-0.0 = search rules in
    paint-refused a.kind a.opacity a.colour.red a.colour.green a.colour.blue a.w a.h a.target.now a.canvas.now a.table.now _
    (k ∙ c.in_err-tested.ensures) (λ z. number-positive c.in_err-tested.field-0.0 (sym k ∙ z))

pub paint_both-requires : goal.paint_both-requires
paint_both-requires c =
    let e = sym c.in_ok-tested.ensures in
    record { sizes = lengths_none _ _ _ _ _ _ _ _ _ _ e; places = (passed _ _ _ _ _ _ _ _ _ _ e).places }

pub returns : goal.returns
returns c =
    let a = c.args in
    paint_done a.kind a.opacity a.colour.red a.colour.green a.colour.blue a.w a.h a.target.now a.canvas.now a.table.now _ _
    (sym c.in_ok-tested.ensures)
    c.paint_both.ensures
