use mathlib.Core.Path.{ap, ◌∙◌}
use Rattle.capi.specs.declared.SillbadgerAnswer.{SillbadgerAnswer}
use Rattle.refusal.specs.Outcomes.{number}
use Rattle.capi.specs.Answers.{refused_by, with_total, total_told}
use Rattle.capi.specs.SliceLaws.{tells_value, tells_refusal}
use Rattle.capi.proofs.pictures.sillbadger_total.Goals as goal

-- The total, or the refusal's number.

pub returns-in-Ok : goal.returns-in-Ok
returns-in-Ok c =
    let v = c.in-Ok.sum in
    ap (λ (a : SillbadgerAnswer). with_total a v) c.refused-a.ensures
    ∙ tells_value _ _ _ total_told v (rw c.in-Ok.is at c.sse_total.ensures)

pub returns-in-Err : goal.returns-in-Err
returns-in-Err c =
    c.refused.ensures ∙ ap refused_by c.number.ensures ∙ tells_refusal _ _ _ (number c.in-Err.e) _ (rw c.in-Err.is at c.sse_total.ensures)
