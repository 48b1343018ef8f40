use mathlib.Core.Path.{sym, ap, ◌∙◌}
use Rattle.capi.specs.declared.SillbadgerAnswer.{SillbadgerAnswer}
use Rattle.capi.specs.Answers.{refused_by, with_score}
use Rattle.refusal.specs.Outcomes.{outcome}
use Rattle.capi.specs.Scores.{scored_told}
use Rattle.capi.proofs.scores.told.Goals as goal

-- A score's numbers, or the refusal's number.

pub returns-in-Ok : goal.returns-in-Ok
returns-in-Ok c =
    let x = c.in-Ok.x in
    ap (λ (a : SillbadgerAnswer). with_score a x.count x.opacity x.change x.red x.green x.blue) c.refused-a.ensures ∙ sym (ap (λ r. scored_told (outcome r)) c.in-Ok.is)

pub returns-in-Err : goal.returns-in-Err
returns-in-Err c = c.refused.ensures ∙ ap refused_by c.number.ensures ∙ sym (ap (λ r. scored_told (outcome r)) c.in-Err.is)
