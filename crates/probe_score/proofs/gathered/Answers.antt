use mathlib.Core.Path.{sym, ap, ◌∙◌}
use mathlib.Core.Path.{ap₂}
use Rattle.refusal.specs.Outcomes.{outcome}
use Rattle.probe_score.specs.Probes.{probed, gathered_of}
use Rattle.probe_score.proofs.gathered.Goals as goal

-- By cases on the answer.

pub returns-in-Ok : goal.returns-in-Ok
returns-in-Ok c = c.probed.ensures ∙ sym (ap (λ r. gathered_of (outcome r)) c.in-Ok.is)

pub returns-in-Err : goal.returns-in-Err
returns-in-Err c = c.probed-in-Err.ensures ∙ ap₂ probed c.new.ensures c.number.ensures ∙ sym (ap (λ r. gathered_of (outcome r)) c.in-Err.is)
