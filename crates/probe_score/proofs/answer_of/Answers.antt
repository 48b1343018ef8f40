use mathlib.Core.Path.{sym, ap, ◌∙◌}
use lib.Ieee.{of_bits}
use Rattle.refusal.specs.Outcomes.{outcome, Refused}
use Rattle.probe_score.specs.Probes.{answer_of}
use Rattle.probe_score.proofs.answer_of.Goals as goal

-- By cases on the answer.

pub returns-in-Ok : goal.returns-in-Ok
unfolding of_bits
returns-in-Ok c = sym (ap (λ r. answer_of (outcome r)) c.in-Ok.is)

pub returns-in-Err : goal.returns-in-Err
unfolding of_bits
returns-in-Err c = ap (λ n. answer_of (Refused n)) c.number.ensures ∙ sym (ap (λ r. answer_of (outcome r)) c.in-Err.is)
