use mathlib.Core.Path.{refl}
use Rattle.std.proofs.Common.{◌≡◌, rules}
use Rattle.refusal.specs.Outcomes.{number}
use Rattle.frame.specs.declared.Answer.TheVariants.{Refused}
use Rattle.session.specs.Held.{stepped, stepped_by}
use Rattle.session.specs.SessionLaws.{sides_held, result_as, score-number, shape_refused, score_done}
use Rattle.session.proofs.step_score.Goals as goal

-- `session::step_score` meets its contract: the table held is that of the pictures.

pub weighed-requires : goal.weighed-requires
weighed-requires c = let h = c.requires in (sides_held h, h.table-room)

pub returns : goal.returns
returns c =
    score_done c.args.kind c.args.opacity c.requires c.of_bits32.ensures c.in_ok-score.ensures refl c.values.ensures

pub returns-in_err-score : goal.returns-in_err-score
returns-in_err-score c =
    let a = c.of_bits32.ensures in
    let k : stepped_by c.args.s c.from_residual.result ≡ stepped c.args.s (Refused (number c.in_err-score.field-0.0)) = search rules in
    result_as k (shape_refused c.args.kind c.args.opacity c.requires a (score-number c.args.kind c.args.opacity c.requires a) c.in_err-score.ensures refl)
