use mathlib.Core.Path.{sym, ◌∙◌}
use lib.ListN.{length}
use Rattle.refusal.specs.Outcomes.{number, outcome, Refused}
use Rattle.refusal.specs.OutcomeLaws.{number-positive}
use Rattle.refusal.specs.RefusalLaws.{sized}
use Rattle.gather.specs.Gathered.{point_sums}
use Rattle.std.proofs.Common.{rules}
use Rattle.std.specs.Prelude.{◌≡◌}
use Rattle.grade.specs.AnsweredLaws.{answered-refused, answered-done}
use Rattle.score.specs.Scoring.{point_sums_refusal}
use Rattle.score.specs.CallLaws.{point_sums-passed, picture_lengths}
use Rattle.score.proofs.calls.tested_point_sums.Goals as goal

-- `score::calls::tested_point_sums` meets its contract: the refusal, or the sums.

pub returns-in_err-point_sums_tested : goal.returns-in_err-point_sums_tested
returns-in_err-point_sums_tested c =
    let a = c.args in
    let k : outcome c.from_residual.result ≡ Refused (number c.in_err-point_sums_tested.field-0.0) = search rules in
    k ∙ answered-refused (point_sums_refusal a.kind a.w a.h a.target.now a.canvas.now) _ (point_sums a.kind a.w a.h a.target.now a.canvas.now)
    c.in_err-point_sums_tested.ensures (number-positive c.in_err-point_sums_tested.field-0.0)

pub point_sums-requires : goal.point_sums-requires
point_sums-requires c =
    let a = c.args in
    let k = point_sums-passed a.kind a.w a.h a.target.now a.canvas.now (sym c.in_ok-point_sums_tested.ensures) in
    record { sizes = sized a.w a.h k.0; places = k.2; lent = picture_lengths a.w a.h (length a.target.now) (length a.canvas.now) k.1 }

pub returns : goal.returns
returns c =
    let a = c.args in
    answered-done (point_sums_refusal a.kind a.w a.h a.target.now a.canvas.now) (point_sums a.kind a.w a.h a.target.now a.canvas.now) c.point_sums.result
    (sym c.in_ok-point_sums_tested.ensures) c.point_sums.ensures
