use mathlib.Core.Path.{sym, ◌∙◌}
use lib.ListN.{length}
use Rattle.refusal.specs.Outcomes.{number, outcome, Refused}
use Rattle.refusal.specs.OutcomeLaws.{number-positive}
use Rattle.refusal.specs.RefusalLaws.{sized}
use Rattle.gather.specs.Gathered.{span_sums}
use Rattle.std.proofs.Common.{rules}
use Rattle.std.specs.Prelude.{◌≡◌}
use Rattle.grade.specs.AnsweredLaws.{answered-refused, answered-done}
use Rattle.score.specs.Scoring.{span_sums_refusal}
use Rattle.score.specs.CallLaws.{span_sums-passed, table-length}
use Rattle.score.proofs.calls.tested_span_sums.Goals as goal

-- `score::calls::tested_span_sums` meets its contract: the refusal, or the sums.

pub returns-in_err-span_sums_tested : goal.returns-in_err-span_sums_tested
returns-in_err-span_sums_tested c =
    let a = c.args in
    let k : outcome c.from_residual.result ≡ Refused (number c.in_err-span_sums_tested.field-0.0) = search rules in
    k ∙ answered-refused (span_sums_refusal a.kind a.w a.h a.table.now) _ (span_sums a.kind a.w a.h a.table.now)
    c.in_err-span_sums_tested.ensures (number-positive c.in_err-span_sums_tested.field-0.0)

pub span_sums-requires : goal.span_sums-requires
span_sums-requires c =
    let a = c.args in
    let k = span_sums-passed a.kind a.w a.h a.table.now (sym c.in_ok-span_sums_tested.ensures) in
    record { sizes = sized a.w a.h k.0; places = k.2; lent = table-length a.w a.h (length a.table.now) k.1 }

pub returns : goal.returns
returns c =
    let a = c.args in
    answered-done (span_sums_refusal a.kind a.w a.h a.table.now) (span_sums a.kind a.w a.h a.table.now) c.span_sums.result
    (sym c.in_ok-span_sums_tested.ensures) c.span_sums.ensures
