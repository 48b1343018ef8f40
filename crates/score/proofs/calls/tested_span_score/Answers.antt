use mathlib.Core.Path.{◌≡◌, sym, ◌∙◌, ap}
use mathlib.Core.Bool.{◌||◌}
use lib.ListN.{length}
use Rattle.laws.specs.Bools.{or_left, or_right}
use Rattle.std.proofs.Common.{rules}
use Rattle.refusal.specs.Outcomes.{number, outcome, Refused}
use Rattle.refusal.specs.OutcomeLaws.{number-positive}
use Rattle.refusal.specs.Refusals.{bad_size}
use Rattle.refusal.specs.RefusalLaws.{sized}
use Rattle.refusal.specs.Lengths.{bad_table}
use Rattle.cover.specs.Cover.{bad_places}
use Rattle.sums.specs.declared.ShapeSums.{ShapeSums}
use Rattle.grade.specs.AlphaSweep.{bad_levels}
use Rattle.gather.specs.Gathered.{span_sums}
use Rattle.score.specs.Scoring.{bad_count, bad_opacity, span_refusal, score_at}
use Rattle.grade.specs.AnsweredLaws.{answered-refused, answered-done}
use Rattle.grade.specs.AlphaSweepLaws.{levels-length}
use Rattle.score.specs.CallLaws.{Passed, span_passed, table-length}
use Rattle.score.proofs.calls.tested_span_score.Goals as goal
use Rattle.score.proofs.calls.tested_span_score.Goals.{In_ok-span_tested}

-- `score::calls::tested_span_score` meets its contract: the refusal, or the score of the sums.

pub returns-in_err-span_tested : goal.returns-in_err-span_tested
returns-in_err-span_tested c =
    let a = c.args in
    let k : outcome c.from_residual.result ≡ Refused (number c.in_err-span_tested.field-0.0) = search rules in
    k ∙ answered-refused (span_refusal a.kind a.request a.levels.now a.w a.h a.table.now) (number c.in_err-span_tested.field-0.0)
    (score_at (span_sums a.kind a.w a.h a.table.now) a.request a.levels.now) c.in_err-span_tested.ensures (number-positive c.in_err-span_tested.field-0.0)

-- what a call that is not refused knows
module _ (c : In_ok-span_tested) where
  done : span_refusal c.args.kind c.args.request c.args.levels.now
      c.args.w c.args.h c.args.table.now ≡ 0
  done = sym c.in_ok-span_tested.ensures

  known : Passed (bad_size c.args.w c.args.h)
      (bad_levels c.args.levels.now
      || bad_table c.args.w c.args.h (length c.args.table.now))
      (bad_count c.args.request) (bad_places c.args.kind)
      (bad_opacity c.args.request c.args.levels.now)
  known = let a = c.args in span_passed a.kind a.request a.levels.now a.w a.h a.table.now done

pub span_sums-sums-requires : goal.span_sums-sums-requires
span_sums-sums-requires c =
    let a = c.args in
    let k = known (goal.at.span_sums-sums-requires c).In_ok-span_tested in
    record { sizes = sized a.w a.h k.size; places = k.place; lent = table-length a.w a.h (length a.table.now) (or_right (bad_levels a.levels.now) (bad_table a.w a.h (length a.table.now)) k.lengths) }

pub score_at-requires : goal.score_at-requires
score_at-requires c =
    let a = c.args in
    let k = known (goal.at.score_at-requires c).In_ok-span_tested in
    (levels-length a.levels.now (or_left (bad_levels a.levels.now) (bad_table a.w a.h (length a.table.now)) k.lengths), k.count)

pub returns : goal.returns
returns c =
    let a = c.args in
    answered-done (span_refusal a.kind a.request a.levels.now a.w a.h a.table.now)
    (score_at (span_sums a.kind a.w a.h a.table.now) a.request a.levels.now) c.score_at.result (done (goal.at.returns c).In_ok-span_tested)
    (c.score_at.ensures ∙ ap (λ (q : ShapeSums). score_at q a.request a.levels.now) c.span_sums-sums.ensures)
