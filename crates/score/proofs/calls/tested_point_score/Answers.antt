use mathlib.Core.Path.{◌≡◌, sym, ◌∙◌, ap}
use mathlib.Core.Bool.{◌||◌}
use lib.ListN.{length}
use Rattle.laws.specs.Bools.{or_left, or_right}
use Rattle.std.proofs.Common.{rules}
use Rattle.refusal.specs.Outcomes.{number, outcome, Refused}
use Rattle.refusal.specs.OutcomeLaws.{number-positive}
use Rattle.refusal.specs.Refusals.{bad_size}
use Rattle.refusal.specs.RefusalLaws.{sized}
use Rattle.refusal.specs.Lengths.{bad_picture}
use Rattle.cover.specs.Cover.{bad_places}
use Rattle.sums.specs.declared.ShapeSums.{ShapeSums}
use Rattle.grade.specs.AlphaSweep.{bad_levels}
use Rattle.gather.specs.Gathered.{point_sums}
use Rattle.score.specs.Scoring.{bad_count, bad_opacity, point_refusal, score_at}
use Rattle.grade.specs.AnsweredLaws.{answered-refused, answered-done}
use Rattle.grade.specs.AlphaSweepLaws.{levels-length}
use Rattle.score.specs.CallLaws.{Passed, point_passed, picture_lengths}
use Rattle.score.proofs.calls.tested_point_score.Goals as goal
use Rattle.score.proofs.calls.tested_point_score.Goals.{In_ok-point_tested}

-- `score::calls::tested_point_score` meets its contract: the refusal, or the score of the sums.

pub returns-in_err-point_tested : goal.returns-in_err-point_tested
returns-in_err-point_tested c =
    let a = c.args in
    let k : outcome c.from_residual.result ≡ Refused (number c.in_err-point_tested.field-0.0) = search rules in
    k ∙ answered-refused (point_refusal a.kind a.request a.levels.now a.w a.h a.target.now a.canvas.now) (number c.in_err-point_tested.field-0.0)
    (score_at (point_sums a.kind a.w a.h a.target.now a.canvas.now) a.request a.levels.now) c.in_err-point_tested.ensures (number-positive c.in_err-point_tested.field-0.0)

-- what a call that is not refused knows
module _ (c : In_ok-point_tested) where
  done : point_refusal c.args.kind c.args.request c.args.levels.now
      c.args.w c.args.h c.args.target.now c.args.canvas.now ≡ 0
  done = sym c.in_ok-point_tested.ensures

  known : Passed (bad_size c.args.w c.args.h)
      (bad_levels c.args.levels.now
      || (bad_picture c.args.w c.args.h (length c.args.target.now)
      || bad_picture c.args.w c.args.h (length c.args.canvas.now)))
      (bad_count c.args.request) (bad_places c.args.kind)
      (bad_opacity c.args.request c.args.levels.now)
  known = let a = c.args in point_passed a.kind a.request a.levels.now a.w a.h a.target.now a.canvas.now done

pub point_sums-sums-requires : goal.point_sums-sums-requires
point_sums-sums-requires c =
    let a = c.args in
    let k = known (goal.at.point_sums-sums-requires c).In_ok-point_tested in
    record { sizes = sized a.w a.h k.size; places = k.place; lent = picture_lengths a.w a.h (length a.target.now) (length a.canvas.now) (or_right (bad_levels a.levels.now) (bad_picture a.w a.h (length a.target.now) || bad_picture a.w a.h (length a.canvas.now)) k.lengths) }

pub score_at-requires : goal.score_at-requires
score_at-requires c =
    let a = c.args in
    let k = known (goal.at.score_at-requires c).In_ok-point_tested in
    (levels-length a.levels.now (or_left (bad_levels a.levels.now) (bad_picture a.w a.h (length a.target.now) || bad_picture a.w a.h (length a.canvas.now)) k.lengths), k.count)

pub returns : goal.returns
returns c =
    let a = c.args in
    answered-done (point_refusal a.kind a.request a.levels.now a.w a.h a.target.now a.canvas.now)
    (score_at (point_sums a.kind a.w a.h a.target.now a.canvas.now) a.request a.levels.now) c.score_at.result (done (goal.at.returns c).In_ok-point_tested)
    (c.score_at.ensures ∙ ap (λ (q : ShapeSums). score_at q a.request a.levels.now) c.point_sums-sums.ensures)
