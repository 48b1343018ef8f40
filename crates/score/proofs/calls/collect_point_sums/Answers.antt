use mathlib.Core.Path.{◌∙◌}
use native.Mathlib.Omega.{arith}
use Rattle.std.proofs.Common.{rules}
use Rattle.std.specs.Prelude.{◌≡◌}
use Rattle.refusal.specs.Outcomes.{number, outcome, Refused}
use Rattle.score.specs.CallLaws.{usual_rows, point_sums-nothing, point_sums-told}
use Rattle.score.specs.AskLaws.{PointsAsked, points_asked}
use Rattle.gather.specs.StampSumLaws.{stamp_is_points}
use Rattle.score.proofs.calls.collect_point_sums.Goals as goal
use Rattle.score.proofs.calls.collect_point_sums.Goals.{Else-bottom-top}

-- `score::calls::collect_point_sums` meets its contract: as for spans.

pub reach_rows-rows-requires : goal.reach_rows-rows-requires
reach_rows-rows-requires c =
    let a = c.args in
    let k = usual_rows _ _ _ a.w a.h (c.usual_pictures.ensures c.if-usual_pictures.true).0 in
    record { sizes = k.0; places = k.1 }

pub returns-then-bottom-top : goal.returns-then-bottom-top
returns-then-bottom-top c =
    let a = c.args in
    point_sums-nothing _ a.w a.h a.target.now a.canvas.now (c.usual_pictures.ensures c.if-usual_pictures.true)
    c.reach_rows-rows.result c.reach_rows-rows.ensures c.if-bottom-top.true c.new.result c.new.ensures

-- what is known where some row is reached
module _ (c : Else-bottom-top) where
  asked : let a = c.args in PointsAsked a.kind a.w a.h a.target.now a.canvas.now c.reach_rows-rows.result
  asked =
      let a = c.args in
      let r = c.reach_rows-rows in
      points_asked _ a.w a.h a.target.now a.canvas.now (c.usual_pictures.ensures c.if-usual_pictures.true) r.result r.ensures (omega (arith, c.if-bottom-top.false))

pub first_column-left-requires : goal.first_column-left-requires
first_column-left-requires c = let k = (asked (goal.at.first_column-left-requires c).Else-bottom-top).column in record { columns = k.0; places = k.1 }

pub overflow_sub-bottom : goal.overflow_sub-bottom
overflow_sub-bottom c = omega (arith, c.if-bottom-top.false)

pub stamp_of-requires : goal.stamp_of-requires
stamp_of-requires c = let k = (asked (goal.at.stamp_of-requires c).Else-bottom-top).stamp _ c.if-bottom-top-2.true in record { sizes = k.0; places = k.1.0; window = k.1.1 }

pub push_stamp-requires : goal.push_stamp-requires
push_stamp-requires c =
    let k = (asked (goal.at.push_stamp-requires c).Else-bottom-top).added _ _ c.if-bottom-top-2.true (rw c.in-Some.is at c.stamp_of.ensures) in
    record { window = k.0; lent = k.1.0; pixels = k.1.1 }

pub returns-in-Some : goal.returns-in-Some
returns-in-Some d =
    let a = d.args in
    point_sums-told _ a.w a.h a.target.now a.canvas.now (d.usual_pictures.ensures d.if-usual_pictures.true)
    d.unpaired-few.result (d.unpaired-few.ensures ∙ d.push_stamp.ensures ∙ stamp_is_points _ _ _ a.w a.h _ (rw d.in-Some.is at d.stamp_of.ensures) a.target.now a.canvas.now)

pub reached_sums-sums-requires : goal.reached_sums-sums-requires
reached_sums-sums-requires c =
    let k = (asked (goal.at.reached_sums-sums-requires c).Else-bottom-top).reached in
    record { sizes = k.0; places = k.1.0; lent = k.1.1.0; rows = k.1.1.1 }

pub returns-then-usual_pictures : goal.returns-then-usual_pictures
returns-then-usual_pictures d =
    let a = d.args in
    point_sums-told _ a.w a.h a.target.now a.canvas.now (d.usual_pictures.ensures d.if-usual_pictures.true)
    d.reached_sums-sums.result d.reached_sums-sums.ensures

pub returns-in_err-tested : goal.returns-in_err-tested
returns-in_err-tested c =
    let k : outcome c.from_residual.result ≡ Refused (number c.in_err-tested.field-0.0) = search rules in
    k ∙ c.in_err-tested.ensures

pub returns : goal.returns
returns c = c.in_ok-tested.ensures
