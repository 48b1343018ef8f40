use mathlib.Core.Path.{◌∙◌}
use native.Mathlib.Omega.{arith}
use Rattle.refusal.specs.Outcomes.{outcome}
use Rattle.score.specs.CallLaws.{usual_rows, point_nothing, point_told}
use Rattle.score.specs.AskLaws.{PointsAsked, points_asked}
use Rattle.gather.specs.StampSumLaws.{stamp_is_points}
use Rattle.score.proofs.calls.point_score.Goals as goal
use Rattle.score.proofs.calls.point_score.Goals.{Else-bottom-top}

-- `score::calls::point_score` meets its contract: as for spans.

pub reach_rows-rows-requires : goal.reach_rows-rows-requires
reach_rows-rows-requires c =
    let a = c.args in
    let k = usual_rows _ _ _ a.w a.h (c.usual_pictures.ensures c.if-usual_pictures.true).0 in
    record { sizes = k.0; places = k.1 }

pub returns-then-bottom-top : goal.returns-then-bottom-top
returns-then-bottom-top c =
    let a = c.args in
    point_nothing _ a.request c.asked-opacity.result a.levels.now a.w a.h c.asked-opacity.ensures a.target.now a.canvas.now (c.usual_pictures.ensures c.if-usual_pictures.true)
    c.reach_rows-rows.result c.reach_rows-rows.ensures c.if-bottom-top.true c.no_score.result c.no_score.ensures

-- what is known where some row is reached
module _ (c : Else-bottom-top) where
  asked : let a = c.args in PointsAsked a.kind a.w a.h a.target.now a.canvas.now c.reach_rows-rows.result
  asked =
      let a = c.args in
      let r = c.reach_rows-rows in
      points_asked _ a.w a.h a.target.now a.canvas.now (c.usual_pictures.ensures c.if-usual_pictures.true) r.result r.ensures (omega (arith, c.if-bottom-top.false))

pub first_column-left-requires : goal.first_column-left-requires
first_column-left-requires c = let k = (asked (goal.at.first_column-left-requires c).Else-bottom-top).column in record { columns = k.0; places = k.1 }

pub overflow_sub-bottom : goal.overflow_sub-bottom
overflow_sub-bottom c = omega (arith, c.if-bottom-top.false)

pub stamp_of-requires : goal.stamp_of-requires
stamp_of-requires c = let k = (asked (goal.at.stamp_of-requires c).Else-bottom-top).stamp _ c.if-bottom-top-2.true in record { sizes = k.0; places = k.1.0; window = k.1.1 }

pub push_stamp-requires : goal.push_stamp-requires
push_stamp-requires c =
    let k = (asked (goal.at.push_stamp-requires c).Else-bottom-top).added _ _ c.if-bottom-top-2.true (rw c.in-Some.is at c.stamp_of.ensures) in
    record { window = k.0; lent = k.1.0; pixels = k.1.1 }

pub returns-in-Some : goal.returns-in-Some
returns-in-Some c =
    let a = c.args in
    point_told _ a.request c.asked-opacity.result a.levels.now a.w a.h c.asked-opacity.ensures a.target.now a.canvas.now (c.usual_pictures.ensures c.if-usual_pictures.true)
    c.unpaired-few.result c.finalize.result (outcome c.done.result) (c.unpaired-few.ensures ∙ c.push_stamp.ensures ∙ stamp_is_points _ _ _ a.w a.h _ (rw c.in-Some.is at c.stamp_of.ensures) a.target.now a.canvas.now) c.finalize.ensures c.done.ensures

pub reached_sums-sums-requires : goal.reached_sums-sums-requires
reached_sums-sums-requires c =
    let k = (asked (goal.at.reached_sums-sums-requires c).Else-bottom-top).reached in
    record { sizes = k.0; places = k.1.0; lent = k.1.1.0; rows = k.1.1.1 }

pub returns-then-usual_pictures : goal.returns-then-usual_pictures
returns-then-usual_pictures c =
    let a = c.args in
    point_told _ a.request c.asked-opacity.result a.levels.now a.w a.h c.asked-opacity.ensures a.target.now a.canvas.now (c.usual_pictures.ensures c.if-usual_pictures.true)
    c.reached_sums-sums.result c.finalize-then-usual_pictures.result (outcome c.done-then-usual_pictures.result) c.reached_sums-sums.ensures c.finalize-then-usual_pictures.ensures c.done-then-usual_pictures.ensures

pub returns : goal.returns
returns c = c.tested_point_score.ensures
