use mathlib.Core.Path.{◌∙◌}
use native.Mathlib.Omega.{arith}
use Rattle.refusal.specs.Outcomes.{outcome}
use Rattle.score.specs.CallLaws.{usual_rows, span_nothing, span_told}
use Rattle.score.specs.AskLaws.{SpansAsked, spans_asked}
use Rattle.gather.specs.StampSumLaws.{stamp_is_spans}
use Rattle.score.proofs.calls.span_score.Goals as goal
use Rattle.score.proofs.calls.span_score.Goals.{Else-bottom-top}

-- `score::calls::span_score` meets its contract: a call that passes all tests at once is not refused, and one that does not is tested in order.

pub reach_rows-rows-requires : goal.reach_rows-rows-requires
reach_rows-rows-requires c =
    let a = c.args in
    let k = usual_rows _ _ _ a.w a.h (c.usual_table.ensures c.if-usual_table.true).0 in
    record { sizes = k.0; places = k.1 }

pub returns-then-bottom-top : goal.returns-then-bottom-top
returns-then-bottom-top c =
    let a = c.args in
    span_nothing _ a.request c.asked-opacity.result a.levels.now a.w a.h c.asked-opacity.ensures a.table.now (c.usual_table.ensures c.if-usual_table.true)
    c.reach_rows-rows.result c.reach_rows-rows.ensures c.if-bottom-top.true c.no_score.result c.no_score.ensures

-- what is known where some row is reached
module _ (c : Else-bottom-top) where
  asked : let a = c.args in SpansAsked a.kind a.w a.h a.table.now c.reach_rows-rows.result
  asked =
      let a = c.args in
      let r = c.reach_rows-rows in
      spans_asked _ a.w a.h a.table.now (c.usual_table.ensures c.if-usual_table.true) r.result r.ensures (omega (arith, c.if-bottom-top.false))

pub first_column-left-requires : goal.first_column-left-requires
first_column-left-requires c = let k = (asked (goal.at.first_column-left-requires c).Else-bottom-top).column in record { columns = k.0; places = k.1 }

pub overflow_sub-bottom : goal.overflow_sub-bottom
overflow_sub-bottom c = omega (arith, c.if-bottom-top.false)

pub stamp_of-requires : goal.stamp_of-requires
stamp_of-requires c = let k = (asked (goal.at.stamp_of-requires c).Else-bottom-top).stamp _ c.if-bottom-top-2.true in record { sizes = k.0; places = k.1.0; window = k.1.1 }

pub add_stamp-few-requires : goal.add_stamp-few-requires
add_stamp-few-requires c =
    let k = (asked (goal.at.add_stamp-few-requires c).Else-bottom-top).added _ _ c.if-bottom-top-2.true (rw c.in-Some.is at c.stamp_of.ensures) in
    record { window = k.0; rows = k.1 }

pub returns-in-Some : goal.returns-in-Some
returns-in-Some c =
    let a = c.args in
    span_told _ a.request c.asked-opacity.result a.levels.now a.w a.h c.asked-opacity.ensures a.table.now (c.usual_table.ensures c.if-usual_table.true)
    c.add_stamp-few.result c.finalize.result (outcome c.done.result) (c.add_stamp-few.ensures ∙ stamp_is_spans _ _ _ a.w a.h _ (rw c.in-Some.is at c.stamp_of.ensures) a.table.now) c.finalize.ensures c.done.ensures

pub reached_sums-sums-requires : goal.reached_sums-sums-requires
reached_sums-sums-requires c =
    let k = (asked (goal.at.reached_sums-sums-requires c).Else-bottom-top).reached in
    record { sizes = k.0; places = k.1.0; lent = k.1.1.0; rows = k.1.1.1 }

pub returns-then-usual_table : goal.returns-then-usual_table
returns-then-usual_table c =
    let a = c.args in
    span_told _ a.request c.asked-opacity.result a.levels.now a.w a.h c.asked-opacity.ensures a.table.now (c.usual_table.ensures c.if-usual_table.true)
    c.reached_sums-sums.result c.finalize-then-usual_table.result (outcome c.done-then-usual_table.result) c.reached_sums-sums.ensures c.finalize-then-usual_table.ensures c.done-then-usual_table.ensures

pub returns : goal.returns
returns c = c.tested_span_score.ensures
