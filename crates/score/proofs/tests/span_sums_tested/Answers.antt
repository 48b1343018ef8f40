use mathlib.Core.Path.{sym, ◌∙◌}
use lib.ListN.{length}
use Rattle.refusal.specs.Refusals.{bad_size}
use Rattle.refusal.specs.RefusalLaws.{sized}
use Rattle.refusal.specs.Lengths.{bad_table}
use Rattle.refusal.specs.ThreeTests.{at_size, at_length, at-third, at_none}
use Rattle.cover.specs.Cover.{bad_places}
use Rattle.score.specs.Scoring.{span_sums_refusal}
use native.Mathlib.Omega.{arith}
use Rattle.score.proofs.tests.span_sums_tested.Goals as goal

-- `score::tests::span_sums_tested` meets its contract: the tests come in the order of their numbers.

pub returns-then-bad_size : goal.returns-then-bad_size
unfolding span_sums_refusal
returns-then-bad_size c =
    let a = c.args in
    at_size (bad_size a.w a.h) (bad_table a.w a.h (length a.table.now)) (bad_places a.kind) 4 (omega arith) (sym c.bad_size.ensures ∙ c.if-bad_size.true)

pub bad_table-requires : goal.bad_table-requires
bad_table-requires c =
    let a = c.args in
    let z = sized a.w a.h (sym c.bad_size.ensures ∙ c.if-bad_size.false) in
    (z.w_high, z.h_high)

pub returns-then-bad_table : goal.returns-then-bad_table
unfolding span_sums_refusal
returns-then-bad_table c =
    let a = c.args in
    at_length (bad_size a.w a.h) (bad_table a.w a.h (length a.table.now)) (bad_places a.kind) 4 (omega arith) (sym c.bad_size.ensures ∙ c.if-bad_size.false) (sym c.bad_table.ensures ∙ c.if-bad_table.true)

pub returns-then-bad_places : goal.returns-then-bad_places
unfolding span_sums_refusal
returns-then-bad_places c =
    let a = c.args in
    at-third (bad_size a.w a.h) (bad_table a.w a.h (length a.table.now)) (bad_places a.kind) 4 (omega arith) (sym c.bad_size.ensures ∙ c.if-bad_size.false) (sym c.bad_table.ensures ∙ c.if-bad_table.false) (sym c.bad_places.ensures ∙ c.if-bad_places.true)

pub returns : goal.returns
unfolding span_sums_refusal
returns c =
    let a = c.args in
    at_none (bad_size a.w a.h) (bad_table a.w a.h (length a.table.now)) (bad_places a.kind) 4 (omega arith) (sym c.bad_size.ensures ∙ c.if-bad_size.false) (sym c.bad_table.ensures ∙ c.if-bad_table.false) (sym c.bad_places.ensures ∙ c.if-bad_places.false)
