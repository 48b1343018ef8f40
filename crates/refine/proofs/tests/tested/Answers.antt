use mathlib.Core.Path.{◌≡◌, sym, ◌∙◌}
use lib.ListN.{length}
use Rattle.std.proofs.Common.{rules}
use Rattle.refusal.specs.Outcomes.{number, number_of}
use Rattle.refusal.specs.OutcomeLaws.{number-positive}
use Rattle.refine.specs.TestLaws.{sizes_passed, refusal-sizes, refusal_ranges}
use Rattle.refine.proofs.tests.tested.Goals as goal

-- The two parts of the table, one after the other.

pub returns-in_err-sizes_tested : goal.returns-in_err-sizes_tested
returns-in_err-sizes_tested c =
    let a = c.args in
    let e = c.in_err-sizes_tested.field-0.0 in
    let k : number_of c.from_residual.result ≡ number e = search rules in
    k ∙ sym (refusal-sizes a.w a.h a.red a.green a.blue a.target.now a.list a.candidates.now a.passes a.first a.second (number e) c.in_err-sizes_tested.ensures (number-positive e))

pub look_at_all-ranges-requires : goal.look_at_all-ranges-requires
look_at_all-ranges-requires c = (sizes_passed _ _ _ _ _ _ _ _ c.in_ok-sizes_tested.ensures).few_candidates

pub returns : goal.returns
returns c =
    let a = c.args in
    c.ranges_tested.ensures ∙ sym (refusal_ranges a.w a.h a.red a.green a.blue a.target.now a.list a.candidates.now a.passes a.first a.second _ c.in_ok-sizes_tested.ensures c.look_at_all-ranges.ensures)
