use mathlib.Core.Path.{sym, ap, ◌∙◌}
use Prim.Native.Nat.{ℕ}
use native.Mathlib.Omega.{arith}
use Rattle.std.proofs.Common.{rules}
use Rattle.std.specs.Prelude.{◌≡◌, Result, Err, Float}
use Rattle.refusal.specs.Outcomes.{number, outcome}
use Rattle.refusal.specs.OutcomeLaws.{number-positive}
use Rattle.laws.specs.Answer.{answer}
use Rattle.laws.specs.AnswerLaws.{answer-refused}
use Rattle.float.specs.Within.{nought}
use Rattle.refusal.specs.declared.Refusal.{Refusal}
use Rattle.refusal.specs.ThreeTests.{refused-first}
use Rattle.tally.specs.Tally.{total_of}
use Rattle.picture.specs.Pixels.{total_refusal, total_answer}
use Rattle.picture.specs.PixelLaws.{lengths_passed, pixels-last, total_told_lem}
use Rattle.picture.proofs.sse_total.Goals as goal

-- Sizes and lengths, then what the sum says.

pub returns-in_err-lengths_tested : goal.returns-in_err-lengths_tested
unfolding total_refusal
returns-in_err-lengths_tested c =
    let a = c.args in
    let e = c.in_err-lengths_tested.field-0.0 in
    let k : c.from_residual.result ≡ Err e = search rules in
    let p = c.in_err-lengths_tested.ensures in
    rw k (answer-refused _ (total_of a.target.now a.canvas.now) nought (number e) (p ∙ refused-first _ 7 (omega arith) _ _ (λ z. number-positive e (p ∙ z))) (number-positive e))

pub total_within-requires : goal.total_within-requires
total_within-requires c = lengths_passed _ _ _ _ (sym c.in_ok-lengths_tested.ensures)

pub returns : goal.returns
returns c =
    let a = c.args in
    let t = a.target.now in
    let k = a.canvas.now in
    ap (λ (o : Result Float Refusal). total_answer (outcome o)) (c.ok_or.ensures).value
    ∙ total_told_lem t k _ c.total_within.ensures
    ∙ ap (λ (z : ℕ). answer z (total_of t k) nought) (pixels-last a.w a.h t k (sym c.in_ok-lengths_tested.ensures))
