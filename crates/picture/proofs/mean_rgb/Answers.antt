use mathlib.Core.Path.{sym, ap, ◌∙◌}
use Prim.Native.Nat.{ℕ}
use native.Mathlib.Omega.{arith}
use Rattle.std.proofs.Common.{rules}
use Rattle.std.specs.Prelude.{◌≡◌, Err}
use Rattle.refusal.specs.Outcomes.{number}
use Rattle.refusal.specs.OutcomeLaws.{number-positive}
use Rattle.laws.specs.Answer.{answer}
use Rattle.laws.specs.AnswerLaws.{answer-refused}
use Rattle.refusal.specs.ThreeTests.{refused-first}
use Rattle.picture.specs.Pixels.{mean_of, mean_refusal, no_colour}
use Rattle.picture.specs.PixelLaws.{sizes_passed, few_pixels, mean_last, mean_done, mean_beyond}
use Rattle.picture.proofs.mean_rgb.Goals as goal

-- Size and length, then what the sums say.

pub returns-in_err-tested : goal.returns-in_err-tested
unfolding mean_refusal
returns-in_err-tested c =
    let a = c.args in
    let e = c.in_err-tested.field-0.0 in
    let k : c.from_residual.result ≡ Err e = search rules in
    let p = c.in_err-tested.ensures in
    rw k (answer-refused _ (mean_of a.w a.h a.target.now) no_colour (number e) (p ∙ refused-first _ 7 (omega arith) _ _ (λ z. number-positive e (p ∙ z))) (number-positive e))

pub overflow_mul-n : goal.overflow_mul-n
overflow_mul-n c =
    let a = c.args in
    omega (arith, few_pixels a.w a.h (sizes_passed _ _ _ (sym c.in_ok-tested.ensures)).0)

pub sums_within-requires : goal.sums_within-requires
sums_within-requires c = (sizes_passed _ _ _ (sym c.in_ok-tested.ensures)).1

pub share-requires : goal.share-requires
share-requires c =
    let a = c.args in
    omega (arith, few_pixels a.w a.h (sizes_passed _ _ _ (sym c.in_ok-tested.ensures)).0)

pub share-requires-in-Some : goal.share-requires-in-Some
share-requires-in-Some c =
    let a = c.args in
    omega (arith, few_pixels a.w a.h (sizes_passed _ _ _ (sym c.in_ok-tested.ensures)).0)

pub share-requires-in-Some-2 : goal.share-requires-in-Some-2
share-requires-in-Some-2 c =
    let a = c.args in
    omega (arith, few_pixels a.w a.h (sizes_passed _ _ _ (sym c.in_ok-tested.ensures)).0)

pub returns-in-Some : goal.returns-in-Some
returns-in-Some c =
    let a = c.args in
    let t = a.target.now in
    mean_done a.w a.h t _ c.sums_within.ensures c.in-Some.sums _ _ _ c.in-Some.is c.share.ensures c.share-in-Some.ensures c.share-in-Some-2.ensures
    ∙ ap (λ (z : ℕ). answer z (mean_of a.w a.h t) no_colour) (mean_last a.w a.h t (sym c.in_ok-tested.ensures))

pub returns-in-None : goal.returns-in-None
returns-in-None c =
    let a = c.args in
    let t = a.target.now in
    mean_beyond a.w a.h t _ c.sums_within.ensures c.in-None.is
    ∙ ap (λ (z : ℕ). answer z (mean_of a.w a.h t) no_colour) (mean_last a.w a.h t (sym c.in_ok-tested.ensures))
