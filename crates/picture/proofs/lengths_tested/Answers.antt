use mathlib.Core.Path.{sym, ap, ◌∙◌}
use mathlib.Core.Bool.{Bool, ◌||◌}
use mathlib.Core.List.{[], ◌∷◌}
use Rattle.std.proofs.Common.{rules}
use Rattle.std.specs.Prelude.{◌≡◌}
use Rattle.refusal.specs.Outcomes.{number, number_of}
use Rattle.refusal.specs.OutcomeLaws.{number-positive}
use Rattle.refusal.specs.Refusals.{lowest, size_if, length_if, bad_size}
use Rattle.refusal.specs.Lengths.{bad_picture}
use Rattle.refusal.specs.ThreeTests.{two-passed}
use Rattle.picture.specs.PixelLaws.{first-length}
use Rattle.picture.proofs.lengths_tested.Goals as goal

-- Size and length of the one picture, then length of the other.

pub returns-in_err-tested : goal.returns-in_err-tested
returns-in_err-tested c =
    let k : number_of c.from_residual.result ≡ number c.in_err-tested.field-0.0 = search rules in
    let e = k ∙ c.in_err-tested.ensures in
    e ∙ first-length _ _ _ (λ z. number-positive c.in_err-tested.field-0.0 (sym k ∙ e ∙ z))

pub returns : goal.returns
returns c =
    let a = c.args in
    let p = two-passed (bad_size a.w a.h) (bad_picture a.w a.h a.n) (sym c.in_ok-tested.ensures) in
    c.tested-2.ensures
    ∙ ap (λ (b : Bool). lowest (size_if (bad_size a.w a.h) ∷ length_if (b || bad_picture a.w a.h a.m) ∷ [])) (sym p.1)
