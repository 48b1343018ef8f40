use mathlib.Core.Path.{refl, sym, ◌∙◌}
use native.Mathlib.Omega.{arith}
use borrow.Author.Tests.{ne_eqb}
use Rattle.std.proofs.Common.{rules}
use Rattle.std.specs.Prelude.{◌≡◌}
use Rattle.refusal.specs.Outcomes.{number, number_of}
use Rattle.refusal.specs.OutcomeLaws.{number-positive}
use Rattle.refusal.specs.ThreeTests.{refused-first, two-passed, at-third, at_none}
use Rattle.picture.specs.Pixels.{fill_refusal}
use Rattle.picture.specs.PixelLaws.{sizes_passed}
use Rattle.picture.proofs.filled_canvas.Goals as goal

-- Size and length, then the colour; where all pass the picture is filled, and else as it was.

pub returns-in_err-tested : goal.returns-in_err-tested
unfolding fill_refusal
returns-in_err-tested c =
    let k : number_of c.from_residual.result ≡ number c.in_err-tested.field-0.0 = search rules in
    let e = k ∙ c.in_err-tested.ensures in
    let n : number_of c.from_residual.result ≡ 0 → ⊥ = λ z. number-positive c.in_err-tested.field-0.0 (sym k ∙ z) in
    record { number = e ∙ refused-first _ 6 (omega arith) _ _ (λ z. n (e ∙ z)); left = rw (ne_eqb _ 0 n) refl }

pub returns-then-bad_colour : goal.returns-then-bad_colour
unfolding fill_refusal
returns-then-bad_colour c =
    let p = two-passed _ _ (sym c.in_ok-tested.ensures) in
    record { number = at-third _ _ _ 6 (omega arith) p.0 p.1 (sym c.bad_colour.ensures ∙ c.if-bad_colour.true); left = refl }

pub fill-requires : goal.fill-requires
fill-requires c = (sizes_passed _ _ _ (sym c.in_ok-tested.ensures)).1

pub returns : goal.returns
unfolding fill_refusal
returns c =
    let p = two-passed _ _ (sym c.in_ok-tested.ensures) in
    record { number = at_none _ _ _ 6 (omega arith) p.0 p.1 (sym c.bad_colour.ensures ∙ c.if-bad_colour.false); left = c.fill.ensures }
