use mathlib.Core.Path.{refl, sym, ◌∙◌}
use native.Mathlib.Omega.{arith}
use borrow.Author.Tests.{ne_eqb}
use Rattle.std.proofs.Common.{rules}
use Rattle.std.specs.Prelude.{◌≡◌}
use Rattle.refusal.specs.Outcomes.{number, number_of}
use Rattle.refusal.specs.OutcomeLaws.{number-positive}
use Rattle.refusal.specs.RefusalLaws.{sized}
use Rattle.refusal.specs.LengthLaws.{picture_length}
use Rattle.refusal.specs.ThreeTests.{passed}
use Rattle.probe_picture.specs.Probes.{blend_refusal}
use Rattle.probe_picture.proofs.blended.Goals as goal

-- The number is that of the tests; where none is refused the shape is painted, and else the picture is as it was.

pub returns-in_err-blend_tested : goal.returns-in_err-blend_tested
returns-in_err-blend_tested c =
    let e = c.in_err-blend_tested.field-0.0 in
    let k : number_of c.from_residual.result ≡ number e = search rules in
    let n : number_of c.from_residual.result ≡ 0 → ⊥ = λ z. number-positive e (sym k ∙ z) in
    record { number = k ∙ c.in_err-blend_tested.ensures; left = rw (ne_eqb _ 0 n) refl }

pub blend-requires : goal.blend-requires
unfolding blend_refusal
blend-requires c =
    let p = passed _ _ _ 4 (omega arith) (sym c.in_ok-blend_tested.ensures) in
    record { sizes = sized _ _ p.0; places = p.2; picture = picture_length _ _ _ p.1 }

pub returns : goal.returns
returns c = record { number = c.in_ok-blend_tested.ensures; left = c.blend.ensures }
