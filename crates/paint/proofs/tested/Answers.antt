use mathlib.Core.Path.{sym, ap, ◌∙◌}
use mathlib.Core.Bool.{not}
use Rattle.std.proofs.Common.{rules}
use Rattle.std.specs.Prelude.{◌≡◌}
use Rattle.refusal.specs.Outcomes.{number, number_of}
use Rattle.refusal.specs.OutcomeLaws.{number-positive}
use Rattle.paint.specs.PaintLaws.{sizes-refused, at_place, at-opacity, at_colour, at_none}
use Rattle.paint.proofs.tested.Goals as goal

-- The tests in the order of their numbers.

pub returns-in_err-lengths_tested : goal.returns-in_err-lengths_tested
returns-in_err-lengths_tested c =
    let k : number_of c.from_residual.result ≡ number c.in_err-lengths_tested.field-0.0 = search rules in
    sizes-refused _ _ _ _ _ _ _ _ _ _ _ (k ∙ c.in_err-lengths_tested.ensures) (λ z. number-positive c.in_err-lengths_tested.field-0.0 (sym k ∙ z))

pub returns-then-bad_places : goal.returns-then-bad_places
returns-then-bad_places c =
    at_place _ _ _ _ _ _ _ _ _ _ (sym c.in_ok-lengths_tested.ensures)
    (sym c.bad_places.ensures ∙ c.if-bad_places.true)

pub returns-then-not-within : goal.returns-then-not-within
returns-then-not-within c =
    at-opacity _ _ _ _ _ _ _ _ _ _ (sym c.in_ok-lengths_tested.ensures)
    (sym c.bad_places.ensures ∙ c.if-bad_places.false)
    (ap not (sym c.within.ensures ∙ c.if-not-within.true))

pub returns-then-bad_colour : goal.returns-then-bad_colour
returns-then-bad_colour c =
    at_colour _ _ _ _ _ _ _ _ _ _ (sym c.in_ok-lengths_tested.ensures)
    (sym c.bad_places.ensures ∙ c.if-bad_places.false)
    (ap not (sym c.within.ensures ∙ c.if-not-within.false))
    (sym c.bad_colour.ensures ∙ c.if-bad_colour.true)

pub returns : goal.returns
returns c =
    at_none _ _ _ _ _ _ _ _ _ _ (sym c.in_ok-lengths_tested.ensures)
    (sym c.bad_places.ensures ∙ c.if-bad_places.false)
    (ap not (sym c.within.ensures ∙ c.if-not-within.false))
    (sym c.bad_colour.ensures ∙ c.if-bad_colour.false)
