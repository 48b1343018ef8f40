use mathlib.Core.Path.{refl, sym, ◌∙◌}
use Rattle.capi.proofs.painting.sillbadger_paint.Goals as goal

-- What `paint` promises of the shape that the coordinates say; where they say none nothing is touched.

pub returns-in-Some : goal.returns-in-Some
returns-in-Some c =
    rw (sym (rw c.in-Some.is at c.outline-o.ensures), c.number_of.ensures) c.paint-answer.ensures

pub returns-in-None : goal.returns-in-None
returns-in-None c =
    rw (sym (rw c.in-None.is at c.outline-o.ensures)) (c.number.ensures ∙ c.no_shape.ensures, refl, refl)
