use mathlib.Core.Path.{refl, sym}
use Rattle.probe_picture.proofs.probe_blend.Goals as goal

-- What `blended` promises of the shape that the coordinates say; where they say none nothing is touched.

pub returns-in-Some : goal.returns-in-Some
returns-in-Some c =
    rw (sym (rw c.in-Some.is at c.outline-o.ensures), c.number_of.ensures) c.blended.ensures

pub returns-in-None : goal.returns-in-None
returns-in-None c = rw (sym (rw c.in-None.is at c.outline-o.ensures)) (c.number.ensures, refl)
