use Rattle.picture.specs.Pixels.{bad_colour}
use Rattle.picture.proofs.bad_colour.Goals as goal

-- The code's three tests are the rule's.

pub returns : goal.returns
unfolding bad_colour
returns c = simp (c.within-3.ensures, c.within-2.ensures, c.within.ensures)
