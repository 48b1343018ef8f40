use Rattle.grade.specs.PartLaws.{after_is_drawn}
use Rattle.grade.proofs.error_after.Goals as goal

-- `grade::error_after` meets its contract: what is left, and the colour drawn over it, are the rule's line.

pub returns : goal.returns
returns c = simp (c.error_drawn.ensures, c.error_left.ensures, after_is_drawn)
