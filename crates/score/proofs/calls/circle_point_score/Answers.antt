use mir.Facts.{to_z-of_z}
use Rattle.score.proofs.calls.circle_point_score.Goals as goal

-- `score::calls::circle_point_score` meets its contract: each number that is read back from its bits is the number itself.

pub returns : goal.returns
returns c = simp (to_z-of_z, c.ranges.cx, c.ranges.cy, c.ranges.r) at c.point_score.ensures
