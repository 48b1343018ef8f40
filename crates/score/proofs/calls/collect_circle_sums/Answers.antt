use mir.Facts.{to_z-of_z}
use Rattle.score.proofs.calls.collect_circle_sums.Goals as goal

-- `score::calls::collect_circle_sums` meets its contract: each number that is read back from its bits is the number itself.

pub returns : goal.returns
returns c = simp (to_z-of_z, c.ranges.cx, c.ranges.cy, c.ranges.r) at c.collect_point_sums.ensures
