use mir.Facts.{to_z-of_z}
use Rattle.score.proofs.calls.collect_triangle_sums.Goals as goal

-- `score::calls::collect_triangle_sums` meets its contract: each number that is read back from its bits is the number itself.

pub returns : goal.returns
returns c = simp (to_z-of_z, c.ranges.x0, c.ranges.y0, c.ranges.x1, c.ranges.y1, c.ranges.x2, c.ranges.y2) at c.collect_point_sums.ensures
