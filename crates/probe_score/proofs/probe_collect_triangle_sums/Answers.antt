use mathlib.Core.Path.{◌∙◌, ap}
use Rattle.probe_score.specs.Probes.{gathered_of}
use mir.Facts.{to_z-of_z}
use Rattle.probe_score.proofs.probe_collect_triangle_sums.Goals as goal

-- What `collect_triangle_sums` promises, as C has it.

pub returns : goal.returns
returns c = c.gathered.ensures ∙ ap gathered_of (simp (to_z-of_z, c.ranges.x0, c.ranges.y0, c.ranges.x1, c.ranges.y1, c.ranges.x2, c.ranges.y2) at c.collect_triangle_sums.ensures)
