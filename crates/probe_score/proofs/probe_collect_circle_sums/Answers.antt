use mathlib.Core.Path.{◌∙◌, ap}
use Rattle.probe_score.specs.Probes.{gathered_of}
use mir.Facts.{to_z-of_z}
use Rattle.probe_score.proofs.probe_collect_circle_sums.Goals as goal

-- What `collect_circle_sums` promises, as C has it.

pub returns : goal.returns
returns c = c.gathered.ensures ∙ ap gathered_of (simp (to_z-of_z, c.ranges.cx, c.ranges.cy, c.ranges.r) at c.collect_circle_sums.ensures)
