use mir.Syntax.{w64}
use mir.Facts.{to_z-of_z}
use Rattle.laws.specs.Fit.{read}
use Rattle.capi.proofs.sillbadger_left_quad.Goals as goal

-- What `end_of` promises of this kind, once each number that is read back from its bits is the number itself.

pub returns : goal.returns
returns c =
    simp (read w64 c.end_of.result c.end_of.type_inv) (simp (to_z-of_z, c.ranges.x0, c.ranges.y0, c.ranges.x1, c.ranges.y1, c.ranges.x2, c.ranges.y2, c.ranges.x3, c.ranges.y3, c.ranges.y) at c.end_of.ensures)
