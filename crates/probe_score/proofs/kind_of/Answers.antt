use borrow.Author.Tests.{eq-eqb, ne_eqb}
use mir.Facts.{to_z-of_z}
use Rattle.probe_score.proofs.kind_of.Goals as goal

-- One law for each kind: each number that is read back from its bits is the number itself.

pub returns-then-kind-eq1 : goal.returns-then-kind-eq1
returns-then-kind-eq1 c = simp (eq-eqb _ _ c.if-kind-eq1.true, to_z-of_z, c.ranges.x0, c.ranges.y0, c.ranges.x1)

pub returns-then-kind-eq2 : goal.returns-then-kind-eq2
returns-then-kind-eq2 c = simp (ne_eqb _ _ c.if-kind-eq1.false, eq-eqb _ _ c.if-kind-eq2.true, to_z-of_z, c.ranges.x0, c.ranges.y0, c.ranges.x1, c.ranges.y1, c.ranges.x2, c.ranges.y2)

pub returns : goal.returns
returns c = simp (ne_eqb _ _ c.if-kind-eq1.false, ne_eqb _ _ c.if-kind-eq2.false, to_z-of_z, c.ranges.x0, c.ranges.y0, c.ranges.x1, c.ranges.y1, c.ranges.x2, c.ranges.y2, c.ranges.x3, c.ranges.y3)
