use mir.Facts.{to_z-of_z, sfits_widen}
use mir.Syntax.{w64}
use mir.Val.{SFits}
use Rattle.laws.specs.Fit.{sub32}
use Rattle.polygon.proofs.diff.Goals as goal
use Rattle.polygon.proofs.diff.Goals.{Start}

-- `polygon::diff` meets its contract: two i32 and their difference fit an i64.

module _ (c : Start) where
  fa : SFits w64 c.args.a
  fa = sfits_widen tt c.ranges.a

  fb : SFits w64 c.args.b
  fb = sfits_widen tt c.ranges.b

pub overflow_cast-result : goal.overflow_cast-result
overflow_cast-result c = rw (to_z-of_z, c.ranges.a) (fa (goal.at.overflow_cast-result c).Start)

pub overflow_cast-result-2 : goal.overflow_cast-result-2
overflow_cast-result-2 c = rw (to_z-of_z, c.ranges.b) (fb (goal.at.overflow_cast-result-2 c).Start)

pub overflow_sub-result : goal.overflow_sub-result
overflow_sub-result c = simp (to_z-of_z, c.ranges.a, c.ranges.b, fa (goal.at.overflow_sub-result c).Start, fb (goal.at.overflow_sub-result c).Start) (sub32 c.args.a c.args.b c.ranges.a c.ranges.b)

pub returns : goal.returns
returns c =
    simp (to_z-of_z, c.ranges.a, c.ranges.b, fa (goal.at.returns c).Start, fb (goal.at.returns c).Start, sub32 c.args.a c.args.b c.ranges.a c.ranges.b)
