use Rattle.std.specs.Prelude.{None}
use Rattle.shapes.specs.Lists.{offered}
use Rattle.refine.specs.CallLaws.{look_none, look_more}
use Rattle.refine.proofs.tests.look_at_all.Goals as goal

-- The loop carries the ranges of what was looked at.

pub loop-what-init : goal.loop-what-init
loop-what-init c = look_none _ (offered c.args.candidates.now) _ c.look_through-ranges.ensures

pub loop-what-preserved : goal.loop-what-preserved
loop-what-preserved c = look_more _ _ _ None _ _ c.loop-what-test.true c.loop-what.invariant c.look_at-ranges.ensures
