use Rattle.shapes.specs.Blank.{blank}
use Rattle.shapes.specs.RangeLaws.{ranges_none, items_more}
use Rattle.shapes.proofs.look_through.Goals as goal

-- The loop carries the ranges of the items passed. A count beyond the items adds nothing.

pub loop-x-init : goal.loop-x-init
loop-x-init c = ranges_none

pub loop-x-preserved : goal.loop-x-preserved
loop-x-preserved c = items_more _ _ blank _ _ c.loop-x-test.true c.loop-x.invariant c.look-r.ensures
