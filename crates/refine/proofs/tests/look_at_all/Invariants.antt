use mathlib.Core.Path.{◌≡◌}
use Rattle.shapes.specs.Ranges.{ranges_of}
use Rattle.refine.specs.CallLaws.{looked_up_to}
use Rattle.refine.proofs.tests.look_at_all.Given as goal

-- the candidates so far were looked at
abbrev pub invariant-loop-what : goal.invariant-loop-what
invariant-loop-what l = l.ranges ≡ ranges_of (looked_up_to l.fn.list l.what-items l.what-index)
