use mathlib.Core.Path.{◌≡◌}
use lib.ListN.{take}
use Rattle.shapes.specs.Ranges.{ranges_of}
use Rattle.shapes.proofs.look_through.Given as goal

abbrev pub invariant-loop-x : goal.invariant-loop-x
invariant-loop-x l = l.r ≡ ranges_of (take l.x-index l.x-items)
