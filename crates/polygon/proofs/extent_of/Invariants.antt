use Rattle.std.proofs.Common.{◌≡◌, ◌∷◌, take}
use Rattle.polygon.specs.Polygon.{least_of, greatest_of}
use Rattle.polygon.proofs.extent_of.Given as goal

abbrev pub invariant-loop-z : goal.invariant-loop-z
invariant-loop-z l = (l.least ≡ least_of (l.first ∷ take l.z-index l.rest)) × (l.greatest ≡ greatest_of (l.first ∷ take l.z-index l.rest))
