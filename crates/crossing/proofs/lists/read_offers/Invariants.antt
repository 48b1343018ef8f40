use mathlib.Core.Path.{◌≡◌}
use lib.ListN.{length, take}
use Rattle.laws.specs.Tab.{tab}
use Rattle.crossing.specs.Crossed.{offer_at}
use Rattle.crossing.proofs.lists.read_offers.Given as goal

abbrev pub invariant-loop-i : goal.invariant-loop-i
invariant-loop-i l = (length l.slots ≡ 1024) × (take l.i l.slots ≡ tab (offer_at l.sizes l.places l.paints) l.i)
