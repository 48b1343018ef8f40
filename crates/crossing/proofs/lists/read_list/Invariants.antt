use mathlib.Core.Path.{◌≡◌}
use lib.ListN.{length, take}
use Rattle.laws.specs.Tab.{tab}
use Rattle.crossing.specs.Crossed.{shape_at}
use Rattle.crossing.proofs.lists.read_list.Given as goal

abbrev pub invariant-loop-i : goal.invariant-loop-i
invariant-loop-i l = (length l.items ≡ 64) × (take l.i l.items ≡ tab (shape_at l.sizes l.places l.paints) l.i)
