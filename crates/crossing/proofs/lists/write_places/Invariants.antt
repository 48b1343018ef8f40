use Prim.Native.Nat.{ℕ, ◌*◌, ◌/◌, ◌%◌}
use lib.IntN.{ℤ}
use Rattle.shapes.specs.declared.Shapes.{Shapes}
use Rattle.shapes.specs.Lists.{listed}
use Rattle.crossing.specs.Crossed.{entry, place_in}
use Rattle.crossing.specs.CrossedLaws.{Written}
use Rattle.crossing.proofs.lists.write_places.Given as goal

abbrev pub place_at : Shapes → ℕ → ℤ
place_at list k = place_in (entry (listed list) (k / 8)).kind (k % 8)

abbrev pub invariant-loop-k : goal.invariant-loop-k
invariant-loop-k l = Written (place_at l.list) (l.list.count * 8) l.places l.k
