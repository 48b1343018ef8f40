use Prim.Native.Nat.{ℕ, ◌*◌, ◌/◌, ◌%◌}
use lib.Ieee.{Float}
use Rattle.shapes.specs.declared.Shapes.{Shapes}
use Rattle.shapes.specs.Lists.{listed}
use Rattle.crossing.specs.Crossed.{entry, paint_in}
use Rattle.crossing.specs.CrossedLaws.{Written}
use Rattle.crossing.proofs.lists.write_paints.Given as goal

abbrev pub paintAt : Shapes → ℕ → Float
paintAt list k = paint_in (entry (listed list) (k / 4)) (k % 4)

abbrev pub invariant-loop-k : goal.invariant-loop-k
invariant-loop-k l = Written (paintAt l.list) (l.list.count * 4) l.paints l.k
