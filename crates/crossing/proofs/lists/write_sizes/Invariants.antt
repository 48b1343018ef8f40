use Prim.Native.Nat.{ℕ}
use lib.ListN.{length}
use Rattle.cover.specs.Cover.{places}
use Rattle.shapes.specs.declared.Shapes.{Shapes}
use Rattle.shapes.specs.Lists.{listed}
use Rattle.crossing.specs.Crossed.{entry}
use Rattle.crossing.specs.CrossedLaws.{Written}
use Rattle.crossing.proofs.lists.write_sizes.Given as goal

abbrev pub size_at : Shapes → ℕ → ℕ
size_at list i = length (places (entry (listed list) i).kind)

abbrev pub invariant-loop-i : goal.invariant-loop-i
invariant-loop-i l = Written (size_at l.list) l.list.count l.sizes l.i
