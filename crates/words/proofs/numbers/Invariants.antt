use Prim.Native.Nat.{◌-◌}
use lib.ListN.{length}
use Rattle.words.specs.WordLaws.{Reading}
use Rattle.words.proofs.numbers.Given as goal

abbrev pub invariant-loop-a : goal.invariant-loop-a
invariant-loop-a l = Reading l.text l.initial.out l.out l.n l.a

abbrev pub decreases-loop-a : goal.decreases-loop-a
decreases-loop-a l = length l.text - l.a
