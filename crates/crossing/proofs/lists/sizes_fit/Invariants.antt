use Rattle.std.proofs.Common.{◌≡◌, take}
use Rattle.laws.specs.Every.{every}
use Rattle.crossing.specs.Crossed.{sized_or}
use Rattle.crossing.proofs.lists.sizes_fit.Given as goal

abbrev pub invariant-loop-n : goal.invariant-loop-n
invariant-loop-n l = l.ok ≡ every (sized_or l.gaps) (take l.n-index l.sizes)
