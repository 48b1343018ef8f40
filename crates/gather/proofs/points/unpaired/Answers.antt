use mathlib.Core.Path.{refl}
use Rattle.gather.specs.Paired.{unpaired_of}
use Rattle.gather.proofs.points.unpaired.Goals as goal

-- `gather::points::unpaired` meets its contract: the numbers as they were.

pub returns : goal.returns
unfolding unpaired_of
returns c = refl
