use mathlib.Core.Path.{refl}
use native.Mathlib.Omega.{arith}
use Rattle.sums.specs.Sums.{plus, pixel_sums}
use Rattle.gather.specs.Paired.{unpaired_of}
use Rattle.gather.proofs.points.push_pair.Goals as goal

-- `gather::points::push_pair` meets its contract: number by number what `plus` adds.

pub overflow_add-result : goal.overflow_add-result
overflow_add-result c = omega (arith, c.requires)

pub returns : goal.returns
unfolding plus pixel_sums unpaired_of
returns c = refl
