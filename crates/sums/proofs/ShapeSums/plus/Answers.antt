use Rattle.laws.specs.F64.{◌⊕◌}
use Rattle.std.proofs.Common.{rules}
use Rattle.sums.specs.Sums.{plus}
use Rattle.sums.proofs.ShapeSums.plus.Goals as goal

-- `ShapeSums::plus`: number by number, what the closure gives.

pub returns : goal.returns
unfolding plus
returns c = c.each.ensures ◌⊕◌ (λ x y z p. search (rules, p))
