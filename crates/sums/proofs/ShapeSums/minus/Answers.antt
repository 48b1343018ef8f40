use Rattle.laws.specs.F64.{◌⊖◌}
use Rattle.std.proofs.Common.{rules}
use Rattle.sums.specs.Sums.{minus}
use Rattle.sums.proofs.ShapeSums.minus.Goals as goal

-- `ShapeSums::minus`: number by number, what the closure gives.

pub returns : goal.returns
unfolding minus
returns c = c.each.ensures ◌⊖◌ (λ x y z p. search (rules, p))
