use mathlib.Core.Path.{sym, ◌∙◌}
use Rattle.laws.specs.Bools.{true_is}
use Rattle.gather.specs.RunSumLaws.{numbers_part}
use Rattle.gather.proofs.points.numbers_in.Goals as goal

-- `gather::points::numbers_in` meets its contract: the part that is lent has the values from a up to e.

pub returns : goal.returns
returns c =
    λ h. numbers_part c.args.xs.now c.args.a c.args.e c.requires.1 (true_is _ (sym c.all_numbers.ensures ∙ h))
