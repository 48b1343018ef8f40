use mathlib.Core.Path.{◌∙◌}
use Rattle.grade.specs.FinalizeLaws.{known_number}
use Rattle.grade.proofs.sweeps.known_colour.Goals as goal

-- `grade::sweeps::known_colour` meets its contract: the colour of a number is a number.

pub widen_number-requires : goal.widen_number-requires
widen_number-requires c = rw c.narrow01.ensures (known_number c.args.q c.requires)

pub returns : goal.returns
returns c = c.widen_number.ensures ∙ c.narrow01.ensures
