use Rattle.grade.specs.FinalizeLaws.{colour_step}
use Rattle.grade.proofs.colour_at.Goals as goal

-- `grade::colour_at` meets its contract.

pub returns : goal.returns
returns c =
    colour_step c.args.s c.args.a c.args.m c.args.n c.requires.rest c.requires.pixels _ c.args.channel c.colour.ensures
