use lib.Ieee.{of_bits}
use Rattle.grade.specs.PartLaws.{drawn_steps}
use Rattle.grade.proofs.parts.all_drawn.Goals as goal

-- `grade::parts::all_drawn` meets its contract: its steps are the law's.

pub returns : goal.returns
unfolding of_bits
returns c =
    let x = c.args in
    drawn_steps x.s x.a x.m x.n x.p x.red x.green x.blue _ _ _
    c.requires.rest c.requires.parts c.requires.colours c.error_drawn-first.ensures c.error_drawn-second.ensures c.error_drawn-third.ensures
