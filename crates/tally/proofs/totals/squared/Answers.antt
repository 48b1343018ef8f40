use lib.Ieee.{binary32}
use Rattle.tally.specs.TallyLaws.{difference_number}
use Rattle.tally.proofs.totals.squared.Goals as goal

-- The difference of two values within 0..1 is a number, and a widened number is itself.

pub widen_number-d-requires : goal.widen_number-d-requires
widen_number-d-requires c = difference_number binary32 c.args.t c.args.c c.requires.0 c.requires.1

pub returns : goal.returns
returns c = simp c.widen_number-d.ensures
