use lib.Ieee.{of_bits}
use Rattle.grade.specs.FinalizeLaws.{after_steps}
use Rattle.grade.proofs.all_wide.Goals as goal

-- `grade::all_wide` meets its contract: each channel's error, added in order.

pub returns : goal.returns
unfolding of_bits
returns c =
    after_steps c.args.s c.args.a c.args.m c.args.n c.requires.rest c.requires.pixels _ _ _ _ _ _ c.requires.colours
    c.error_after-first.ensures c.error_after-second.ensures c.error_after-third.ensures
