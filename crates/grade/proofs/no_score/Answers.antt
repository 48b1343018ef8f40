use mathlib.Core.Path.{refl}
use lib.Ieee.{of_bits}
use Rattle.grade.specs.Finalize.{no_score}
use Rattle.grade.proofs.no_score.Goals as goal

-- `grade::no_score` meets its contract: the code is the rule's line.

pub returns : goal.returns
unfolding no_score of_bits
returns c = refl
