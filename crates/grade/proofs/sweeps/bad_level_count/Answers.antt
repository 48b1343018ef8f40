use mathlib.Core.Path.{refl}
use Rattle.grade.proofs.sweeps.bad_level_count.Goals as goal

-- `grade::sweeps::bad_level_count` meets its contract: the code is the rule's line. Written out, so that an edit is refused here first.

pub returns : goal.returns
returns c = refl
