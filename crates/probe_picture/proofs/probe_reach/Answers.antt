use mathlib.Core.Path.{sym}
use Rattle.probe_picture.proofs.probe_reach.Goals as goal

-- What `reach` promises of the shape that the coordinates say.

pub returns-in-Some : goal.returns-in-Some
returns-in-Some c =
    rw (sym (rw c.in-Some.is at c.outline-o.ensures)) c.reach.ensures

pub returns-in-None : goal.returns-in-None
returns-in-None c = rw (sym (rw c.in-None.is at c.outline-o.ensures)) c.unreached.ensures
