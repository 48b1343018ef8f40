use Rattle.session.specs.Session.{values_of}
use mathlib.Core.Path.{refl}
use Rattle.session.proofs.values.Goals as goal

-- `session::values` meets its contract, field by field.

pub returns : goal.returns
unfolding values_of
returns c = rw (c.bits32.ensures, c.bits32-2.ensures, c.bits32-3.ensures, c.bits32-4.ensures) refl
