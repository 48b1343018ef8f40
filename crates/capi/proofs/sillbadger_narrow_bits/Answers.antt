use mathlib.Core.Path.{ap, ◌∙◌}
use native.Mathlib.Omega.{arith}
use lib.IntN.{pos}
use mir.Facts.{to_z_pos}
use mir.Syntax.{w64}
use Rattle.capi.proofs.sillbadger_narrow_bits.Goals as goal

-- What `narrow_bits` promises, as a signed number.

pub returns : goal.returns
returns c = to_z_pos w64 (omega (arith, c.narrow_bits)) ∙ ap pos c.narrow_bits.ensures
