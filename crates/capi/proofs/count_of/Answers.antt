use mathlib.Core.Path.{◌∙◌}
use lib.IntN.{pos}
use mir.Facts.{to_z_pos}
use mir.Syntax.{w64}
use Rattle.laws.specs.Fit.{read}
use Rattle.refusal.specs.Outcomes.{number}
use Rattle.capi.specs.ExportLaws.{exports_value, exports_refusal}
use native.Mathlib.Omega.{arith}
use Rattle.capi.proofs.count_of.Goals as goal

-- A number is the value, a refusal its negative.

pub returns-in-Ok : goal.returns-in-Ok
returns-in-Ok c =
    to_z_pos w64 (omega arith) ∙ exports_value _ _ _ pos c.in-Ok.n (rw c.in-Ok.is at c.count_covered-c.ensures)

pub returns-in-Err : goal.returns-in-Err
returns-in-Err c =
    simp (read w64 c.minus.result c.minus.type_inv) (c.minus.ensures ∙ exports_refusal _ _ _ (number c.in-Err.why) _ (rw c.in-Err.is at c.count_covered-c.ensures))
