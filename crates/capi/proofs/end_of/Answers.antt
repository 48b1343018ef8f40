use borrow.Author.Rules.{rules}
use Rattle.std.specs.Prelude.{Some, None}
use mathlib.Core.Path.{◌≡◌, refl, sym, ap, ◌∙◌}
use mathlib.Core.Bool.{Bool, true, false}
use lib.IntN.{negsuc}
use mir.Facts.{to_z_pos, to_z-of_z}
use mir.Syntax.{w64}
use Rattle.laws.specs.Fit.{read}
use Rattle.laws.specs.Ends.{none, ends}
use Rattle.refusal.specs.Outcomes.{number, outcome}
use Rattle.cover.specs.Answers.{RowEndsSays}
use Rattle.capi.specs.Exports.{end_of}
use Rattle.capi.specs.ExportLaws.{exports_value, exports_refusal}
use native.Mathlib.Omega.{arith}
use Rattle.capi.proofs.end_of.Goals as goal
use Rattle.capi.proofs.end_of.Goals.{After-row_ends-e}

-- A span end is the value, a row without one has -9, a refusal is its negative.

-- what `row_ends` promises of the row that was asked for
told : (q : After-row_ends-e)
    → RowEndsSays q.args.kind q.args.w q.args.h q.args.y (outcome q.row_ends-e.result)
told q = simp (to_z-of_z, q.ranges.y) at q.row_ends-e.ensures

no_end : (b : Bool) → negsuc 8 ≡ end_of b none
no_end false = refl
no_end true = refl

pub returns-then-last : goal.returns-then-last
returns-then-last c =
    let k = c.in-Ok-Some in
    let w : k.field-0 ≡ Some k.columns = search rules in
    let last = c.args.last in
    to_z_pos w64 (omega arith) ∙ sym (ap (λ (b : Bool). end_of b (ends k.columns.first k.columns.last)) c.if-last.true)
    ∙ exports_value _ _ _ (end_of last) (ends k.columns.first k.columns.last) (rw (k.is, w) at (told (goal.at.returns-then-last c).After-row_ends-e))

pub returns-else-last : goal.returns-else-last
returns-else-last c =
    let k = c.in-Ok-Some in
    let w : k.field-0 ≡ Some k.columns = search rules in
    let last = c.args.last in
    to_z_pos w64 (omega arith) ∙ sym (ap (λ (b : Bool). end_of b (ends k.columns.first k.columns.last)) c.if-last.false)
    ∙ exports_value _ _ _ (end_of last) (ends k.columns.first k.columns.last) (rw (k.is, w) at (told (goal.at.returns-else-last c).After-row_ends-e))

pub returns-in-Ok-None : goal.returns-in-Ok-None
returns-in-Ok-None c =
    let k = c.in-Ok-None in
    let w : k.field-0 ≡ None = search rules in
    let last = c.args.last in
    no_end last ∙ exports_value _ _ _ (end_of last) none (rw (k.is, w) at (told (goal.at.returns-in-Ok-None c).After-row_ends-e))

pub returns-in-Err : goal.returns-in-Err
returns-in-Err c =
    simp (read w64 c.minus.result c.minus.type_inv) (c.minus.ensures ∙ exports_refusal _ _ _ (number c.in-Err.why) _ (rw c.in-Err.is at (told (goal.at.returns-in-Err c).After-row_ends-e)))
