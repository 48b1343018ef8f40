use mathlib.Core.Path.{ap, ◌∙◌}
use mir.Syntax.{w32}
use mir.Val.{SFits}
use mir.Facts.{to_z-of_z}
use Rattle.cover.specs.declared.Reach.{Reach}
use Rattle.session.specs.SheetLaws.{painted_sheet}
use borrow.Author.Rules.{rules}
use Rattle.session.proofs.sheet.paint.Goals as goal

-- `session::sheet::paint` meets its contract: the rows that the update spares have no pixel of the shape.

pub returns : goal.returns
returns c =
    let a = c.args in
    let r = c.row_reach-reach in
    let p : SFits w32 r.result.first = search rules in
    let q : SFits w32 r.result.last = search rules in (
      c.blend.ensures,
      painted_sheet a.kind a.opacity a.s.red a.s.green a.s.blue a.w a.h a.target.now a.canvas.now a.table.now c.requires.sheet _ _ _
          c.blend.ensures
          (rw (to_z-of_z p ∙ ap (λ (z : Reach). z.first) r.ensures, to_z-of_z q ∙ ap (λ (z : Reach). z.last) r.ensures) at c.update_canvas_rows.ensures),
      c.total_any.ensures,
    )
