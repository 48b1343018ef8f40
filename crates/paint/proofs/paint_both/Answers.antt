use mathlib.Core.Path.{ap, ◌∙◌}
use mir.Syntax.{w32}
use mir.Val.{SFits}
use mir.Facts.{to_z-of_z}
use Rattle.cover.specs.declared.Reach.{Reach}
use borrow.Author.Rules.{rules}
use Rattle.paint.specs.PaintLaws.{lengths_passed, both_done}
use Rattle.paint.proofs.paint_both.Goals as goal

-- `blend_reached` leaves the rule's picture, and the update over the reach is not refused.

pub row_reach-reach-requires : goal.row_reach-reach-requires
row_reach-reach-requires c =
    record { rows = (lengths_passed _ _ _ _ _ c.requires.sizes).sizes.h_high; places = c.requires.places }

pub blend_reached-requires : goal.blend_reached-requires
blend_reached-requires c =
    let l = lengths_passed _ _ _ _ _ c.requires.sizes in
    record { sizes = l.sizes; places = c.requires.places; picture = l.canvas-length; rows = c.row_reach-reach.ensures }

pub returns : goal.returns
returns c =
    let a = c.args in
    let r = c.row_reach-reach in
    let p : SFits w32 r.result.first = search rules in
    let q : SFits w32 r.result.last = search rules in
    both_done a.kind a.opacity a.colour.red a.colour.green a.colour.blue a.w a.h a.target.now a.canvas.now a.table.now _ _ _ _ _ c.requires.sizes
    c.blend_reached.ensures
    (to_z-of_z p ∙ ap (λ (t : Reach). t.first) r.ensures)
    (to_z-of_z q ∙ ap (λ (t : Reach). t.last) r.ensures)
    c.update_canvas_rows.ensures
