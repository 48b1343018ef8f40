use mir.Syntax.{w32}
use mir.Val.{SFits}
use mir.Facts.{to_z-of_z}
use Rattle.laws.specs.Fit.{le_false}
use borrow.Author.Rules.{rules}
use Rattle.paint.specs.PaintLaws.{painted-empty}
use Rattle.paint.proofs.blend_reached.Goals as goal

-- Where the reach is empty no pixel is covered, and the picture stays (`painted-empty`).

pub returns-else-first-last : goal.returns-else-first-last
returns-else-first-last c =
    let a = c.args in
    let p : SFits w32 a.reach.first = search rules in
    let q : SFits w32 a.reach.last = search rules in
    painted-empty a.kind a.opacity a.colour.red a.colour.green a.colour.blue a.w a.h a.canvas.now a.reach c.requires.picture c.requires.rows
    (le_false _ _ (rw (to_z-of_z p, to_z-of_z q) at c.if-first-last.false))
