use mir.Syntax.{w32}
use mir.Val.{SFits}
use mir.Facts.{to_z-of_z}
use lib.IntN.{pos}
use lib.Signed.{lt_z, le_z}
use Rattle.laws.specs.Fit.{lt_true, le_true}
use Rattle.laws.specs.Bools.{and_left, and_right}
use Rattle.paint.specs.PaintLaws.{passed, lengths_none, paint_done, nothing_done}
use borrow.Author.Rules.{rules}
use Rattle.paint.proofs.paint.Goals as goal

-- Where the shape reaches no row nothing was touched; else the tests give what the work asks.

pub row_reach-reach-requires : goal.row_reach-reach-requires
row_reach-reach-requires c = let p = passed _ _ _ _ _ _ _ _ _ _ (c.usual.ensures c.if-usual.true) in record { rows = p.lengths.sizes.h_high; places = p.places }

pub returns-then-last-first : goal.returns-then-last-first
returns-then-last-first c =
    let a = c.args in
    let r = c.row_reach-reach in
    let e = c.usual.ensures c.if-usual.true in
    let p : SFits w32 r.result.first = search rules in
    let q : SFits w32 r.result.last = search rules in
    let t = rw (to_z-of_z p, to_z-of_z q) at c.if-last-first.true in
    paint_done a.kind a.opacity a.colour.red a.colour.green a.colour.blue a.w a.h a.target.now a.canvas.now a.table.now _ _ e
    (nothing_done a.kind a.opacity a.colour.red a.colour.green a.colour.blue a.w a.h a.target.now a.canvas.now a.table.now r.result
    (passed _ _ _ _ _ _ _ _ _ _ e).lengths.canvas-length r.ensures
    (lt_true _ _ (and_left (lt_z r.result.last r.result.first) (le_z (pos 0) r.result.last) t))
    (le_true _ _ (and_right (lt_z r.result.last r.result.first) (le_z (pos 0) r.result.last) t)))

pub paint_both-requires : goal.paint_both-requires
paint_both-requires c =
    let e = c.usual.ensures c.if-usual.true in
    rw c.anew-same.ensures (record { sizes = lengths_none _ _ _ _ _ _ _ _ _ _ e; places = (passed _ _ _ _ _ _ _ _ _ _ e).places })

pub returns-then-usual : goal.returns-then-usual
returns-then-usual c =
    let a = c.args in
    paint_done a.kind a.opacity a.colour.red a.colour.green a.colour.blue a.w a.h a.target.now a.canvas.now a.table.now _ _
    (c.usual.ensures c.if-usual.true) (rw c.anew-same.ensures at c.paint_both.ensures)

pub returns : goal.returns
returns c = rw c.anew-same-2.ensures at c.tested_paint.ensures
