use mathlib.Core.Path.{refl}
use Rattle.laws.specs.Blank.{blank}
use Rattle.picture.specs.PaintingLaws.{runs-within, rows_within, painted-is, painted-none}
use Rattle.picture.proofs.blend.Goals as goal

-- The runs are those of the covered pixels, and the rows those of the reach: so what the rows leave is the rule.

pub returns-then-rows : goal.returns-then-rows
returns-then-rows c =
    let a = c.args in
    painted-none a.kind a.opacity a.colour.red a.colour.green a.colour.blue a.w a.h a.canvas.now c.requires.sizes c.reach_rows-rows.result c.requires.picture c.reach_rows-rows.ensures c.if-rows.true

pub runs-requires : goal.runs-requires
unfolding blank
runs-requires c =
    record { sizes = c.requires.sizes; places = c.requires.places; blank = refl }

pub blend_rows-requires : goal.blend_rows-requires
blend_rows-requires c =
    let a = c.args in
    record {
      sizes = c.requires.sizes;
      rows = rw c.reach_rows-rows.ensures (rows_within a.kind a.w a.h c.requires.sizes);
      runs = rw c.runs.ensures (runs-within a.kind a.w a.h c.requires.sizes);
      picture = c.requires.picture;
    }

pub returns : goal.returns
returns c =
    let a = c.args in
    painted-is a.kind a.opacity a.colour.red a.colour.green a.colour.blue a.w a.h a.canvas.now c.requires.sizes _ _ _ _
    c.brush_of-brush.ensures
    c.runs.ensures
    c.reach_rows-rows.ensures
    c.blend_rows.ensures
