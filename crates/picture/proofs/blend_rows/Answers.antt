use mathlib.Core.Path.{◌≡◌, refl, sym, ap, ◌∙◌}
use native.Mathlib.Nat.{mul-le-mul}
use Prim.Native.Nat.{ℕ, ◌+◌, ◌*◌, ◌≤◌, ◌<◌}
use lib.ListN.{length}
use Rattle.laws.specs.RowLaws.{row-le}
use Rattle.laws.specs.Strokes.{run_left, run_right}
use Rattle.picture.specs.Strokes.{brushed_rows}
use Rattle.picture.specs.PaintingLaws.{length-rows, rows_none, rows_more}
use native.Mathlib.Omega.{arith}
use Rattle.picture.proofs.blend_rows.Goals as goal
use Rattle.picture.proofs.blend_rows.Goals.{In-loop-y, Start}

-- The rows passed are painted.

pub loop-y-init : goal.loop-y-init
loop-y-init c =
    let a = c.args in
    (omega arith, c.requires.rows.ordered, rows_none a.brush a.runs.now a.rows.top a.w a.h a.canvas.now c.requires.picture, c.requires.picture)

-- a row of the loop lies in the picture, and its run in the row
module _ (c : In-loop-y) where
  abbrev start : Start
  start = c.before.before.before

  in_picture : c.loop-y.y < start.args.h
  in_picture = start.requires.rows.inside c.loop-y.y c.loop-y-test.true c.loop-y.invariant.0

  in_row : (run_left start.args.runs.now c.loop-y.y ≤ run_right start.args.runs.now c.loop-y.y) × (run_right start.args.runs.now c.loop-y.y ≤ start.args.w)
  in_row = start.requires.runs c.loop-y.y in_picture

  fits : c.loop-y.y * start.args.w ≤ 65536
  fits =
      let l : c.loop-y.y ≤ 256 = omega (arith, in_picture, start.requires.sizes.h_high) in
      mul-le-mul l start.requires.sizes.w_high

pub overflow_mul-left : goal.overflow_mul-left
overflow_mul-left c = omega (arith, in_picture (goal.at.overflow_mul-left c).In-loop-y, (start (goal.at.overflow_mul-left c).In-loop-y).requires.sizes.h_high)

pub offset_bounds-runs-y : goal.offset_bounds-runs-y
offset_bounds-runs-y c = omega (arith, in_picture (goal.at.offset_bounds-runs-y c).In-loop-y, (start (goal.at.offset_bounds-runs-y c).In-loop-y).requires.sizes.h_high)

pub bounds-runs-y : goal.bounds-runs-y
bounds-runs-y c = omega (arith, in_picture (goal.at.bounds-runs-y c).In-loop-y, (start (goal.at.bounds-runs-y c).In-loop-y).requires.sizes.h_high)

pub overflow_cast-left : goal.overflow_cast-left
overflow_cast-left c =
    let o = in_row (goal.at.overflow_cast-left c).In-loop-y in
    omega (arith, o.0, o.1, (start (goal.at.overflow_cast-left c).In-loop-y).requires.sizes.w_high)

pub overflow_mul-right : goal.overflow_mul-right
overflow_mul-right c = omega (arith, in_picture (goal.at.overflow_mul-right c).In-loop-y, (start (goal.at.overflow_mul-right c).In-loop-y).requires.sizes.h_high)

pub overflow_add-right : goal.overflow_add-right
overflow_add-right c = omega (arith, in_picture (goal.at.overflow_add-right c).In-loop-y, (start (goal.at.overflow_add-right c).In-loop-y).requires.sizes.h_high)

pub offset_bounds-runs-y-in-loop-y : goal.offset_bounds-runs-y-in-loop-y
offset_bounds-runs-y-in-loop-y c = omega (arith, in_picture (goal.at.offset_bounds-runs-y-in-loop-y c).In-loop-y, (start (goal.at.offset_bounds-runs-y-in-loop-y c).In-loop-y).requires.sizes.h_high)

pub bounds-runs-y-in-loop-y : goal.bounds-runs-y-in-loop-y
bounds-runs-y-in-loop-y c = omega (arith, in_picture (goal.at.bounds-runs-y-in-loop-y c).In-loop-y, (start (goal.at.bounds-runs-y-in-loop-y c).In-loop-y).requires.sizes.h_high)

pub overflow_cast-right : goal.overflow_cast-right
overflow_cast-right c =
    let o = in_row (goal.at.overflow_cast-right c).In-loop-y in
    omega (arith, o.1, (start (goal.at.overflow_cast-right c).In-loop-y).requires.sizes.w_high)

pub overflow_mul-y : goal.overflow_mul-y
overflow_mul-y c = omega (arith, fits (goal.at.overflow_mul-y c).In-loop-y)

pub blend_row-requires : goal.blend_row-requires
blend_row-requires c =
    let o = in_row (goal.at.blend_row-requires c).In-loop-y in
    (o.0, omega (arith, o.1, row-le (start (goal.at.blend_row-requires c).In-loop-y).args.w (in_picture (goal.at.blend_row-requires c).In-loop-y), c.loop-y.invariant.3))

pub loop-y-preserved : goal.loop-y-preserved
loop-y-preserved c =
    let s = start (goal.at.loop-y-preserved c).In-loop-y in
    let a = s.args in
    let y = c.loop-y.y in
    let step = c.blend_row.ensures
    ∙ rows_more a.brush a.runs.now a.rows.top a.w a.h a.canvas.now y (run_left a.runs.now y) (run_right a.runs.now y) c.loop-y.canvas
    s.requires.picture c.loop-y.invariant.0 (in_picture (goal.at.loop-y-preserved c).In-loop-y) s.requires.runs refl refl c.loop-y.invariant.2 in (
      omega (arith, c.loop-y.invariant.0),
      omega (arith, c.loop-y-test.true),
      step,
      ap length step ∙ length-rows a.brush a.runs.now a.rows.top a.w a.h a.canvas.now (y + 1),
    )

pub shape_of-canvas : goal.shape_of-canvas
shape_of-canvas c = c.loop-y.invariant.3 ∙ sym c.requires.picture

pub returns : goal.returns
returns c =
    let l = c.loop-y in
    let a = c.args in
    let e : l.y ≡ a.rows.bottom = omega arith in
    l.invariant.2 ∙ ap (λ (y : ℕ). brushed_rows a.brush a.runs.now a.rows.top y a.w a.h a.canvas.now) e
