use mathlib.Core.Path.{◌≡◌, refl, subst, ◌∙◌}
use Prim.Native.Nat.{ℕ}
use lib.Seq.{slice}
use Rattle.traces.specs.Refinement.{painted_on}
use Rattle.traces.specs.Scenes.{shape_painted}
use Rattle.traces.specs.DrawingLaws.{same_whole, painted_on-length}
use Rattle.traces.specs.TraceLaws.{RowsPainted, rows_painted_none, rows_painted_more}
use native.Mathlib.Omega.{arith}
use Rattle.traces.proofs.Strokes.paint_all.Goals as goal

-- The rows passed are painted.

pub loop-y-init : goal.loop-y-init
loop-y-init c =
    let a = c.args in
    (refl, c.requires.3, λ l t e. rows_painted_none a.w a.h (slice a.from a.to l) a.canvas.now)

pub paint_row-requires : goal.paint_row-requires
paint_row-requires c =
    let l = c.loop-y in
    (c.requires.0, c.loop-y-test.true, c.requires.1, l.invariant.0 ∙ c.requires.2, l.invariant.1)

pub loop-y-preserved : goal.loop-y-preserved
loop-y-preserved c =
    let l = c.loop-y in
    let a = c.args in
    let t = c.paint_row in
    let below = c.loop-y-test.true in (
      t.auto.canvas ∙ l.invariant.0,
      t.ensures.0,
      λ m k e. rows_painted_more a.w a.h l.y k.sized.w_low below (slice a.from a.to m) a.canvas.now l.canvas t.new.canvas (l.invariant.2 m k e) (t.ensures.1 m k e),
    )

pub shape_of-canvas : goal.shape_of-canvas
shape_of-canvas c = c.loop-y.invariant.0

pub returns : goal.returns
returns c =
    let l = c.loop-y in
    let a = c.args in
    let y-end : l.y ≡ a.h = omega arith in (
      l.invariant.1,
      λ m k e.
          same_whole a.w a.h l.canvas (painted_on (shape_painted a.w a.h) a.canvas.now (slice a.from a.to m)) (l.invariant.0 ∙ c.requires.2) (painted_on-length a.w a.h (slice a.from a.to m) a.canvas.now c.requires.2)
          (subst (λ (y : ℕ). RowsPainted a.w a.h y (slice a.from a.to m) a.canvas.now l.canvas) y-end (l.invariant.2 m k e)).done,
    )
