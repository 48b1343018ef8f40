use mathlib.Core.Path.{◌≡◌, refl, subst, ◌∙◌}
use Prim.Native.Nat.{ℕ, ◌<◌}
use lib.ListN.{length}
use lib.Seq.{slice}
use Rattle.traces.specs.Traces.{RowPainted}
use Rattle.traces.specs.TraceLaws.{row_none, row_more}
use native.Mathlib.Omega.{arith}
use Rattle.traces.proofs.Strokes.paint_row.Goals as goal

-- The loop carries the part painted so far.

pub loop-i-init : goal.loop-i-init
loop-i-init c =
    let a = c.args in
    (refl, c.requires.4, λ l t e. row_none a.w a.h a.y a.from l a.canvas.now)

pub paint_one-requires : goal.paint_one-requires
paint_one-requires c =
    let l = c.loop-i in
    (record { shapes = c.requires.0.shapes; many = omega (arith, c.loop-i-test.true, c.requires.0.many); traced = c.requires.0.traced }, c.requires.1, l.invariant.0 ∙ c.requires.3, l.invariant.1)

pub loop-i-preserved : goal.loop-i-preserved
loop-i-preserved c =
    let l = c.loop-i in
    let a = c.args in
    let t = c.paint_one in (
      t.auto.canvas ∙ l.invariant.0,
      t.ensures.0,
      λ m k e.
          let inside : l.i < length m = omega (arith, c.loop-i-test.true, e) in
          row_more a.w a.h a.y k.sized.w_low c.requires.1 a.from l.i m l.auto.i inside a.canvas.now l.canvas t.new.canvas (l.invariant.2 m k e) (t.ensures.1 m k inside),
    )

pub shape_of-canvas : goal.shape_of-canvas
shape_of-canvas c = c.loop-i.invariant.0

pub returns : goal.returns
returns c =
    let l = c.loop-i in
    let a = c.args in
    let i-end : l.i ≡ a.to = omega arith in
    (l.invariant.1, λ m k e. subst (λ (i : ℕ). RowPainted a.w a.h a.y (slice a.from i m) a.canvas.now l.canvas) i-end (l.invariant.2 m k e))
