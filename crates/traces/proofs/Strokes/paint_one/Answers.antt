use mathlib.Core.Path.{◌≡◌}
use mathlib.Core.List.{List, [], ◌∷◌}
use Prim.Native.Nat.{◌+◌, ◌*◌, ◌≤◌, ◌<◌}
use lib.Ieee.{Float}
use lib.ListN.{get_or}
use native.Mathlib.Nat.{mul-le-mul}
use Rattle.laws.specs.RowLaws.{row-le}
use Rattle.picture.specs.Strokes.{brushed_part}
use Rattle.picture.specs.PaintingLaws.{runs-within}
use Rattle.shapes.specs.declared.Shape.{Shape}
use Rattle.shapes.specs.Blank.{blank}
use Rattle.traces.specs.Traces.{left_at, right_at, brush_at, Column, RowPainted}
use Rattle.traces.specs.TraceLaws.{stroke_painted, none_painted, row_within}
use native.Mathlib.Omega.{arith}
use Rattle.traces.proofs.Strokes.paint_one.Goals as goal
use Rattle.traces.proofs.Strokes.paint_one.Goals.{Start}

-- A column of the table has a run within its row: it is brushed, or empty.

module _ (s : Start) where
  abbrev shape : Shape
  shape = get_or s.requires.0.shapes s.args.i blank

  column : Column s.args.w s.args.h shape s.args.self.now.runs s.args.self.now.paints s.args.i
  column = s.requires.0.traced.column s.args.i (omega (arith, s.requires.0.many))

  few : s.args.i < 65
  few = omega (arith, s.requires.0.many, s.requires.0.traced.few)

  low : s.args.y < 256
  low = omega (arith, s.requires.1, s.requires.0.traced.sized.h_high)

  bounds : (left_at s.args.self.now.runs s.args.i s.args.y ≤ right_at s.args.self.now.runs s.args.i s.args.y) × (right_at s.args.self.now.runs s.args.i s.args.y ≤ s.args.w)
  bounds =
      let b = runs-within shape.kind s.args.w s.args.h s.requires.0.traced.sized s.args.y s.requires.1 in
      (omega (arith, b.0, column.left s.args.y s.requires.1, column.right s.args.y s.requires.1), omega (arith, b.1, column.right s.args.y s.requires.1))

  painted : (new : List Float) → new ≡ brushed_part (brush_at s.args.self.now.paints s.args.i) ((s.args.y * s.args.w + left_at s.args.self.now.runs s.args.i s.args.y) * 3) ((s.args.y * s.args.w + right_at s.args.self.now.runs s.args.i s.args.y) * 3) s.args.canvas.now
      → (x : Shape) → Column s.args.w s.args.h x s.args.self.now.runs s.args.self.now.paints s.args.i → RowPainted s.args.w s.args.h s.args.y (x ∷ []) s.args.canvas.now new
  painted new e x k =
      let a = s.args in
      stroke_painted a.w a.h a.y s.requires.0.traced.sized s.requires.1 x a.canvas.now s.requires.2 (brush_at a.self.now.paints a.i) (left_at a.self.now.runs a.i a.y) (right_at a.self.now.runs a.i a.y) new k.brush (k.left a.y s.requires.1) (k.right a.y s.requires.1) e

pub overflow_mul-left : goal.overflow_mul-left
overflow_mul-left c = omega (arith, low (goal.at.overflow_mul-left c).Start)

pub overflow_mul-left-2 : goal.overflow_mul-left-2
overflow_mul-left-2 c = omega (arith, few (goal.at.overflow_mul-left-2 c).Start)

pub overflow_add-left : goal.overflow_add-left
overflow_add-left c = omega (arith, low (goal.at.overflow_add-left c).Start, few (goal.at.overflow_add-left c).Start)

pub offset_bounds-self-y : goal.offset_bounds-self-y
offset_bounds-self-y c = omega (arith, low (goal.at.offset_bounds-self-y c).Start, few (goal.at.offset_bounds-self-y c).Start)

pub bounds-self-y : goal.bounds-self-y
bounds-self-y c = omega (arith, low (goal.at.bounds-self-y c).Start, few (goal.at.bounds-self-y c).Start)

pub overflow_cast-left : goal.overflow_cast-left
overflow_cast-left c = omega (arith, (bounds (goal.at.overflow_cast-left c).Start).0, (bounds (goal.at.overflow_cast-left c).Start).1, c.requires.0.traced.sized.w_high)

pub overflow_mul-right : goal.overflow_mul-right
overflow_mul-right c = omega (arith, low (goal.at.overflow_mul-right c).Start)

pub overflow_mul-right-2 : goal.overflow_mul-right-2
overflow_mul-right-2 c = omega (arith, few (goal.at.overflow_mul-right-2 c).Start)

pub overflow_add-right : goal.overflow_add-right
overflow_add-right c = omega (arith, low (goal.at.overflow_add-right c).Start, few (goal.at.overflow_add-right c).Start)

pub overflow_add-right-2 : goal.overflow_add-right-2
overflow_add-right-2 c = omega (arith, low (goal.at.overflow_add-right-2 c).Start, few (goal.at.overflow_add-right-2 c).Start)

pub offset_bounds-self-y-2 : goal.offset_bounds-self-y-2
offset_bounds-self-y-2 c = omega (arith, low (goal.at.offset_bounds-self-y-2 c).Start, few (goal.at.offset_bounds-self-y-2 c).Start)

pub bounds-self-y-2 : goal.bounds-self-y-2
bounds-self-y-2 c = omega (arith, low (goal.at.bounds-self-y-2 c).Start, few (goal.at.bounds-self-y-2 c).Start)

pub overflow_cast-right : goal.overflow_cast-right
overflow_cast-right c = omega (arith, (bounds (goal.at.overflow_cast-right c).Start).1, c.requires.0.traced.sized.w_high)

pub overflow_mul-y : goal.overflow_mul-y
overflow_mul-y c = let l : c.args.y ≤ 256 = omega (arith, low (goal.at.overflow_mul-y c).Start) in omega (arith, mul-le-mul l c.requires.0.traced.sized.w_high)

pub stroke-requires : goal.stroke-requires
stroke-requires c = (few (goal.at.stroke-requires c).Start, (bounds (goal.at.stroke-requires c).Start).0, omega (arith, (bounds (goal.at.stroke-requires c).Start).1, row-le c.args.w c.requires.1, c.requires.2))

pub returns-then-left-right : goal.returns-then-left-right
returns-then-left-right c =
    let a = c.args in
    let t = c.stroke in
    let z = c.requires.0.traced.sized in
    let new = t.new.canvas in (
      row_within a.w a.h a.y z c.requires.1 (shape (goal.at.returns-then-left-right c).Start) a.canvas.now c.requires.2 t.new.canvas t.auto.canvas (column (goal.at.returns-then-left-right c).Start).fitting (column (goal.at.returns-then-left-right c).Start).single c.requires.3 (painted (goal.at.returns-then-left-right c).Start new t.ensures (shape (goal.at.returns-then-left-right c).Start) (column (goal.at.returns-then-left-right c).Start)),
      λ l k e. painted (goal.at.returns-then-left-right c).Start new t.ensures (get_or l a.i blank) (k.column a.i e),
    )

pub returns-else-left-right : goal.returns-else-left-right
returns-else-left-right c =
    let a = c.args in (
      c.requires.3,
      λ l k e.
          let o = k.column a.i e in
          none_painted a.w a.h a.y c.requires.0.traced.sized c.requires.1 (get_or l a.i blank) a.canvas.now c.requires.2 (omega (arith, c.if-left-right.false, o.left a.y c.requires.1, o.right a.y c.requires.1)),
    )
