-- Rules: the forms in which drawing by a table is proved: the runs and the brushes of shapes, and what is drawn by them. The answer's promise does not rest on them.
use Rattle.std.specs.Prelude.{◌≡◌, List, ℕ, ◌+◌, ◌*◌, ◌≤◌, ◌<◌, T, Float, length, get_or}
use Rattle.std.specs.Float.{nan, binary32}
use Rattle.std.specs.Float.Ieee as ieee
use Rattle.std.proofs.Math.Seq.{slice}
use Rattle.laws.specs.Every.{every}
use Rattle.laws.specs.Runs.{runs_of}
use Rattle.laws.specs.Strokes.{run_left, run_right}
use Rattle.float.specs.Within.{all_within}
use Rattle.refusal.specs.Refusals.{Sized}
use Rattle.cover.specs.Cover.{covered}
use Rattle.brush.specs.declared.Brush.{Brush}
use Rattle.brush.specs.Brushes.{brush_of}
use Rattle.shapes.specs.declared.Shape.{Shape}
use Rattle.shapes.specs.declared.Shapes.{Shapes}
use Rattle.shapes.specs.Blank.{blank}
use Rattle.shapes.specs.Lists.{listed}
use Rattle.shapes.specs.Ranges.{fits}
use Rattle.traces.specs.Refinement.{painted_on}
use Rattle.traces.specs.Scenes.{shape_painted}

-- a list whose shapes can be painted: the tests were passed
pub record Drawable (w h : ℕ) (list : Shapes) : Type 0 where
  pub sized : Sized w h
  pub few : list.count ≤ 64
  pub fitting : T (every fits (listed list))

-- column i of row y, and the brush at i
abbrev pub left_at : List ℕ → ℕ → ℕ → ℕ
left_at runs i y = get_or runs (y * 130 + i * 2) 0

abbrev pub right_at : List ℕ → ℕ → ℕ → ℕ
right_at runs i y = get_or runs (y * 130 + i * 2 + 1) 0

abbrev pub brush_at : List Float → ℕ → Brush
brush_at paints i = record { keep = get_or paints (i * 4) nan; red = get_or paints (i * 4 + 1) nan; green = get_or paints (i * 4 + 2) nan; blue = get_or paints (i * 4 + 3) nan }

-- elements moved up by g, from one place up to k
pub record Moved {A : Type 0} (g from : ℕ) (d : A) (old : List A) (k : ℕ) (new : List A) : Type 0 where
  pub long : length new ≡ length old
  pub moved : (m : ℕ) → from ≤ m → m < k → get_or new m d ≡ get_or old (m + g) d
  pub before : (m : ℕ) → m < from → get_or new m d ≡ get_or old m d
  pub after : (m : ℕ) → k ≤ m → get_or new m d ≡ get_or old m d

-- a column is as it was
abbrev pub SameColumn : List ℕ → List ℕ → ℕ → Type 0
SameColumn old new k = (y : ℕ) → (left_at new k y ≡ left_at old k y) × (right_at new k y ≡ right_at old k y)

-- runs are put into column i, down to row y
pub record ColumnPut (y i : ℕ) (column old new : List ℕ) : Type 0 where
  pub long : length new ≡ length old
  pub left : (z : ℕ) → z < y → left_at new i z ≡ run_left column z
  pub right : (z : ℕ) → z < y → right_at new i z ≡ run_right column z
  pub others : (k : ℕ) → k < 65 → (k ≡ i → ⊥) → SameColumn old new k

-- in row y, and among the brushes: j leaves, and those after it up to n move up
pub record ColumnDropped (j n y : ℕ) (old new : List ℕ) : Type 0 where
  pub left-before : (k : ℕ) → k < j → left_at new k y ≡ left_at old k y
  pub right-before : (k : ℕ) → k < j → right_at new k y ≡ right_at old k y
  pub left_after : (k : ℕ) → j ≤ k → k < n → left_at new k y ≡ left_at old (k + 1) y
  pub right-after : (k : ℕ) → j ≤ k → k < n → right_at new k y ≡ right_at old (k + 1) y

pub record BrushDropped (j n : ℕ) (old new : List Float) : Type 0 where
  pub before : (k : ℕ) → k < j → brush_at new k ≡ brush_at old k
  pub after : (k : ℕ) → j ≤ k → k < n → brush_at new k ≡ brush_at old (k + 1)

-- a shape that fits stands at i
pub record Column (w h : ℕ) (s : Shape) (runs : List ℕ) (paints : List Float) (i : ℕ) : Type 0 where
  pub fitting : T (fits s)
  pub single : T (ieee.fits binary32 s.opacity)
  pub left : (y : ℕ) → y < h → left_at runs i y ≡ run_left (runs_of (covered s.kind) w h) y
  pub right : (y : ℕ) → y < h → right_at runs i y ≡ run_right (runs_of (covered s.kind) w h) y
  pub brush : brush_at paints i ≡ brush_of s.opacity s.red s.green s.blue

-- the shapes of a list stand in the table
pub record Traced (w h : ℕ) (l : List Shape) (runs : List ℕ) (paints : List Float) : Type 0 where
  pub sized : Sized w h
  pub runs_long : length runs ≡ 33280
  pub paints_long : length paints ≡ 260
  pub few : length l ≤ 65
  pub column : (i : ℕ) → i < length l → Column w h (get_or l i blank) runs paints i

-- some n shapes do
pub record Tabled (w h n : ℕ) (runs : List ℕ) (paints : List Float) : Type 0 where
  pub shapes : List Shape
  pub many : n ≤ length shapes
  pub traced : Traced w h shapes runs paints

-- pictures that are the same in the rows from top up to bottom, that one left out
abbrev pub SameRows : ℕ → ℕ → ℕ → List Float → List Float → Type 0
SameRows w top bottom p q = (i : ℕ) → top * w * 3 ≤ i → i < bottom * w * 3 → get_or p i nan ≡ get_or q i nan

-- shapes are painted on row y, and on no other
pub record RowPainted (w h y : ℕ) (l : List Shape) (old new : List Float) : Type 0 where
  pub row : SameRows w y (y + 1) new (painted_on (shape_painted w h) old l)
  pub above : SameRows w 0 y new old
  pub below : SameRows w (y + 1) h new old

-- ---- what the functions promise. Tables and pictures: before, then after

-- s stands at i, and what stands elsewhere is as it was
abbrev pub TraceSays : ℕ → ℕ → Shape → ℕ → List ℕ → List Float → List ℕ → List Float → Type 0
TraceSays w h s i runs paints runs' paints' =
    (length runs' ≡ 33280)
    × (length paints' ≡ 260)
    × Column w h s runs' paints' i
    × ((k : ℕ) → k < 65 → (k ≡ i → ⊥) → SameColumn runs runs' k × (brush_at paints' k ≡ brush_at paints k))

abbrev pub TraceListSays : ℕ → ℕ → Shapes → List ℕ → List Float → Type 0
TraceListSays w h list runs' paints' = Traced w h (listed list) runs' paints'

-- j leaves, and those after it up to n move up
abbrev pub DropColumnSays : ℕ → ℕ → ℕ → List ℕ → List Float → List ℕ → List Float → Type 0
DropColumnSays h j n runs paints runs' paints' =
    (length runs' ≡ 33280)
    × (length paints' ≡ 260)
    × ((y : ℕ) → y < h → ColumnDropped j n y runs runs')
    × BrushDropped j n paints paints'

-- whatever shapes stand in the table: those from `from` up to `to` are painted on row y
abbrev pub PaintRowSays : ℕ → ℕ → ℕ → ℕ → ℕ → List ℕ → List Float → List Float → List Float → Type 0
PaintRowSays w h y from to runs paints canvas canvas' =
    T (all_within canvas')
    × ((l : List Shape) → Traced w h l runs paints → to ≤ length l → RowPainted w h y (slice from to l) canvas canvas')

-- and on all rows
abbrev pub PaintAllSays : ℕ → ℕ → ℕ → ℕ → List ℕ → List Float → List Float → List Float → Type 0
PaintAllSays w h from to runs paints canvas canvas' =
    T (all_within canvas')
    × ((l : List Shape) → Traced w h l runs paints → to ≤ length l → canvas' ≡ painted_on (shape_painted w h) canvas (slice from to l))
