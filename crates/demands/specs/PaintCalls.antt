-- Rules: the words of demand 3: paint calls on the same lent slices, a table kept, a row that has not changed, how often a span score sums a pixel.
use Rattle.std.specs.Prelude.{◌≡◌, ◌&&◌, cond, List, ◌⊎◌, ℕ, zero, suc, ◌*◌, ◌≤◌, ◌<◌, T, eqb, ℤ, pos, nat_abs, ◌+ℤ◌, ◌-ℤ◌, ◌<ℤ◌, length, Float}
use Rattle.std.specs.Float.{nan, binary32}
use Rattle.std.specs.Float.Ieee.{fits}
use Rattle.laws.specs.Before.{before}
use Rattle.laws.specs.PixelSums.{span_sum}
use Rattle.laws.specs.RowSums.{picture_of}
use Rattle.float.specs.Within.{all_within}
use Rattle.refusal.specs.Refusals.{Sized}
use Rattle.refusal.specs.Outcomes.{number_of}
use Rattle.cover.specs.declared.Kind.{Kind}
use Rattle.cover.specs.Cover.{covered, reach}
use Rattle.picture.specs.Painting.{painted}
use Rattle.table.specs.Layout.{Series, entry}
use Rattle.table.specs.Table.{Table, BuildSays}
use Rattle.paint.specs.Paint.{paint_refusal, PaintSays}
use Rattle.demands.specs.declared.Call.{Call}
use Rattle.demands.specs.declared.Numbers.{Numbers}

-- ---- a call: its number, and what it promises
abbrev pub call_refusal : Call → List Float → List Float → List Float → ℕ
call_refusal c target canvas table =
    paint_refusal c.kind c.opacity c.colour.red c.colour.green c.colour.blue c.w c.h (length target) (length canvas) (length table)

abbrev pub CallSays : Call → List Float → List Float → List Float → ℕ → List Float → List Float → Type 0
CallSays c target canvas table r newCanvas newTable =
    PaintSays c.kind c.opacity c.colour.red c.colour.green c.colour.blue c.w c.h target canvas table r newCanvas newTable

-- what is lent to be written
pub record State : Type 0 where
  pub canvas : List Float
  pub table : List Float

-- a call leads from s to t, whatever number it gives; its opacity is an f32
pub record Paints (target : List Float) (c : Call) (s t : State) : Type 0 where
  pub single : T (fits binary32 c.opacity)
  pub number : ℕ
  pub says : CallSays c target s.canvas s.table number t.canvas t.table

-- ---- the table equals the one built afresh: a build, over any list of its length, is not refused and leaves this very table
abbrev pub Afresh : ℕ → ℕ → List Float → State → Type 0
Afresh w h target s =
    (other : List Float) (r : ℕ) (left : List Float) → length other ≡ length s.table → BuildSays target s.canvas w h other r left
    → (r ≡ 0) × (left ≡ s.table)

-- what every call keeps: the sizes, pictures within 0..1, the table of the two pictures
pub record Kept (w h : ℕ) (target canvas table : List Float) : Type 0 where
  pub sizes : Sized w h
  pub target_size : length target ≡ h * w * 3
  pub canvas-size : length canvas ≡ h * w * 3
  pub target_within : T (all_within target)
  pub canvas-within : T (all_within canvas)
  pub built : Table w h target canvas table

-- ---- a row y outside the shape's reach in a picture of h rows; a row that has not changed, in picture and table
abbrev pub OutsideReach : Kind → ℕ → ℕ → Type 0
OutsideReach kind h y = (pos y <ℤ (reach kind h).first) ⊎ ((reach kind h).last <ℤ pos y)

pub record SameRow (w y : ℕ) (s t : State) : Type 0 where
  pub picture : (ch x : ℕ) → ch < 3 → x < w → picture_of nan w t.canvas ch y x ≡ picture_of nan w s.canvas ch y x
  pub sums : (series : Series) (ch x : ℕ) → ch < 3 → x ≤ w → entry w t.table series ch y x ≡ entry w s.table series ch y x

-- ---- the pixels that a span score sums: its own rule at whole numbers, f y x the number of pixel x of row y
abbrev pub summed : Kind → ℕ → ℕ → (ℕ → ℕ → ℤ) → ℤ
summed kind w h f = span_sum (pos 0) ◌+ℤ◌ ◌-ℤ◌ (λ y. before (pos 0) ◌+ℤ◌ (f y)) (covered kind) w h

-- how often it sums pixel (x, y): this pixel counts one, every other nothing
abbrev pub only : ℕ → ℕ → ℕ → ℕ → ℤ
only x y j i = cond (eqb j y && eqb i x) (pos 1) (pos 0)

abbrev pub times_summed : Kind → ℕ → ℕ → ℕ → ℕ → ℕ
times_summed kind w h x y = nat_abs (summed kind w h (only x y))

-- n times over
abbrev pub repeated : ℕ → (Float → Float) → Float → Float
repeated zero f v = v
repeated (suc n) f v = f (repeated n f v)

-- ---- two calls, and a build afresh
-- a picture after a call
abbrev pub after_call : Call → List Float → List Float → List Float → List Float
after_call c target canvas table =
    cond (eqb (call_refusal c target canvas table) 0) (painted c.kind c.opacity c.colour.red c.colour.green c.colour.blue c.w c.h canvas) canvas

pub record TwoCallsSays (first second : Call) (w h : ℕ) (target canvas table : List Float) (r : Numbers) (newCanvas newTable newFresh : List Float) : Type 0 where
  pub first-number : number_of r.first ≡ call_refusal first target canvas table
  pub second-number : number_of r.second ≡ call_refusal second target canvas table
  pub afresh_number : number_of r.afresh ≡ 0
  pub picture : newCanvas ≡ after_call second target (after_call first target canvas table) table
  pub kept : Kept w h target newCanvas newTable
  pub afresh : newFresh ≡ newTable
