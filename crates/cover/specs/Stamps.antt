-- Rules: the covered pixels of a tiny shape as a stamp: eight rows of eight pixels, as the binary digits of a number.
use Rattle.std.specs.Prelude.{◌≡◌, ℕ, ◌+◌, ℤ, pos, ◌≤ℤ◌, ◌<ℤ◌, Option, IfSome}
use Rattle.polygon.specs.Polygon.{least_of, greatest_of}
use Rattle.polygon.specs.OneRow.{four}
use Rattle.stamp.specs.Stamp.{stamp_of}
use Rattle.stamp.specs.Digits.{InWindow}
use Rattle.cover.specs.declared.Kind.{Kind}
use Rattle.cover.specs.Cover.{covered}
use Rattle.cover.specs.ReachRows.{rows_of, turned}

-- the stamp's pixels are the covered ones, no covered pixel lies elsewhere, and all lie in the picture
pub record Stamped (kind : Kind) (left top w h r : ℕ) : Type 0 where
  pub is : r ≡ stamp_of (covered kind) left top
  pub window : InWindow (covered kind) left top w h

-- of a stamp that is known; that none is known is an answer for any shape
abbrev pub StampSays : Kind → ℕ → ℕ → ℕ → ℕ → Option ℕ → Type 0
StampSays kind left top w h r = IfSome r (Stamped kind left top w h)

-- the first column of the reach is the first row of the turned shape's
abbrev pub FirstColumnSays : Kind → ℕ → ℕ → Type 0
FirstColumnSays kind w r = r ≡ (rows_of (turned kind) w).top

-- rows first to last lie among eight from `from` on, and among n
pub record Among (first last : ℤ) (from n : ℕ) : Type 0 where
  pub low : pos from ≤ℤ first
  pub high : last ≤ℤ pos (from + 7)
  pub inside : last <ℤ pos n

-- four corners lie among eight columns from left on and eight rows from top on, in the picture
pub record Framed (x0 y0 x1 y1 x2 y2 x3 y3 : ℤ) (left top w h : ℕ) : Type 0 where
  pub columns : Among (least_of (four x0 x1 x2 x3)) (greatest_of (four x0 x1 x2 x3)) left w
  pub rows : Among (least_of (four y0 y1 y2 y3)) (greatest_of (four y0 y1 y2 y3)) top h
