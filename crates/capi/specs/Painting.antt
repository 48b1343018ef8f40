-- Rules: the export of the paint call. A shape crosses as a slice of coordinates; another length than 3, 6, 8 is refusal 2.
use Rattle.std.specs.Prelude.{◌≡◌, List, ℕ, ℤ, Float, Option, None, Some}
use Rattle.cover.specs.declared.Kind.{Kind}
use Rattle.paint.specs.Paint.{PaintSays}
use Rattle.crossing.specs.Outlines.{kind_of}
use Rattle.capi.specs.Answers.{shapeless}

-- the number r, and of the lent picture and table, as they were and as they are left
abbrev pub Paints : Option Kind → Float → Float → Float → Float → ℕ → ℕ → List Float → List Float → List Float → ℕ → List Float → List Float → Type 0
Paints None opacity red green blue w h target canvas table r newCanvas newTable =
    (r ≡ shapeless w h) × (newCanvas ≡ canvas) × (newTable ≡ table)
Paints (Some kind) opacity red green blue w h target canvas table r newCanvas newTable =
    PaintSays kind opacity red green blue w h target canvas table r newCanvas newTable

abbrev pub SillbadgerPaintSays : ℕ → ℕ → List ℤ → Float → Float → Float → Float → List Float → List Float → List Float → ℕ → List Float → List Float → Type 0
SillbadgerPaintSays w h shape opacity red green blue target canvas table r newCanvas newTable =
    Paints (kind_of shape) opacity red green blue w h target canvas table r newCanvas newTable
