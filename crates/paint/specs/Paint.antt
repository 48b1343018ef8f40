-- Rules: document 01, "Paint: each covered channel becomes m·old + a·colour in f32. The paint call then updates its row reach in the table."
use Rattle.std.specs.Prelude.{◌≡◌, not, List, [], ◌∷◌, ℕ, length, Float}
use Rattle.float.specs.Within.{within}
use Rattle.refusal.specs.Refusals.{lowest, size_if, length_if, place_if, opacity_if, colour_if, bad_size}
use Rattle.cover.specs.declared.Kind.{Kind}
use Rattle.cover.specs.Cover.{bad_places, reach}
use Rattle.picture.specs.Painting.{painted}
use Rattle.picture.specs.Pixels.{bad_colour}
use Rattle.table.specs.Table.{bad_lengths, Updated}

-- the refusals, by the number of elements of target, canvas and table
unfoldable pub paint_refusal : Kind → Float → Float → Float → Float → ℕ → ℕ → ℕ → ℕ → ℕ → ℕ
paint_refusal kind opacity red green blue w h target canvas table =
    lowest
    (size_if (bad_size w h)
    ∷ length_if (bad_lengths w h target canvas table)
    ∷ place_if (bad_places kind)
    ∷ opacity_if (not (within opacity))
    ∷ colour_if (bad_colour red green blue)
    ∷ [])

-- a taken call: the picture painted, and the table updated for it over the shape's row reach
pub record Painted (kind : Kind) (opacity red green blue : Float) (w h : ℕ) (target canvas table newCanvas newTable : List Float) : Type 0 where
  pub picture : newCanvas ≡ painted kind opacity red green blue w h canvas
  pub sums : Updated w h target newCanvas (reach kind h).first (reach kind h).last table newTable

-- the number r, and of the lent picture and table, as they were and as they are left
pub record PaintSays (kind : Kind) (opacity red green blue : Float) (w h : ℕ) (target canvas table : List Float) (r : ℕ) (newCanvas newTable : List Float) : Type 0 where
  pub answer : r ≡ paint_refusal kind opacity red green blue w h (length target) (length canvas) (length table)
  pub done : r ≡ 0 → Painted kind opacity red green blue w h target canvas table newCanvas newTable
  pub refused : (r ≡ 0 → ⊥) → (newCanvas ≡ canvas) × (newTable ≡ table)
