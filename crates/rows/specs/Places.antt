-- Rules: what the row routines leave in a row's part of the table, as they write it: w + 1 places, fifteen numbers each.
-- `table` shows that this is document 01's rule, number by number; nothing above it names this file.
use Rattle.std.specs.Prelude.{◌≡◌, Bool, cond, List, [], ◌∷◌, ◌++◌, ℕ, ◌+◌, ◌*◌, ◌≤◌, length, take, get_or, Float}
use Rattle.std.specs.Float.{nan}
use Rattle.laws.specs.Before.{before}
use Rattle.laws.specs.Rows.{put_rows}
use Rattle.sums.specs.declared.ShapeSums.{ShapeSums}
use Rattle.sums.specs.Sums.{channel, no_sums, pixel_sums, plus}

-- a row of each picture and of the table
pub record RowSizes (w : ℕ) (target canvas row : List Float) : Type 0 where
  pub narrow : w ≤ 256
  pub targets : length target ≡ w * 3
  pub canvases : length canvas ≡ w * 3
  pub places : length row ≡ (w + 1) * 15

-- pixel x of a row, and the sums of the pixels before it
abbrev pub pixel_at : List Float → List Float → ℕ → ShapeSums
pixel_at target canvas x =
    pixel_sums (get_or target (x * 3) nan) (get_or target (x * 3 + 1) nan) (get_or target (x * 3 + 2) nan)
    (get_or canvas (x * 3) nan) (get_or canvas (x * 3 + 1) nan) (get_or canvas (x * 3 + 2) nan)

unfoldable pub sums_at : List Float → List Float → ℕ → ShapeSums
sums_at target canvas x = before no_sums plus (pixel_at target canvas) x

-- the numbers of a place in the table's order: target, target²; canvas, canvas², target·canvas
abbrev pub all3 : List Float → List Float
all3 a = channel a 0 ∷ channel a 1 ∷ channel a 2 ∷ []

abbrev pub target_six : ShapeSums → List Float
target_six s = all3 s.s_t ++ all3 s.s_t2

abbrev pub canvas_nine : ShapeSums → List Float
canvas_nine s = all3 s.s_c ++ all3 s.s_c2 ++ all3 s.s_tc

-- place x: all fifteen, whatever they were; or of the old the target's six
unfoldable pub place_at : Bool → List Float → List Float → ℕ → List Float → List Float
place_at whole target canvas x old = cond whole (target_six (sums_at target canvas x)) (take 6 old) ++ canvas_nine (sums_at target canvas x)

-- a row, place by place
abbrev pub row_of : Bool → ℕ → List Float → List Float → List Float → List Float
row_of whole w target canvas row = put_rows 15 (place_at whole target canvas) 0 (w + 1) row

-- what the routine promises
abbrev pub RebuildRowSays : Bool → ℕ → List Float → List Float → List Float → List Float → Type 0
RebuildRowSays whole w target canvas old new = new ≡ row_of whole w target canvas old
