-- Rules: the form in which the loops over rows are proved: what a row's part of the table becomes. `TableLaws` turns it into the rule.
use Rattle.std.specs.Prelude.{◌≡◌, Bool, true, List, ℕ, ◌+◌, ◌*◌, ◌≤◌, ◌<◌, T, length, get_or, Float}
use Rattle.std.specs.Float.{nan}
use Rattle.laws.specs.Rows.{cut}
use Rattle.float.specs.Within.{number, all_numbers}
use Rattle.rows.specs.Places.{row_of}

-- the sizes that the tests let pass
pub record Sizes (w h : ℕ) (target canvas table : List Float) : Type 0 where
  pub narrow : w ≤ 256
  pub low : h ≤ 256
  pub targets : length target ≡ h * (w * 3)
  pub canvases : length canvas ≡ h * (w * 3)
  pub places : length table ≡ h * ((w + 1) * 15)

-- row y of the table from row y of the pictures: all fifteen sums, or the nine that read the canvas
unfoldable pub row_at : Bool → ℕ → List Float → List Float → ℕ → List Float → List Float
row_at whole w target canvas y row = row_of whole w (cut (w * 3) y target) (cut (w * 3) y canvas) row

-- some numbers of both pictures, none of them a NaN
abbrev pub NumbersBetween : ℕ → ℕ → List Float → List Float → Type 0
NumbersBetween from to target canvas = (k : ℕ) → from ≤ k → k < to → T (number (get_or target k nan)) × T (number (get_or canvas k nan))

-- row y of both, where it is said that it has none
abbrev pub RowNumbers : Bool → ℕ → ℕ → List Float → List Float → Type 0
RowNumbers numbers n y target canvas = numbers ≡ true → T (all_numbers (cut n y target)) × T (all_numbers (cut n y canvas))
