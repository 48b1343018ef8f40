-- Rules: document 01, "The table and its update", and what its calls promise.
use Rattle.std.specs.Prelude.{◌≡◌, Bool, not, ◌&&◌, ◌||◌, List, [], ◌∷◌, ℕ, ◌+◌, ◌*◌, ℤ, pos, length, Float}
use Rattle.std.specs.Int.Signed.{le_z, lt_z}
use Rattle.std.specs.Float.{nan}
use Rattle.laws.specs.F64.{◌⊕◌, ◌⊗◌}
use Rattle.laws.specs.RowSums.{Summing, Picture, picture_of, TargetPart, CanvasPart, TargetKept, CanvasRedone}
use Rattle.float.specs.Within.{nought, all_within}
use Rattle.refusal.specs.Refusals.{lowest, size_if, length_if, pixel_if, bad_size}
use Rattle.refusal.specs.Lengths.{bad_picture, bad_table}
use Rattle.sums.specs.declared.ShapeSums.{ShapeSums}
use Rattle.sums.specs.Sums.{plus, minus}
use Rattle.table.specs.Layout.{of_target, of_canvas, entry, place_of}

-- sums in f64 of values in f32, from +0: a widened value is the value, and each operation rounds once
abbrev pub f64_sums : Summing Float Float
f64_sums = record { none = nought; plus = ◌⊕◌; times = ◌⊗◌; widened = λ x. x }

abbrev pub picture : ℕ → List Float → Picture Float
picture w p = picture_of nan w p

-- the table of target and canvas
pub record Table (w h : ℕ) (target canvas table : List Float) : Type 0 where
  pub size : length table ≡ h * (w + 1) * 15
  pub targets : TargetPart f64_sums w h (picture w target) (λ s. entry w table (of_target s))
  pub canvases : CanvasPart f64_sums w h (picture w target) (picture w canvas) (λ s. entry w table (of_canvas s))

-- the rows of an update: from max(ymin, 0) to min(ymax, h-1), and to the last row where ymax is negative
unfoldable pub redone : ℤ → ℤ → ℕ → Bool
redone ymin ymax y = le_z ymin (pos y) && (lt_z ymax (pos 0) || le_z (pos y) ymax)

-- what an update leaves: in those rows the canvas's sums afresh, and all other numbers as they were
pub record Updated (w h : ℕ) (target canvas : List Float) (ymin ymax : ℤ) (old new : List Float) : Type 0 where
  pub size : length new ≡ length old
  pub targets : TargetKept f64_sums w h (λ s. entry w old (of_target s)) (λ s. entry w new (of_target s))
  pub canvases : CanvasRedone f64_sums w h (redone ymin ymax) (picture w target) (picture w canvas) (λ s. entry w old (of_canvas s)) (λ s. entry w new (of_canvas s))

-- the refusals; of each slice that is lent its length is tested
abbrev pub bad_lengths : ℕ → ℕ → ℕ → ℕ → ℕ → Bool
bad_lengths w h target canvas table = bad_picture w h target || bad_picture w h canvas || bad_table w h table

unfoldable pub build_refusal : List Float → List Float → ℕ → ℕ → List Float → ℕ
build_refusal target canvas w h table =
    lowest
    (size_if (bad_size w h)
    ∷ length_if (bad_lengths w h (length target) (length canvas) (length table))
    ∷ pixel_if (not (all_within target) || not (all_within canvas))
    ∷ [])

unfoldable pub update_refusal : List Float → List Float → ℕ → ℕ → List Float → ℕ
update_refusal target canvas w h table =
    lowest (size_if (bad_size w h) ∷ length_if (bad_lengths w h (length target) (length canvas) (length table)) ∷ [])

-- the tests on numbers alone
abbrev pub lengths_refusal : ℕ → ℕ → ℕ → ℕ → ℕ → ℕ
lengths_refusal w h target canvas table = lowest (size_if (bad_size w h) ∷ length_if (bad_lengths w h target canvas table) ∷ [])

abbrev pub LengthsTestedSays : ℕ → ℕ → ℕ → ℕ → ℕ → ℕ → Type 0
LengthsTestedSays w h target canvas table r = r ≡ lengths_refusal w h target canvas table

-- what the calls promise: the number r, and of the table, old as it was handed in, new as it is left
pub record BuildSays (target canvas : List Float) (w h : ℕ) (old : List Float) (r : ℕ) (new : List Float) : Type 0 where
  pub answer : r ≡ build_refusal target canvas w h old
  pub done : r ≡ 0 → Table w h target canvas new
  pub refused : (r ≡ 0 → ⊥) → new ≡ old

pub record UpdateCanvasRowsSays (target canvas : List Float) (w h : ℕ) (old : List Float) (ymin ymax : ℤ) (r : ℕ) (new : List Float) : Type 0 where
  pub answer : r ≡ update_refusal target canvas w h old
  pub done : r ≡ 0 → Updated w h target canvas ymin ymax old new
  pub refused : (r ≡ 0 → ⊥) → new ≡ old

-- a run's pixels left ≤ x < right of row y: the right place minus the left, added to the running sums
abbrev pub AddSpanSays : List Float → ℕ → ℕ → ℕ → ℕ → ShapeSums → ShapeSums → Type 0
AddSpanSays table w y left right s r = r ≡ plus s (minus (place_of w table y right) (place_of w table y left))

abbrev pub ReadPlaceSays : List Float → ℕ → ℕ → ℕ → ShapeSums → Type 0
ReadPlaceSays table w y x r = r ≡ place_of w table y x
