-- Rules: what the loops over a stamp add up, for the contracts of their steps. The score itself is said by `span_sums` and `point_sums`.
use Rattle.std.specs.Prelude.{◌≡◌, List, ℕ, ◌+◌, ◌*◌, ◌/◌, ◌%◌, ◌^◌, ◌≤◌, ◌<◌, Float}
use Rattle.std.specs.Int.Count.{count_trailing_zeros}
use Rattle.laws.specs.PixelSums.{add_span}
use Rattle.sums.specs.declared.ShapeSums.{ShapeSums}
use Rattle.sums.specs.Sums.{no_sums, plus, minus}
use Rattle.stamp.specs.Digits.{digit_steps, row_ends, row_steps}
use Rattle.table.specs.Layout.{place_of}
use Rattle.gather.specs.Gathered.{pixel_at}
use Rattle.gather.specs.declared.points.Paired.{Paired}
use Rattle.gather.specs.Paired.{unpaired_of}

-- pixel i of the eight rows of eight pixels from column left and row top on
abbrev pub stamp_pixel : ℕ → List Float → List Float → ℕ → ℕ → ℕ → ShapeSums → ShapeSums
stamp_pixel w target canvas left top i s = plus s (pixel_at w target canvas (top + i / 8) (left + i % 8))

-- the pixels that the digits of b say
abbrev pub stamp_points : ℕ → List Float → List Float → ℕ → ℕ → ℕ → ShapeSums → ShapeSums
stamp_points w target canvas left top b s = digit_steps (stamp_pixel w target canvas left top) 0 64 b s

-- all of them lie in a picture of n numbers
abbrev pub StampIn : ℕ → ℕ → ℕ → ℕ → ℕ → Type 0
StampIn w left top n b = (j : ℕ) → b / 2 ^ j % 2 ≡ 1 → ((top + j / 8) * w + (left + j % 8)) * 3 + 3 ≤ n

-- where the first of them begins, in rows of as many numbers
abbrev pub first_place : ℕ → ℕ → ℕ → ℕ
first_place corner row b = corner + count_trailing_zeros 64 b / 8 * row + count_trailing_zeros 64 b % 8 * 3

-- a row's run
abbrev pub stamp_row : ℕ → List Float → ℕ → ℕ → ℕ → ShapeSums → ShapeSums
stamp_row w table left y row s = add_span no_sums plus minus (place_of w table y) (row_ends left row) s

-- eight rows at the most
abbrev pub stamp_spans : ℕ → List Float → ℕ → ℕ → ℕ → ℕ → ShapeSums → ShapeSums
stamp_spans w table left y n b s = row_steps (stamp_row w table left) y n b s

-- the rows among n of which a digit is 1 lie in a table of m numbers, and their columns in the picture
pub record RowIn (w left y m row : ℕ) : Type 0 where
  pub column : (j : ℕ) → row / 2 ^ j % 2 ≡ 1 → left + j < w
  pub lent : (row ≡ 0 → ⊥) → y * ((w + 1) * 15) + (w + 1) * 15 ≤ m

abbrev pub RowsIn : ℕ → ℕ → ℕ → ℕ → ℕ → ℕ → Type 0
RowsIn w left y m n b = (b < 256 ^ n) × ((k : ℕ) → k < n → RowIn w left (y + k) m (b / 256 ^ k % 256))

-- ---- what the functions promise; what is lent is only read
abbrev pub AddStampSays : ℕ → List Float → ℕ → ℕ → ℕ → ShapeSums → Type 0
AddStampSays w table left top bits r = r ≡ stamp_spans w table left top 8 bits no_sums

-- the numbers, whatever order they lie in
abbrev pub PushStampSays : ℕ → List Float → List Float → ℕ → ℕ → ℕ → Paired → Type 0
PushStampSays w target canvas left top bits r = unpaired_of r ≡ stamp_points w target canvas left top bits no_sums
