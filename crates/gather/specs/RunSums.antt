-- Rules: what the loop over a shape's runs adds up, for the contracts of its steps. The score itself is said by `span_sums`.
use Rattle.std.specs.Prelude.{◌≡◌, cond, List, ℕ, ◌+◌, ◌-◌, ◌*◌, ◌≤◌, ◌<◌, T, ltb, get_or, Float}
use Rattle.laws.specs.RowFold.{rows_from}
use Rattle.std.specs.Float.{nan}
use Rattle.float.specs.Within.{number}
use Rattle.cover.specs.declared.Kind.{Kind}
use Rattle.cover.specs.ReachRows.{reach_rows}
use Rattle.sums.specs.declared.ShapeSums.{ShapeSums}
use Rattle.sums.specs.Sums.{no_sums, plus, minus}
use Rattle.table.specs.Layout.{place_of}
use Rattle.gather.specs.Gathered.{pixel_at}

-- a run is added if it has a pixel
abbrev pub run_added : ℕ → List Float → ℕ → ℕ → ℕ → ShapeSums → ShapeSums
run_added w table y left right s = cond (ltb left right) (plus s (minus (place_of w table y right) (place_of w table y left))) s

-- row y's run in the list of runs
abbrev pub run_left : List ℕ → ℕ → ℕ
run_left runs y = get_or runs (y * 2) 0

abbrev pub run_right : List ℕ → ℕ → ℕ
run_right runs y = get_or runs (y * 2 + 1) 0

-- k rows from row top on, by spans
unfoldable pub runs_added : ℕ → List Float → List ℕ → ℕ → ℕ → ShapeSums
runs_added w table runs top k = rows_from (λ y. run_added w table y (run_left runs y) (run_right runs y)) top k no_sums

-- k pixels of row y from pixel left on
unfoldable pub pixels_added : ℕ → List Float → List Float → ℕ → ℕ → ℕ → ShapeSums → ShapeSums
pixels_added w target canvas y left k s = rows_from (λ x u. plus u (pixel_at w target canvas y x)) left k s

-- k rows from row top on, by points
unfoldable pub points_added : ℕ → List Float → List Float → List ℕ → ℕ → ℕ → ShapeSums
points_added w target canvas runs top k =
    rows_from (λ y. pixels_added w target canvas y (run_left runs y) (run_right runs y - run_left runs y)) top k no_sums

-- the runs of rows top to bottom lie in the picture
abbrev pub RunsFit : List ℕ → ℕ → ℕ → ℕ → Type 0
RunsFit runs w top bottom =
    (y : ℕ) → top ≤ y → y < bottom → (run_left runs y ≤ run_right runs y) × (run_right runs y ≤ w)

-- none of the values a <= i < e is a NaN
abbrev pub NumbersIn : List Float → ℕ → ℕ → Type 0
NumbersIn xs a e = (i : ℕ) → a ≤ i → i < e → T (number (get_or xs i nan))

-- the rows of the shape's reach, which are some
abbrev pub Reached : Kind → ℕ → ℕ → ℕ → ℕ → Type 0
Reached kind w h top bottom = (top ≡ (reach_rows kind w h).top) × (bottom ≡ (reach_rows kind w h).bottom) × (top < bottom)
