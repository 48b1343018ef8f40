-- Rules: the runs of four corners on plain numbers, row by row.
use Rattle.std.specs.Prelude.{List, [], ◌∷◌, ℕ, ℤ}
use Rattle.polygon.specs.Polygon.{FillRunsSays}
use Rattle.polygon.specs.Steps.{RowRun}

-- one coordinate of the four corners
abbrev pub four : ℤ → ℤ → ℤ → ℤ → List ℤ
four a b c d = a ∷ b ∷ c ∷ d ∷ []

-- a row that is its run, whatever it was before
abbrev pub Done : List ℤ → List ℤ → ℕ → ℕ → ℕ → ℕ → ℕ → ℕ → Type 0
Done xs ys w y lo hi left right = RowRun xs ys w y left right

abbrev pub FillQuadSays : ℤ → ℤ → ℤ → ℤ → ℤ → ℤ → ℤ → ℤ → ℕ → ℕ → List ℕ → Type 0
FillQuadSays x0 y0 x1 y1 x2 y2 x3 y3 w h after = FillRunsSays (four x0 x1 x2 x3) (four y0 y1 y2 y3) w h after
