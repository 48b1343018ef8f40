-- Rules: document 01, "Sweep": the score of the first level with the strictly smallest change; if no change is below infinity the
-- first level, change +0 and colour 0, with the covered count.
use Rattle.std.specs.Prelude.{◌≡◌, ℕ, List, get_or, Float}
use Rattle.std.specs.Float.{nan}
use Rattle.sums.specs.declared.ShapeSums.{ShapeSums}
use Rattle.grade.specs.declared.Score.{Score}
use Rattle.grade.specs.Finalize.{no_score, finalized}
use Rattle.grade.specs.Sweep.{Found, nowhere, at, best_of}

abbrev pub level : List Float → ℕ → Float
level levels i = get_or levels i nan

-- the change of level i
abbrev pub change_of : ShapeSums → List Float → ℕ → Float
change_of s levels i = (finalized s (level levels i)).change

abbrev pub swept_at : ShapeSums → List Float → Found → Score
swept_at s levels nowhere = no_score (level levels 0) s.count
swept_at s levels (at i) = finalized s (level levels i)

-- over the first n levels
unfoldable pub swept : ShapeSums → List Float → ℕ → Score
swept s levels n = swept_at s levels (best_of (change_of s levels) n)

abbrev pub SweepSays : ShapeSums → List Float → ℕ → Score → Type 0
SweepSays s levels n r = r ≡ swept s levels n
