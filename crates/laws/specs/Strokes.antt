-- Rules: the forms in which painting by runs is proved, over any kind of value; `StrokeLaws` turns them into the rule.
use Rattle.std.specs.Prelude.{Bool, ◌&&◌, List, ℕ, ◌+◌, ◌*◌, ◌%◌, ◌≤◌, ◌<◌, leb, ltb, length, get_or}
use Rattle.laws.specs.Tab.{tab}

-- row y's run, left <= x < right, as it stands in a list of runs
abbrev pub run_left : List ℕ → ℕ → ℕ
run_left runs y = get_or runs (y * 2) 0

abbrev pub run_right : List ℕ → ℕ → ℕ
run_right runs y = get_or runs (y * 2 + 1) 0

-- runs of h rows of w columns
abbrev pub RunsWithin : ℕ → ℕ → List ℕ → Type 0
RunsWithin w h runs = (y : ℕ) → y < h → (run_left runs y ≤ run_right runs y) × (run_right runs y ≤ w)

-- the pixels of rows lo up to hi, hi left out, that lie in their row's run
unfoldable pub in_runs : List ℕ → ℕ → ℕ → ℕ → ℕ → Bool
in_runs runs lo hi x y = leb lo y && ltb y hi && leb (run_left runs y) x && ltb x (run_right runs y)

-- pixels one after another, each channel mixed
unfoldable pub stroked : {P : Type 0} → P → (ℕ → P → P) → List P → List P
stroked d mix p = tab (λ i. mix (i % 3) (get_or p i d)) (length p)
