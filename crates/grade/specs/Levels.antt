-- Rules: document 01, "Level bits b: n = 2^b; n = 1 gives 0.20, else 0.20 + (0.90 - 0.20)·i/(n-1) in f32, left to right.
-- Of 64 places the unused are +0." Each operation is rounded once.
use Rattle.std.specs.Prelude.{◌≡◌, false, not, cond, List, [], ◌∷◌, ℕ, ◌-◌, ◌^◌, eqb, ltb, length, pos, Float}
use Rattle.std.specs.Float.{binary32}
use Rattle.std.specs.Float.Ieee.{round, of_int, add, sub, mul, div}
use Rattle.laws.specs.Tab.{tab}
use Rattle.refusal.specs.Refusals.{lowest, length_if, count_if}
use Rattle.float.specs.Within.{nought}

-- 0.20 and 0.90
abbrev pub low_level : Float
low_level = round binary32 false 20 100

abbrev pub high_level : Float
high_level = round binary32 false 90 100

-- level i of n
unfoldable pub level_of : ℕ → ℕ → Float
level_of n i =
    cond (eqb n 1) low_level
    (add binary32 low_level
    (div binary32 (mul binary32 (sub binary32 high_level low_level) (of_int binary32 (pos i))) (of_int binary32 (pos (n - 1)))))

-- place i of the 64
unfoldable pub level_at : ℕ → ℕ → Float
level_at n i = cond (ltb i n) (level_of n i) nought

unfoldable pub levels : ℕ → List Float
levels b = tab (level_at (2 ^ b)) 64

unfoldable pub levels_refusal : ℕ → List Float → ℕ
levels_refusal b lent = lowest (length_if (not (eqb (length lent) 64)) ∷ count_if (ltb 6 b) ∷ [])

-- the number, and what is lent after it
abbrev pub AlphaLevelsSays : ℕ → List Float → ℕ → List Float → Type 0
AlphaLevelsSays b lent r after =
    (r ≡ levels_refusal b lent) × (after ≡ cond (eqb (levels_refusal b lent) 0) (levels b) lent)
