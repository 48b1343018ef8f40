-- Rules: the sweep as a call: what is refused of its levels, by document 01, "Opacity levels: 1 to 64" and "A lent level list is exactly 64 f32,
-- of which a sweep uses the first ones, up to its count", and its answer.
use Rattle.std.specs.Prelude.{◌≡◌, Bool, not, ◌||◌, List, [], ◌∷◌, ℕ, eqb, ltb, length, take, Float}
use Rattle.refusal.specs.Refusals.{lowest, length_if, count_if, opacity_if}
use Rattle.float.specs.Within.{all_within}
use Rattle.sums.specs.declared.ShapeSums.{ShapeSums}
use Rattle.refusal.specs.Outcomes.{Outcome}
use Rattle.grade.specs.declared.Score.{Score}
use Rattle.grade.specs.Answered.{answered}
use Rattle.grade.specs.Swept.{swept}

-- the lent list of levels is exactly 64 long
abbrev pub bad_levels : List Float → Bool
bad_levels levels = not (eqb (length levels) 64)

-- a level count is 1 to 64
abbrev pub bad_level_count : ℕ → Bool
bad_level_count n = ltb n 1 || ltb 64 n

-- levels at or above the count are not looked at
abbrev pub bad_first_levels : List Float → ℕ → Bool
bad_first_levels levels n = not (all_within (take n levels))

unfoldable pub sweep_refusal : List Float → ℕ → ℕ
sweep_refusal levels n =
    lowest (length_if (bad_levels levels) ∷ count_if (bad_level_count n) ∷ opacity_if (bad_first_levels levels n) ∷ [])

-- ---- what the call and its tests promise; what is lent is only read
abbrev pub BadLevelCountSays : ℕ → Bool → Type 0
BadLevelCountSays n r = r ≡ bad_level_count n

abbrev pub BadFirstLevelsSays : List Float → ℕ → Bool → Type 0
BadFirstLevelsSays levels n r = r ≡ bad_first_levels levels n

abbrev pub AlphaSweepSays : ShapeSums → List Float → ℕ → Outcome Score → Type 0
AlphaSweepSays s levels n r = r ≡ answered (sweep_refusal levels n) (swept s levels n)
