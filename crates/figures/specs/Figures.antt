-- Rules: a slope of f32, and how many places of two lists of f64 differ.
use Rattle.std.specs.Prelude.{◌≡◌, cond, List, [], ◌∷◌, ℕ, zero, suc, ◌+◌, length, Float}
use Rattle.std.specs.Float.Ieee.{ne}
use Rattle.laws.specs.F32.{◌⊞◌}

-- n numbers, from x on, each next one a step further
unfoldable pub slope_from : ℕ → Float → Float → List Float
slope_from zero x step = []
slope_from (suc n) x step = x ∷ slope_from n (x ⊞ step) step

abbrev pub SlopeSays : List Float → Float → Float → List Float → Type 0
SlopeSays before first step after = after ≡ slope_from (length before) first step

-- as far as both lists go
unfoldable pub differences : List Float → List Float → ℕ
differences [] b = 0
differences (x ∷ a) [] = 0
differences (x ∷ a) (y ∷ b) = cond (ne x y) 1 0 + differences a b

abbrev pub DifferingSays : List Float → List Float → ℕ → Type 0
DifferingSays a b r = r ≡ differences a b
