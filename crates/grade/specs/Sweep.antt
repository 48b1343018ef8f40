-- Rules: document 01, "Sweep: the first level with the strictly smallest change, starting from infinity".
use Rattle.std.specs.Prelude.{◌≡◌, Bool, true, false, ℕ, zero, suc, ◌<◌, Float}
use Rattle.std.specs.Float.{inf}
use Rattle.std.specs.Float.Ieee.{lt, le}

-- i is the first of the levels 0 to n with the strictly smallest change, and that is below infinity
pub record Best (change : ℕ → Float) (n i : ℕ) : Type 0 where
  pub below : i < n
  pub finite : lt (change i) (inf false) ≡ true
  pub least : (j : ℕ) → j < n → lt (change j) (change i) ≡ false
  pub first : (j : ℕ) → j < i → le (change j) (change i) ≡ false

-- worked out from the first level on; `BestAt` in the laws says that it is that one
pub data Found : Type 0 where
  nowhere : Found
  at : ℕ → Found

abbrev pub change_at : (ℕ → Float) → Found → Float
change_at change nowhere = inf false
change_at change (at i) = change i

abbrev pub better : Bool → ℕ → Found → Found
better true k f = at k
better false k f = f

unfoldable pub best_of : (ℕ → Float) → ℕ → Found
best_of change zero = nowhere
best_of change (suc k) = better (lt (change k) (change_at change (best_of change k))) k (best_of change k)
