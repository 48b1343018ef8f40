-- Rules: the exports on the table promise what the calls behind them promise.
use Rattle.std.specs.Prelude.{List, ℕ, ℤ, Float}
use Rattle.table.specs.Table.{BuildSays, UpdateCanvasRowsSays}

abbrev pub SillbadgerBuildSays : ℕ → ℕ → List Float → List Float → List Float → ℕ → List Float → Type 0
SillbadgerBuildSays w h target canvas old r new = BuildSays target canvas w h old r new

abbrev pub SillbadgerUpdateSays : ℕ → ℕ → List Float → List Float → ℤ → ℤ → List Float → ℕ → List Float → Type 0
SillbadgerUpdateSays w h target canvas ymin ymax old r new = UpdateCanvasRowsSays target canvas w h old ymin ymax r new
