-- Rules: what the probes promise is what the functions behind them promise.
use Rattle.std.specs.Prelude.{ℤ}
use Rattle.whole.specs.Whole.{IsqrtI64Says, DivFloorI64Says, DivCeilI64Says}

abbrev pub ProbeIsqrtI64Says : ℤ → ℤ → Type 0
ProbeIsqrtI64Says n r = IsqrtI64Says n r

abbrev pub ProbeDivFloorI64Says : ℤ → ℤ → ℤ → Type 0
ProbeDivFloorI64Says a b r = DivFloorI64Says a b r

abbrev pub ProbeDivCeilI64Says : ℤ → ℤ → ℤ → Type 0
ProbeDivCeilI64Says a b r = DivCeilI64Says a b r
