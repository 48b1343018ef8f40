-- Laws: two answers of a probe are equal.
use Rattle.std.specs.Prelude.{◌≡◌, ℤ}
use Rattle.whole.specs.WholeLaws.{IsqrtI64Says-unique, DivFloorI64Says-unique, DivCeilI64Says-unique}
use Rattle.probe_whole.specs.Probes.{ProbeIsqrtI64Says, ProbeDivFloorI64Says, ProbeDivCeilI64Says}

pub ProbeIsqrtI64Says-unique : (n r s : ℤ) → ProbeIsqrtI64Says n r → ProbeIsqrtI64Says n s → r ≡ s
ProbeIsqrtI64Says-unique n r s = IsqrtI64Says-unique n r s

pub ProbeDivFloorI64Says-unique : (a b r s : ℤ) → ProbeDivFloorI64Says a b r → ProbeDivFloorI64Says a b s → r ≡ s
ProbeDivFloorI64Says-unique a b r s = DivFloorI64Says-unique a b r s

pub ProbeDivCeilI64Says-unique : (a b r s : ℤ) → ProbeDivCeilI64Says a b r → ProbeDivCeilI64Says a b s → r ≡ s
ProbeDivCeilI64Says-unique a b r s = DivCeilI64Says-unique a b r s
