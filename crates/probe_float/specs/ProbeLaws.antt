-- Laws: two answers of the probe are equal.
use Rattle.std.specs.Prelude.{◌≡◌, Float}
use Rattle.float.specs.NarrowLaws.{NarrowSays-unique}
use Rattle.probe_float.specs.Probes.{ProbeNarrowSays}

pub ProbeNarrowSays-unique : (x r s : Float) → ProbeNarrowSays x r → ProbeNarrowSays x s → r ≡ s
ProbeNarrowSays-unique x r s = NarrowSays-unique x r s
