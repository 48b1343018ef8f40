-- Rules: what the probe promises is what the function behind it promises.
use Rattle.std.specs.Prelude.{Float}
use Rattle.float.specs.Narrowed.{NarrowSays}

abbrev pub ProbeNarrowSays : Float → Float → Type 0
ProbeNarrowSays x r = NarrowSays x r
