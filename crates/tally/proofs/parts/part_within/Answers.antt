use Rattle.std.proofs.Common.{◌∙◌}
use Rattle.laws.specs.EveryLaws.{every-part}
use Rattle.float.specs.Within.{within}
use Rattle.tally.proofs.parts.part_within.Goals as goal

-- What was tested before and this part are all up to `to`.

pub returns : goal.returns
returns c =
    let a = c.args in
    c.all_within.ensures ∙ every-part within a.picture.now a.from a.to c.requires.0 c.requires.2
