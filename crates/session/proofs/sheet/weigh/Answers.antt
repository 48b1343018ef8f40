use mathlib.Core.Path.{refl}
use Rattle.session.specs.SheetLaws.{weighed}
use Rattle.session.proofs.sheet.weigh.Goals as goal

-- `session::sheet::weigh` meets its contract: of the score's tests only those of place and opacity are left.

pub returns : goal.returns
returns c =
    let a = c.args in
    weighed a.kind a.opacity _ a.w a.h a.table.now _ c.requires.0 c.requires.1 refl c.span_score.ensures
