use mathlib.Core.Path.{refl, ◌∙◌}
use Rattle.crossing.specs.Outlines.{kind_of}
use Rattle.capi.specs.ScoreLaws.{span_told}
use Rattle.capi.proofs.scores.sillbadger_span_score.Goals as goal

-- No levels are lent: 64 of our own stand there, which are not looked at.

pub returns : goal.returns
returns c =
    let a = c.args in
    c.span_at.ensures ∙ span_told a.w a.h (kind_of a.shape.now) a.opacity _ refl a.table.now
