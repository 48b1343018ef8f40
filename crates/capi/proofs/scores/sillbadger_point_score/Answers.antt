use mathlib.Core.Path.{refl, ◌∙◌}
use Rattle.crossing.specs.Outlines.{kind_of}
use Rattle.capi.specs.Scores.{by_points}
use Rattle.capi.specs.ScoreLaws.{point_told}
use Rattle.capi.proofs.scores.sillbadger_point_score.Goals as goal

-- No levels are lent: 64 of our own stand there, which are not looked at.

pub returns : goal.returns
returns c =
    let a = c.args in
    c.point_at.ensures ∙ point_told a.w a.h (by_points (kind_of a.shape.now)) a.opacity _ refl a.target.now a.canvas.now
