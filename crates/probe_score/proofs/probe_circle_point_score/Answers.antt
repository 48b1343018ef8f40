use mathlib.Core.Path.{◌∙◌, ap}
use Rattle.cover.specs.declared.Kind.TheVariants.{Circle}
use Rattle.score.specs.declared.Request.{Request}
use Rattle.probe_score.specs.Probes.{answer_of, point_answer}
use mir.Facts.{to_z-of_z}
use Rattle.probe_score.proofs.probe_circle_point_score.Goals as goal

-- What `circle_point_score` promises, as C has it.

pub returns : goal.returns
returns c =
    let a = c.args in
    c.answer_of.ensures
    ∙ ap answer_of (simp (to_z-of_z, c.ranges.cx, c.ranges.cy, c.ranges.r) at c.circle_point_score.ensures)
    ∙ ap (λ (q : Request). point_answer (Circle a.cx a.cy a.r) q a.levels.now a.w a.h a.target.now a.canvas.now) c.request_of-q.ensures
