use mathlib.Core.Path.{◌∙◌, ap}
use Rattle.cover.specs.declared.Kind.TheVariants.{Triangle}
use Rattle.score.specs.declared.Request.{Request}
use Rattle.probe_score.specs.Probes.{answer_of, point_answer}
use mir.Facts.{to_z-of_z}
use Rattle.probe_score.proofs.probe_triangle_point_score.Goals as goal

-- What `triangle_point_score` promises, as C has it.

pub returns : goal.returns
returns c =
    let a = c.args in
    c.answer_of.ensures
    ∙ ap answer_of (simp (to_z-of_z, c.ranges.x0, c.ranges.y0, c.ranges.x1, c.ranges.y1, c.ranges.x2, c.ranges.y2) at c.triangle_point_score.ensures)
    ∙ ap (λ (q : Request). point_answer (Triangle a.x0 a.y0 a.x1 a.y1 a.x2 a.y2) q a.levels.now a.w a.h a.target.now a.canvas.now) c.request_of-q.ensures
