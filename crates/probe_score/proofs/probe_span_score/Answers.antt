use mathlib.Core.Path.{◌∙◌, ap, ap₂}
use Rattle.cover.specs.declared.Kind.{Kind}
use Rattle.score.specs.declared.Request.{Request}
use Rattle.grade.specs.Answered.{answered}
use Rattle.gather.specs.Gathered.{span_sums}
use Rattle.score.specs.Scoring.{span_refusal, score_at}
use Rattle.probe_score.specs.Probes.{answer_of}
use mir.Facts.{to_z-of_z}
use Rattle.probe_score.proofs.probe_span_score.Goals as goal

-- What `span_score` promises, as C has it.

pub returns : goal.returns
returns c =
    let a = c.args in
    c.answer_of.ensures
    ∙ ap answer_of
    (c.span_score.ensures
    ∙ ap₂ (λ (k : Kind) (q : Request). answered (span_refusal k q a.levels.now a.w a.h a.table.now) (score_at (span_sums k a.w a.h a.table.now) q a.levels.now))
    (simp (to_z-of_z, c.ranges.x0, c.ranges.y0, c.ranges.x1, c.ranges.y1, c.ranges.x2, c.ranges.y2, c.ranges.x3, c.ranges.y3) at c.kind_of-k.ensures) c.request_of-q.ensures)
