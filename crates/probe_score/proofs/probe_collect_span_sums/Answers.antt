use mathlib.Core.Path.{◌∙◌, ap}
use Rattle.cover.specs.declared.Kind.{Kind}
use Rattle.gather.specs.Gathered.{span_sums}
use Rattle.score.specs.Scoring.{collected, span_sums_refusal}
use Rattle.probe_score.specs.Probes.{gathered_of}
use mir.Facts.{to_z-of_z}
use Rattle.probe_score.proofs.probe_collect_span_sums.Goals as goal

-- What `collect_span_sums` promises, as C has it.

pub returns : goal.returns
returns c =
    let a = c.args in
    c.gathered.ensures
    ∙ ap gathered_of
    (c.collect_span_sums.ensures
    ∙ ap (λ (k : Kind). collected (span_sums_refusal k a.w a.h a.table.now) (span_sums k a.w a.h a.table.now)) (simp (to_z-of_z, c.ranges.x0, c.ranges.y0, c.ranges.x1, c.ranges.y1, c.ranges.x2, c.ranges.y2, c.ranges.x3, c.ranges.y3) at c.kind_of-k.ensures))
