use Rattle.std.specs.Prelude.{Option}
use mathlib.Core.Path.{ap, ◌∙◌}
use Rattle.cover.specs.declared.Kind.{Kind}
use Rattle.gather.specs.Gathered.{span_sums}
use Rattle.score.specs.Scoring.{span_refusal, score_at}
use Rattle.refusal.specs.Outcomes.{outcome}
use Rattle.capi.specs.Answers.{refused_by}
use Rattle.capi.specs.Scores.{span_answer}
use Rattle.capi.specs.ScoreLaws.{tells_score}
use Rattle.capi.proofs.scores.span_at.Goals as goal

-- The score of the shape that the coordinates say, or a refusal where they say none.

pub returns-in-Some : goal.returns-in-Some
returns-in-Some c =
    let kind = c.in-Some.kind in
    let a = c.args in
    tells_score (span_refusal kind a.request a.levels.now a.w a.h a.table.now) (score_at (span_sums kind a.w a.h a.table.now) a.request a.levels.now)
    (outcome c.span_score.result) c.told.result c.told.ensures c.span_score.ensures
    ∙ ap (λ (k : Option Kind). span_answer a.w a.h k a.request a.levels.now a.table.now) (rw c.in-Some.is at c.outline-o.ensures)

pub returns-in-None : goal.returns-in-None
returns-in-None c =
    let a = c.args in
    c.refused.ensures
    ∙ ap refused_by (c.number.ensures ∙ c.no_shape.ensures)
    ∙ ap (λ (k : Option Kind). span_answer a.w a.h k a.request a.levels.now a.table.now) (rw c.in-None.is at c.outline-o.ensures)
