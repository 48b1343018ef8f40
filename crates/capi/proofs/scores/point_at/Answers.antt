use Rattle.std.specs.Prelude.{Option}
use mathlib.Core.Path.{ap, ◌∙◌}
use Rattle.cover.specs.declared.Kind.{Kind}
use Rattle.capi.specs.Answers.{refused_by}
use Rattle.capi.specs.Scores.{by_points, point_answer}
use Rattle.capi.proofs.scores.point_at.Goals as goal

-- The score of the shape that the coordinates say, or a refusal where they say none.

pub returns-in-Some : goal.returns-in-Some
returns-in-Some c =
    let a = c.args in
    c.point_of.ensures
    ∙ ap (λ (k : Option Kind). point_answer a.w a.h (by_points k) a.request a.levels.now a.target.now a.canvas.now) (rw c.in-Some.is at c.outline-o.ensures)

pub returns-in-None : goal.returns-in-None
returns-in-None c =
    let a = c.args in
    c.refused.ensures
    ∙ ap refused_by (c.number.ensures ∙ c.no_shape.ensures)
    ∙ ap (λ (k : Option Kind). point_answer a.w a.h (by_points k) a.request a.levels.now a.target.now a.canvas.now) (rw c.in-None.is at c.outline-o.ensures)
