use Rattle.std.specs.Prelude.{Some}
use mathlib.Core.Path.{sym, ap, ◌∙◌}
use mir.Facts.{to_z-of_z}
use mir.Syntax.{w32}
use mir.Val.{SFits}
use Rattle.cover.specs.declared.Kind.{Kind}
use Rattle.cover.specs.declared.Kind.TheVariants.{Circle, Triangle}
use Rattle.gather.specs.Gathered.{point_sums}
use Rattle.score.specs.Scoring.{point_refusal, score_at}
use Rattle.refusal.specs.Outcomes.{outcome}
use Rattle.capi.specs.Answers.{refused_by}
use Rattle.capi.specs.Scores.{by_points, point_answer}
use Rattle.capi.specs.ScoreLaws.{tells_score}
use borrow.Author.Rules.{rules}
use Rattle.capi.proofs.scores.point_of.Goals as goal

-- The score of a circle or a triangle, whose numbers, read back from their bits, are themselves; a quad is refused.

pub returns-in-Circle : goal.returns-in-Circle
returns-in-Circle c =
    let k = c.in-Circle in
    let f0 : SFits w32 k.cx = search rules in
    let f1 : SFits w32 k.cy = search rules in
    let f2 : SFits w32 k.r = search rules in
    let a = c.args in
    let kind = (Circle k.cx k.cy k.r) in
    tells_score (point_refusal kind a.request a.levels.now a.w a.h a.target.now a.canvas.now) (score_at (point_sums kind a.w a.h a.target.now a.canvas.now) a.request a.levels.now)
    (outcome c.circle_point_score.result) c.told.result c.told.ensures (simp (to_z-of_z, f0, f1, f2) at c.circle_point_score.ensures)
    ∙ sym (ap (λ (x : Kind). point_answer a.w a.h (by_points (Some x)) a.request a.levels.now a.target.now a.canvas.now) k.is)

pub returns-in-Triangle : goal.returns-in-Triangle
returns-in-Triangle c =
    let k = c.in-Triangle in
    let f0 : SFits w32 k.x0 = search rules in
    let f1 : SFits w32 k.y0 = search rules in
    let f2 : SFits w32 k.x1 = search rules in
    let f3 : SFits w32 k.y1 = search rules in
    let f4 : SFits w32 k.x2 = search rules in
    let f5 : SFits w32 k.y2 = search rules in
    let a = c.args in
    let kind = (Triangle k.x0 k.y0 k.x1 k.y1 k.x2 k.y2) in
    tells_score (point_refusal kind a.request a.levels.now a.w a.h a.target.now a.canvas.now) (score_at (point_sums kind a.w a.h a.target.now a.canvas.now) a.request a.levels.now)
    (outcome c.triangle_point_score.result) c.told-in-Triangle.result c.told-in-Triangle.ensures (simp (to_z-of_z, f0, f1, f2, f3, f4, f5) at c.triangle_point_score.ensures)
    ∙ sym (ap (λ (x : Kind). point_answer a.w a.h (by_points (Some x)) a.request a.levels.now a.target.now a.canvas.now) k.is)

pub returns-in-Quad : goal.returns-in-Quad
returns-in-Quad c =
    let a = c.args in
    c.refused.ensures
    ∙ ap refused_by (c.number.ensures ∙ c.no_shape.ensures)
    ∙ sym (ap (λ (x : Kind). point_answer a.w a.h (by_points (Some x)) a.request a.levels.now a.target.now a.canvas.now) c.in-Quad.is)
