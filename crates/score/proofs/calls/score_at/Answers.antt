use mathlib.Core.Path.{sym, ◌∙◌, ap}
use Rattle.score.specs.declared.Request.{Request}
use Rattle.score.specs.Scoring.{bad_count, score_at}
use Rattle.grade.specs.AlphaSweepLaws.{count_range}
use native.Mathlib.Omega.{arith}
use Rattle.score.proofs.calls.score_at.Goals as goal

-- `score::calls::score_at` meets its contract, by cases on the request.

pub sweep-requires : goal.sweep-requires
sweep-requires c =
    let e = count_range c.in-Levels.n (sym (ap bad_count c.in-Levels.is) ∙ c.requires.1) in
    (e.0, omega (arith, e.1, c.requires.0))

pub returns-in-Opacity : goal.returns-in-Opacity
unfolding score_at
returns-in-Opacity c =
    let a = c.args in
    c.finalize.ensures ∙ sym (ap (λ (q : Request). score_at a.s q a.levels.now) c.in-Opacity.is)

pub returns-in-Levels : goal.returns-in-Levels
unfolding score_at
returns-in-Levels c =
    let a = c.args in
    c.sweep.ensures ∙ sym (ap (λ (q : Request). score_at a.s q a.levels.now) c.in-Levels.is)
