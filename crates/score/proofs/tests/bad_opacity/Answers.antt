use mathlib.Core.Path.{sym, ◌∙◌, ap}
use mathlib.Core.Bool.{not}
use Rattle.grade.specs.AlphaSweepLaws.{count_range}
use Rattle.score.specs.declared.Request.{Request}
use Rattle.score.specs.Scoring.{bad_count, bad_opacity}
use native.Mathlib.Omega.{arith}
use Rattle.score.proofs.tests.bad_opacity.Goals as goal

-- `score::tests::bad_opacity` meets its contract, by cases on the request.

-- the levels asked for are among the 64
pub bad_first_levels-requires : goal.bad_first_levels-requires
bad_first_levels-requires c =
    omega (arith, (count_range c.in-Levels.n (sym (ap bad_count c.in-Levels.is) ∙ c.requires.1)).1, c.requires.0)

pub returns-in-Opacity : goal.returns-in-Opacity
returns-in-Opacity c =
    ap not c.within.ensures ∙ sym (ap (λ (q : Request). bad_opacity q c.args.levels.now) c.in-Opacity.is)

pub returns-in-Levels : goal.returns-in-Levels
returns-in-Levels c =
    c.bad_first_levels.ensures ∙ sym (ap (λ (q : Request). bad_opacity q c.args.levels.now) c.in-Levels.is)
