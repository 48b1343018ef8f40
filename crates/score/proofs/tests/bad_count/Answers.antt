use mathlib.Core.Path.{sym, ◌∙◌, ap}
use Rattle.score.specs.Scoring.{bad_count}
use Rattle.score.proofs.tests.bad_count.Goals as goal

-- `score::tests::bad_count` meets its contract, by cases on the request.

pub returns-in-Levels : goal.returns-in-Levels
returns-in-Levels c = c.bad_level_count.ensures ∙ sym (ap bad_count c.in-Levels.is)
