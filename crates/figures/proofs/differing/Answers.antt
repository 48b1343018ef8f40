use mathlib.Core.Path.{sym, ◌∙◌}
use Rattle.figures.specs.FigureLaws.{differences-count}
use Rattle.figures.proofs.differing.Goals as goal

-- The pairs that differ are the places.

pub returns : goal.returns
returns c = c.pairs_differing.ensures ∙ sym (differences-count c.args.a.now c.args.b.now)
