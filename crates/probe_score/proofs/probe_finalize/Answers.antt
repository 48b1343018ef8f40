use mathlib.Core.Path.{◌∙◌, ap}
use Rattle.sums.specs.declared.ShapeSums.{ShapeSums}
use Rattle.grade.specs.Finalize.{finalized}
use Rattle.probe_score.specs.Probes.{score_of}
use Rattle.probe_score.proofs.probe_finalize.Goals as goal

-- What `finalize` promises, as C has it.

pub returns : goal.returns
returns c =
    let a = c.args in
    ap score_of (c.finalize-r.ensures ∙ ap (λ (q : ShapeSums). finalized q a.opacity) c.sums_of.ensures)
