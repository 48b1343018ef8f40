use mathlib.Core.Path.{◌∙◌, ap}
use Rattle.sums.specs.declared.ShapeSums.{ShapeSums}
use Rattle.grade.specs.Answered.{answered}
use Rattle.grade.specs.AlphaSweep.{sweep_refusal}
use Rattle.grade.specs.Swept.{swept}
use Rattle.probe_score.specs.Probes.{answer_of}
use Rattle.probe_score.proofs.probe_alpha_sweep.Goals as goal

-- What `alpha_sweep` promises, as C has it.

pub returns : goal.returns
returns c =
    let a = c.args in
    c.answer_of.ensures
    ∙ ap answer_of
    (c.alpha_sweep.ensures
    ∙ ap (λ (q : ShapeSums). answered (sweep_refusal a.levels.now a.n) (swept q a.levels.now a.n)) c.sums_of.ensures)
