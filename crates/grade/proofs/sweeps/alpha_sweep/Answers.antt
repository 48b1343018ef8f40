use mathlib.Core.Path.{sym, ◌∙◌}
use Rattle.std.proofs.Common.{rules}
use Rattle.std.specs.Prelude.{◌≡◌}
use Rattle.refusal.specs.Outcomes.{number, outcome, Refused}
use Rattle.refusal.specs.OutcomeLaws.{number-positive}
use Rattle.grade.specs.Swept.{swept}
use Rattle.grade.specs.AlphaSweep.{sweep_refusal}
use Rattle.grade.specs.AnsweredLaws.{answered-refused, answered-done}
use Rattle.grade.specs.AlphaSweepLaws.{sweep_passed}
use Rattle.grade.proofs.sweeps.alpha_sweep.Goals as goal

-- `grade::sweeps::alpha_sweep` meets its contract: the refusal, or the sweep.

pub returns-in_err-tested : goal.returns-in_err-tested
returns-in_err-tested c =
    let a = c.args in
    let k : outcome c.from_residual.result ≡ Refused (number c.in_err-tested.field-0.0) = search rules in
    k ∙ answered-refused (sweep_refusal a.levels.now a.n) (number c.in_err-tested.field-0.0) (swept a.s a.levels.now a.n) c.in_err-tested.ensures (number-positive c.in_err-tested.field-0.0)

pub sweep-requires : goal.sweep-requires
sweep-requires c = sweep_passed c.args.levels.now c.args.n (sym c.in_ok-tested.ensures)

pub returns : goal.returns
returns c =
    let a = c.args in
    answered-done (sweep_refusal a.levels.now a.n) (swept a.s a.levels.now a.n) c.sweep.result (sym c.in_ok-tested.ensures) c.sweep.ensures
