use mathlib.Core.Path.{refl, sym, ◌∙◌}
use Rattle.laws.specs.Fit.{no_both}
use Rattle.refusal.specs.RefusalLaws.{sized}
use Rattle.score.specs.CallLaws.{not-holds}
use Rattle.score.proofs.tests.usual_table.Goals as goal

-- `score::tests::usual_table` meets its contract: the usual numbers, and the table has the length that belongs to them.

pub bad_table-requires : goal.bad_table-requires
bad_table-requires c =
    let a = c.args in
    let z = sized a.w a.h (c.usual.ensures c.if-usual.true).size in
    (z.w_high, z.h_high)

pub returns-then-usual : goal.returns-then-usual
returns-then-usual c = λ e. (c.usual.ensures c.if-usual.true, sym c.bad_table.ensures ∙ not-holds c.bad_table.result e)

pub returns : goal.returns
returns c = λ e. no_both e refl
