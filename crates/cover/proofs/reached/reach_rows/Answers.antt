use mathlib.Core.Path.{sym, ◌∙◌}
use Rattle.cover.specs.ReachRowsLaws.{rows-beside, rows_before}
use Rattle.cover.proofs.reached.reach_rows.Goals as goal

-- `cover::reached::reach_rows` meets its contract: no rows beside the picture, and else those of the row reach.

pub returns-then-beside : goal.returns-then-beside
returns-then-beside c =
    let a = c.args in
    rows-beside a.kind a.w a.h (sym c.beside.ensures ∙ c.if-beside.true)

pub returns : goal.returns
returns c =
    let a = c.args in
    c.rows_of.ensures ∙ rows_before a.kind a.w a.h (sym c.beside.ensures ∙ c.if-beside.false)
