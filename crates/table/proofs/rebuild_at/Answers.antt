use mathlib.Core.Path.{sym, subst}
use mathlib.Core.List.{List}
use lib.Dec.{T}
use lib.Ieee.{Float}
use Rattle.float.specs.Within.{all_numbers}
use Rattle.table.specs.LentLaws.{row_sizes, row_back}
use Rattle.table.proofs.rebuild_at.Goals as goal

-- `rebuild_at`: row y is lent on and put back.

pub rebuild_row-requires : goal.rebuild_row-requires
rebuild_row-requires c =
    let a = c.args in
    let t = c.row_of.ensures in
    let k = c.row_of-2.ensures in
    let p = c.requires.w_bound in
    record { row_sizes = row_sizes a.w a.y a.target.now a.canvas.now a.table.now _ _ t k p.0 p.1 p.2 p.3; t = λ e. let n = c.requires.row_numbers e in (subst (λ (l : List Float). T (all_numbers l)) (sym t) n.0, subst (λ (l : List Float). T (all_numbers l)) (sym k) n.1) }

pub returns : goal.returns
returns c =
    let a = c.args in
    row_back a.w a.y a.target.now a.canvas.now a.table.now _ _ c.row_of.ensures c.row_of-2.ensures a.whole c.rebuild_row.new.row c.rebuild_row.ensures
