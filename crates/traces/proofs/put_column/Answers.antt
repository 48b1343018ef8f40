use mathlib.Core.Path.{◌≡◌, subst}
use Prim.Native.Nat.{ℕ}
use Rattle.traces.specs.Traces.{ColumnPut}
use Rattle.traces.specs.TraceLaws.{column_none, column_more}
use native.Mathlib.Omega.{arith}
use Rattle.traces.proofs.put_column.Goals as goal

-- Row after row.

pub loop-y-init : goal.loop-y-init
loop-y-init c = column_none c.args.i c.args.column.now c.args.runs.now

pub loop-y-preserved : goal.loop-y-preserved
loop-y-preserved c =
    let l = c.loop-y in
    let a = c.args in
    column_more l.y a.i a.column.now a.runs.now l.runs l.invariant c.requires.1 (omega (arith, c.requires.0, c.requires.2))

pub returns : goal.returns
returns c =
    let l = c.loop-y in
    let a = c.args in
    let e : l.y ≡ a.h = omega arith in
    subst (λ (y : ℕ). ColumnPut y a.i a.column.now a.runs.now l.runs) e l.invariant
