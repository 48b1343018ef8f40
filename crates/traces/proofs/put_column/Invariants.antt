use Rattle.traces.specs.Traces.{ColumnPut}
use Rattle.traces.proofs.put_column.Given as goal

abbrev pub invariant-loop-y : goal.invariant-loop-y
invariant-loop-y l = ColumnPut l.y l.i l.column l.initial.runs l.runs
