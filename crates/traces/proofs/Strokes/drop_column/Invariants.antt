use mathlib.Core.Path.{◌≡◌}
use Rattle.traces.specs.TraceLaws.{RowsDropped}
use Rattle.traces.proofs.Strokes.drop_column.Given as goal

-- the brushes stay
abbrev pub invariant-loop-y : goal.invariant-loop-y
invariant-loop-y l = RowsDropped l.j l.n l.y l.initial.self.runs l.self.runs × (l.self.paints ≡ l.initial.self.paints)
