use Rattle.std.proofs.Common.{◌*◌}
use Rattle.brush.specs.BrushLaws.{Done}
use Rattle.brush.proofs.blend_parts.Given as goal

abbrev pub invariant-loop-k : goal.invariant-loop-k
invariant-loop-k g l = Done l.brush l.initial.run (l.k * g.row.N) l.run
