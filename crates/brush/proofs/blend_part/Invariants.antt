use Rattle.brush.specs.BrushLaws.{Done}
use Rattle.brush.proofs.blend_part.Given as goal

abbrev pub invariant-loop-k : goal.invariant-loop-k
invariant-loop-k g l = Done l.brush l.initial.part l.k l.part
