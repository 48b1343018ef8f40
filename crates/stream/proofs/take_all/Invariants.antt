use Rattle.stream.specs.Running.{Stands}
use Rattle.stream.proofs.take_all.Given as goal

-- What is held at the start, and after each turn.
abbrev pub invariant-loop-b : goal.invariant-loop-b
invariant-loop-b g l = Stands l.running
