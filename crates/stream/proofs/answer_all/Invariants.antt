use Rattle.stream.specs.Running.{Stands}
use Rattle.stream.proofs.answer_all.Given as goal

-- What is held at the start, and after each turn.
abbrev pub invariant-loop : goal.invariant-loop
invariant-loop g l = Stands l.running
