use Rattle.std.proofs.Common.{◌≤◌, length}
use Rattle.probe_session.specs.Running.{Stands}
use Rattle.probe_session.proofs.probe_frames.Given as goal

-- What is held at the start, and after each byte.
abbrev pub invariant-loop-b : goal.invariant-loop-b
invariant-loop-b l = Stands l.running × (l.at ≤ length l.out)
