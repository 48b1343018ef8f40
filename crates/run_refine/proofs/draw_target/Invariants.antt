use Rattle.std.proofs.Common.{◌≡◌, length}
use Rattle.run_refine.proofs.draw_target.Given as goal

abbrev pub invariant-loop-i : goal.invariant-loop-i
invariant-loop-i l = length l.target ≡ length l.initial.target
