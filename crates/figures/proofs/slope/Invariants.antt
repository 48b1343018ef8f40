use Rattle.std.proofs.Common.{◌≡◌, ◌-◌, ◌++◌, length, take}
use Rattle.figures.specs.Figures.{slope_from}
use Rattle.figures.proofs.slope.Given as goal

abbrev pub invariant-loop-y : goal.invariant-loop-y
invariant-loop-y l = take l.y-index l.xs ++ slope_from (length l.initial.xs - l.y-index) l.x l.step ≡ slope_from (length l.initial.xs) l.first l.step
