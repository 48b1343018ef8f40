use mathlib.Core.Path.{◌∙◌}
use Rattle.figures.specs.FigureLaws.{slope-start, slope-next, slope-end}
use Rattle.std.proofs.Common.{length}
use native.Mathlib.Omega.{arith}
use Rattle.figures.proofs.slope.Goals as goal

-- What is written, and the slope that is to come, are the whole slope.

pub loop-y-init : goal.loop-y-init
loop-y-init c = slope-start _ _ _

pub loop-y-preserved : goal.loop-y-preserved
loop-y-preserved c =
    let l = c.loop-y in
    let a = c.args in
    slope-next l.xs (length a.xs.now) l.y-index l.x a.step (omega arith) (omega arith) ∙ l.invariant

pub returns : goal.returns
returns c =
    let l = c.loop-y in
    let a = c.args in
    slope-end l.xs (length a.xs.now) l.y-index l.x a.step (omega arith) (omega arith) ∙ l.invariant
