use mathlib.Core.Path.{sym, ap, ◌∙◌}
use mathlib.Core.Bool.{Bool, cond}
use lib.IntN.{pos, ◌-ℤ◌}
use mir.Syntax.{w32}
use mir.Facts.{to_z-of_z}
use Rattle.laws.specs.Bounds.{ld, lit, is-, fits-}
use Rattle.polygon.proofs.edges.step_of.Goals as goal

-- `polygon::step_of` meets its contract.

pub overflow_sub-result : goal.overflow_sub-result
overflow_sub-result c = fits- tt (lit (pos 0)) (ld c.ranges.s c.requires)

pub returns-then-a-gt0 : goal.returns-then-a-gt0
returns-then-a-gt0 c =
    (is- w32 tt (lit (pos 0)) (ld c.ranges.s c.requires)).is
    ∙ sym (ap (λ (b : Bool). cond b (pos 0 -ℤ c.args.s) c.args.s) (rw (to_z-of_z, c.ranges.a) at c.if-a-gt0.true))

pub returns : goal.returns
returns c =
    to_z-of_z c.ranges.s ∙ sym (ap (λ (b : Bool). cond b (pos 0 -ℤ c.args.s) c.args.s) (rw (to_z-of_z, c.ranges.a) at c.if-a-gt0.false))
