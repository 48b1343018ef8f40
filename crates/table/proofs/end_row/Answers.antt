use mir.Facts.{to_z-of_z}
use Rattle.table.specs.RangeLaws.{casts, end_negative, end-inside, end_past}
use native.Mathlib.Omega.{arith}
use Rattle.table.proofs.end_row.Goals as goal

-- `end_row`: a negative ymax, one within the rows, one past them.

pub returns-then-ymax-lt0 : goal.returns-then-ymax-lt0
returns-then-ymax-lt0 c = let e = rw (to_z-of_z, c.ranges.ymax) at c.if-ymax-lt0.true in (omega arith, λ y l. end_negative c.args.ymax c.args.h y e l)

pub overflow_cast-last : goal.overflow_cast-last
overflow_cast-last c = rw (to_z-of_z, c.ranges.ymax) (casts c.args.ymax c.ranges.ymax (rw (to_z-of_z, c.ranges.ymax) at c.if-ymax-lt0.false))

pub returns-then-last-h : goal.returns-then-last-h
returns-then-last-h c = let e = rw (to_z-of_z, c.ranges.ymax) at c.if-ymax-lt0.false in (omega arith, λ y l. rw (to_z-of_z, c.ranges.ymax) (end-inside c.args.ymax y e))

pub returns-else-last-h : goal.returns-else-last-h
returns-else-last-h c = let e = rw (to_z-of_z, c.ranges.ymax) at c.if-ymax-lt0.false in (omega arith, λ y l. end_past c.args.ymax c.args.h y e (rw (to_z-of_z, c.ranges.ymax) at c.if-last-h.false) l)
