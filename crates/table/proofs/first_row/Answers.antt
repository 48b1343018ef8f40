use mir.Facts.{to_z-of_z}
use Rattle.table.specs.RangeLaws.{casts, first_negative, first-inside, first_past}
use native.Mathlib.Omega.{arith}
use Rattle.table.proofs.first_row.Goals as goal

-- `first_row`: a negative ymin, one before hi, one past it.

pub returns-then-ymin-lt0 : goal.returns-then-ymin-lt0
returns-then-ymin-lt0 c = let e = rw (to_z-of_z, c.ranges.ymin) at c.if-ymin-lt0.true in (omega arith, λ y l. first_negative c.args.ymin y e)

pub overflow_cast-first : goal.overflow_cast-first
overflow_cast-first c = rw (to_z-of_z, c.ranges.ymin) (casts c.args.ymin c.ranges.ymin (rw (to_z-of_z, c.ranges.ymin) at c.if-ymin-lt0.false))

pub returns-then-first-hi : goal.returns-then-first-hi
returns-then-first-hi c = let e = rw (to_z-of_z, c.ranges.ymin) at c.if-ymin-lt0.false in (omega arith, λ y l. rw (to_z-of_z, c.ranges.ymin) (first-inside c.args.ymin y e))

pub returns-else-first-hi : goal.returns-else-first-hi
returns-else-first-hi c = let e = rw (to_z-of_z, c.ranges.ymin) at c.if-ymin-lt0.false in (omega arith, λ y l. first_past c.args.ymin c.args.hi y e (rw (to_z-of_z, c.ranges.ymin) at c.if-first-hi.false) l)
