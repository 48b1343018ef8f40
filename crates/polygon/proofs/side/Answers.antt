use borrow.Author.Rules.{sfits_of}
use lib.IntN.{◌-ℤ◌}
use mir.Syntax.{w64}
use mir.Val.{to_z, of_z}
use mir.Facts.{to_z-of_z}
use Rattle.laws.specs.Bounds.{Is, ldr, w-, is-, is*, fits-, fits*}
use Rattle.polygon.proofs.side.Goals as goal
use Rattle.polygon.proofs.side.Goals.{After-diff, After-diff-2, After-diff-3, After-diff-4}

-- `polygon::side` meets its contract: each step is bounded by its operands' bounds.

-- the four differences, as they are read
d1 : (c : After-diff) → Is (to_z w64 (of_z w64 c.diff.result)) (c.args.xj -ℤ c.args.xi) 16382
d1 c =
    ldr {w = w64} (sfits_of c.diff.type_inv) (simp (to_z-of_z, c.ranges.xj, c.ranges.xi) at c.diff.ensures) (w- c.requires.to.x c.requires.from.x)

d2 : (c : After-diff-2) → Is (to_z w64 (of_z w64 c.diff-2.result)) (c.args.y -ℤ c.args.yi) 16382
d2 c =
    ldr {w = w64} (sfits_of c.diff-2.type_inv) (simp (to_z-of_z, c.ranges.y, c.ranges.yi) at c.diff-2.ensures) (w- c.requires.point.y c.requires.from.y)

d3 : (c : After-diff-3) → Is (to_z w64 (of_z w64 c.diff-3.result)) (c.args.yj -ℤ c.args.yi) 16382
d3 c =
    ldr {w = w64} (sfits_of c.diff-3.type_inv) (simp (to_z-of_z, c.ranges.yj, c.ranges.yi) at c.diff-3.ensures) (w- c.requires.to.y c.requires.from.y)

d4 : (c : After-diff-4) → Is (to_z w64 (of_z w64 c.diff-4.result)) (c.args.x -ℤ c.args.xi) 16382
d4 c =
    ldr {w = w64} (sfits_of c.diff-4.type_inv) (simp (to_z-of_z, c.ranges.x, c.ranges.xi) at c.diff-4.ensures) (w- c.requires.point.x c.requires.from.x)

pub overflow_mul-result : goal.overflow_mul-result
overflow_mul-result c = fits* tt (d1 (goal.at.overflow_mul-result c).After-diff) (d2 (goal.at.overflow_mul-result c).After-diff-2)

pub overflow_mul-result-2 : goal.overflow_mul-result-2
overflow_mul-result-2 c = fits* tt (d3 (goal.at.overflow_mul-result-2 c).After-diff-3) (d4 (goal.at.overflow_mul-result-2 c).After-diff-4)

pub overflow_sub-result : goal.overflow_sub-result
overflow_sub-result c =
    fits- tt (is* w64 tt (d1 (goal.at.overflow_sub-result c).After-diff) (d2 (goal.at.overflow_sub-result c).After-diff-2)) (is* w64 tt (d3 (goal.at.overflow_sub-result c).After-diff-3) (d4 (goal.at.overflow_sub-result c).After-diff-4))

pub returns : goal.returns
returns c =
    (is- w64 tt (is* w64 tt (d1 (goal.at.returns c).After-diff) (d2 (goal.at.returns c).After-diff-2)) (is* w64 tt (d3 (goal.at.returns c).After-diff-3) (d4 (goal.at.returns c).After-diff-4))).is
