use Prim.Native.Nat.{◌+◌, ◌*◌}
use lib.Ieee.{nan}
use Rattle.float.specs.Within.{number}
use Rattle.laws.specs.EveryLaws.{every-each}
use native.Mathlib.Omega.{arith}
use Rattle.rows.proofs.step_numbers.Goals as goal

-- `step_numbers`: no value of the rows is a NaN, so that each is widened by a plain cast.

pub widen_number-requires : goal.widen_number-requires
widen_number-requires c = every-each number c.args.target.now (c.args.x * 3) nan c.requires.t.0 (omega arith)

pub widen_number-requires-2 : goal.widen_number-requires-2
widen_number-requires-2 c = every-each number c.args.target.now (c.args.x * 3 + 1) nan c.requires.t.0 (omega arith)

pub widen_number-requires-3 : goal.widen_number-requires-3
widen_number-requires-3 c = every-each number c.args.target.now (c.args.x * 3 + 2) nan c.requires.t.0 (omega arith)

pub widen_number-requires-4 : goal.widen_number-requires-4
widen_number-requires-4 c = every-each number c.args.canvas.now (c.args.x * 3) nan c.requires.t.1 (omega arith)

pub widen_number-requires-5 : goal.widen_number-requires-5
widen_number-requires-5 c = every-each number c.args.canvas.now (c.args.x * 3 + 1) nan c.requires.t.1 (omega arith)

pub widen_number-requires-6 : goal.widen_number-requires-6
widen_number-requires-6 c = every-each number c.args.canvas.now (c.args.x * 3 + 2) nan c.requires.t.1 (omega arith)

pub returns : goal.returns
returns c = simp (c.push_wide.ensures, c.widen_number-6.ensures, c.widen_number-5.ensures, c.widen_number-4.ensures, c.widen_number-3.ensures, c.widen_number-2.ensures, c.widen_number.ensures)
