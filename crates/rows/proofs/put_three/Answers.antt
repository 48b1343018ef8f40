use mathlib.Core.Path.{◌≡◌}
use Prim.Native.Nat.{suc, ◌+◌}
use native.Mathlib.Numerals.{add-one}
use lib.ListN.{length-set}
use native.Mathlib.Omega.{arith}
use Rattle.rows.proofs.put_three.Goals as goal

-- Three stores, one after another.

pub bounds-place-at-2 : goal.bounds-place-at-2
bounds-place-at-2 c = simp length-set (omega arith)

pub bounds-place-at-3 : goal.bounds-place-at-3
bounds-place-at-3 c = simp length-set (omega arith)

pub returns : goal.returns
returns c =
    let two : c.args.at + 2 ≡ suc (suc c.args.at) = omega arith in
    rw (add-one, two)
