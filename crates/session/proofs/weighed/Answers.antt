use Prim.Native.Nat.{◌≤◌}
use native.Mathlib.Nat.{sub-zero}
use native.Mathlib.Omega.{arith}
use borrow.Author.Tests.{eq-eqb, ne_eqb}
use Rattle.session.specs.Held.{table_size}
use Rattle.session.specs.SessionLaws.{table-room, part_length}
use Rattle.session.proofs.weighed.Goals as goal
use Rattle.session.proofs.weighed.Goals.{Else-w-eq0}

-- `session::weighed` meets its contract: without a picture 8, else the score from the table held.

room : (c : Else-w-eq0) → table_size c.args.s ≤ 4080
room c =
    let u = c.requires.0 c.if-w-eq0.false in
    table-room c.args.s.w c.args.s.h u.w_high u.h_high

pub returns-then-w-eq0 : goal.returns-then-w-eq0
returns-then-w-eq0 c = simp (eq-eqb c.args.s.w 0 c.if-w-eq0.true)

pub overflow_add-k : goal.overflow_add-k
overflow_add-k c = omega (arith, (c.requires.0 c.if-w-eq0.false).w_high)

pub overflow_mul-k : goal.overflow_mul-k
overflow_mul-k c = omega (arith, room (goal.at.overflow_mul-k c).Else-w-eq0)

pub overflow_mul-k-2 : goal.overflow_mul-k-2
overflow_mul-k-2 c = omega (arith, room (goal.at.overflow_mul-k-2 c).Else-w-eq0)

pub weigh-requires : goal.weigh-requires
weigh-requires c =
    (c.requires.0 c.if-w-eq0.false, part_length (table_size c.args.s) c.args.table.now (omega (arith, room (goal.at.weigh-requires c).Else-w-eq0, c.requires.1)))

pub returns : goal.returns
returns c = simp (ne_eqb c.args.s.w 0 c.if-w-eq0.false) (simp sub-zero at c.weigh.ensures)
