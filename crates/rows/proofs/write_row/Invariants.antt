use Rattle.std.proofs.Common.{nat_eq}
use Rattle.rows.specs.PlaceLaws.{Written}
use Rattle.rows.proofs.write_row.Given as goal

abbrev pub invariant-loop-x : goal.invariant-loop-x
invariant-loop-x g l = Written (nat_eq g.row.FIRST 0) l.w l.target l.canvas l.initial.row l.x l.s l.row
