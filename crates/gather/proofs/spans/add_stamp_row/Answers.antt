use mathlib.Core.Path.{sym, ◌∙◌}
use lib.ListN.{length}
use Rattle.gather.specs.StampSumLaws.{run_in, row_added}
use native.Mathlib.Omega.{arith}
use Rattle.gather.proofs.spans.add_stamp_row.Goals as goal

-- `gather::spans::add_stamp_row` meets its contract: the ends of the run are the zeros around it.

pub returns : goal.returns
returns c =
    let a = c.args in
    c.add_span.ensures ∙ sym (row_added a.w a.table.now a.left a.y a.row a.s c.requires.row_nonzero.0 c.requires.row_nonzero.1 (run_in c.args.w c.args.left c.args.y (length c.args.table.now) c.args.row c.requires.row_in c.requires.row_nonzero.0 c.requires.row_nonzero.1).fits)

pub overflow_cast-first : goal.overflow_cast-first
overflow_cast-first c = omega (arith, (run_in c.args.w c.args.left c.args.y (length c.args.table.now) c.args.row c.requires.row_in c.requires.row_nonzero.0 c.requires.row_nonzero.1).some)

pub overflow_cast-past : goal.overflow_cast-past
overflow_cast-past c = omega (arith, (run_in c.args.w c.args.left c.args.y (length c.args.table.now) c.args.row c.requires.row_in c.requires.row_nonzero.0 c.requires.row_nonzero.1).fits)

pub overflow_sub-past : goal.overflow_sub-past
overflow_sub-past c = omega (arith, (run_in c.args.w c.args.left c.args.y (length c.args.table.now) c.args.row c.requires.row_in c.requires.row_nonzero.0 c.requires.row_nonzero.1).fits)

pub overflow_add-left : goal.overflow_add-left
overflow_add-left c = omega (arith, (run_in c.args.w c.args.left c.args.y (length c.args.table.now) c.args.row c.requires.row_in c.requires.row_nonzero.0 c.requires.row_nonzero.1).some, (run_in c.args.w c.args.left c.args.y (length c.args.table.now) c.args.row c.requires.row_in c.requires.row_nonzero.0 c.requires.row_nonzero.1).few, c.requires.row_nonzero.2)

pub overflow_add-left-2 : goal.overflow_add-left-2
overflow_add-left-2 c = omega (arith, (run_in c.args.w c.args.left c.args.y (length c.args.table.now) c.args.row c.requires.row_in c.requires.row_nonzero.0 c.requires.row_nonzero.1).few, c.requires.row_nonzero.2)

pub add_span-requires : goal.add_span-requires
add_span-requires c =
    let r = run_in c.args.w c.args.left c.args.y (length c.args.table.now) c.args.row c.requires.row_in c.requires.row_nonzero.0 c.requires.row_nonzero.1 in (
      c.requires.row_nonzero.3,
      omega (arith, r.some),
      r.inside,
      c.requires.row_in.lent (λ z. omega (arith, c.requires.row_nonzero.0, z)),
      omega (arith, r.few, c.requires.row_nonzero.4),
    )
