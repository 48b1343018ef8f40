use mathlib.Core.Path.{◌≡◌, sym, ◌∙◌}
use mathlib.Core.Bool.{false}
use Prim.Native.Nat.{◌*◌}
use Rattle.laws.specs.RowLaws.{put_rows-none}
use Rattle.table.specs.LentLaws.{rows_within, row_within, row_more, row_numbers}
use native.Mathlib.Omega.{arith}
use Rattle.table.proofs.update_some.Goals as goal

-- `update_some`: the rows from lo to y are written.

pub rows_numbers-numbers-requires : goal.rows_numbers-numbers-requires
rows_numbers-numbers-requires c =
    rows_within c.args.w c.args.h c.args.lo c.args.hi _ _ _ c.requires.0 c.requires.1 c.requires.2

pub loop-y-init : goal.loop-y-init
loop-y-init c = (omega arith, omega arith, sym (put_rows-none _ _ _ _), c.requires.0.places)

pub rebuild_at-requires : goal.rebuild_at-requires
rebuild_at-requires c =
    let a = c.args in
    let l = c.loop-y in record { w_bound = row_within false a.w a.h a.target.now a.canvas.now a.lo l.y a.table.now l.table c.requires.0 l.invariant.3 (omega arith); row_numbers = λ e. row_numbers (a.w * 3) l.y a.lo a.hi a.h a.target.now a.canvas.now l.invariant.0 (omega arith) c.requires.2 c.requires.0.targets c.requires.0.canvases (c.rows_numbers-numbers.ensures e) }

pub loop-y-preserved : goal.loop-y-preserved
loop-y-preserved c =
    let a = c.args in
    let l = c.loop-y in
    let r = c.rebuild_at in (
      omega arith,
      omega arith,
      row_more false a.w a.h a.target.now a.canvas.now a.lo l.y a.table.now l.table l.invariant.0 l.invariant.2 _ r.ensures,
      r.auto.table ∙ l.invariant.3,
    )

pub returns : goal.returns
returns c =
    let e : c.loop-y.y ≡ c.args.hi = omega arith in
    rw e at c.loop-y.invariant.2
