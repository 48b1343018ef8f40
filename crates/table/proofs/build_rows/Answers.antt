use mathlib.Core.Path.{◌≡◌, sym, ◌∙◌}
use mathlib.Core.Bool.{true}
use Prim.Native.Nat.{◌*◌}
use Rattle.laws.specs.RowLaws.{put_rows-none}
use Rattle.laws.specs.Bools.{true_is}
use Rattle.table.specs.LentLaws.{rows_within, row_within, row_more, row_numbers, within_between}
use native.Mathlib.Omega.{arith}
use Rattle.table.proofs.build_rows.Goals as goal

-- `build_rows`: the rows before y are written; pictures within 0..1 have no NaN.

pub loop-y-init : goal.loop-y-init
loop-y-init c = (omega arith, sym (put_rows-none _ _ _ _), c.requires.sizes.places)

pub rebuild_at-requires : goal.rebuild_at-requires
rebuild_at-requires c =
    let a = c.args in
    let l = c.loop-y in
    let s = c.requires.sizes in
    let r = rows_within a.w a.h 0 a.h _ _ _ s (omega arith) (omega arith) in
    record {
      w_bound = row_within true a.w a.h a.target.now a.canvas.now 0 l.y a.table.now l.table s l.invariant.2 (omega arith);
      row_numbers = λ e. row_numbers (a.w * 3) l.y 0 a.h a.h a.target.now a.canvas.now (omega arith) (omega arith) (omega arith) s.targets s.canvases (within_between (0 * (a.w * 3)) (a.h * (a.w * 3)) a.target.now a.canvas.now r.3 r.4 (true_is _ c.requires.tested.0, true_is _ c.requires.tested.1));
    }

pub loop-y-preserved : goal.loop-y-preserved
loop-y-preserved c =
    let a = c.args in
    let l = c.loop-y in
    let r = c.rebuild_at in (
      omega arith,
      row_more true a.w a.h a.target.now a.canvas.now 0 l.y a.table.now l.table (omega arith) l.invariant.1 _ r.ensures,
      r.auto.table ∙ l.invariant.2,
    )

pub returns : goal.returns
returns c =
    let e : c.loop-y.y ≡ c.args.h = omega arith in
    rw e at c.loop-y.invariant.1
