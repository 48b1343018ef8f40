use Rattle.std.proofs.Common.{nat_eq}
use mathlib.Core.Path.{◌≡◌, sym, ap, ◌∙◌}
use Prim.Native.Nat.{◌+◌, ◌*◌}
use mathlib.Core.List.{List}
use lib.ListN.{length, get_or}
use lib.Seq.{length-take-le}
use lib.Ieee.{Float, nan}
use Rattle.rows.specs.Places.{row_of}
use Rattle.laws.specs.RowLaws.{length_part}
use Rattle.sums.specs.declared.ShapeSums.{ShapeSums}
use Rattle.rows.specs.PlaceLaws.{sums-count, written_size, written_first, written_more, written_all, row_begins}
use native.Mathlib.Omega.{arith}
use Rattle.rows.proofs.write_row.Given.{Over}
use Rattle.rows.proofs.write_row.Goals as goal
use Rattle.rows.proofs.write_row.Goals.{After-loop-x}

-- `write_row`: place by place (`Written`).

pub put-requires : goal.put-requires
put-requires g c = length-take-le 15 c.args.row.now (omega (arith, c.requires.row_sizes.places))

pub loop-x-init : goal.loop-x-init
loop-x-init g c =
    let a = c.args in
    written_first (nat_eq g.row.FIRST 0) a.w a.target.now a.canvas.now a.row.now c.put.new.place _ c.new-s.ensures c.put.ensures c.requires.row_sizes.places

pub step-s-requires : goal.step-s-requires
step-s-requires g c =
    let l = c.loop-x in
    let counted = ap (λ (s : ShapeSums). s.count) l.invariant.sums ∙ sums-count c.args.target.now c.args.canvas.now l.x in
    c.requires.may l.s l.x (omega arith) (omega (arith, counted, c.requires.row_sizes.narrow))

pub read_ahead-seen-requires : goal.read_ahead-seen-requires
read_ahead-seen-requires g c = let l = c.loop-x in omega (arith, written_size _ _ _ _ l.invariant)

pub put-requires-in-loop-x : goal.put-requires-in-loop-x
put-requires-in-loop-x g c = let l = c.loop-x in length_part ((l.x + 1) * 15) 15 l.row (omega (arith, written_size _ _ _ _ l.invariant))

pub overflow_step-x : goal.overflow_step-x
overflow_step-x g c = omega (arith, c.requires.row_sizes.narrow)

pub loop-x-preserved : goal.loop-x-preserved
loop-x-preserved g c =
    let a = c.args in
    let l = c.loop-x in
    written_more (nat_eq g.row.FIRST 0) a.w a.target.now a.canvas.now l.invariant (omega arith) _ c.put-in-loop-x.new.place (c.requires.adds l.s l.x c.step-s.result (omega arith) c.step-s.ensures) c.put-in-loop-x.ensures

-- after the loop the row is done
module _ (g : Over) (c : After-loop-x g) where
  done : c.loop-x.row ≡ row_of (nat_eq g.row.FIRST 0) c.args.w c.args.target.now c.args.canvas.now c.args.row.now
  done =
      let a = c.args in
      written_all (nat_eq g.row.FIRST 0) a.w a.target.now a.canvas.now a.row.now c.put.new.place _ c.new-s.ensures c.put.ensures c.loop-x.invariant (omega arith)

  long : length c.loop-x.row ≡ (c.args.w + 1) * 15
  long = written_size _ _ _ _ c.loop-x.invariant

pub keep_reads-requires : goal.keep_reads-requires
keep_reads-requires g c =
    let a = c.args in
    (omega (arith, long g (goal.at.keep_reads-requires g c).After-loop-x), ap (λ (l : List Float). get_or l 6 nan) (done g (goal.at.keep_reads-requires g c).After-loop-x) ∙ row_begins (nat_eq g.row.FIRST 0) a.w a.target.now a.canvas.now a.row.now c.requires.row_sizes.places)

pub shape_of-row : goal.shape_of-row
shape_of-row g c =
    ap length c.keep_reads.ensures ∙ long g (goal.at.shape_of-row g c).After-loop-x ∙ sym c.requires.row_sizes.places

pub returns : goal.returns
returns g c = c.keep_reads.ensures ∙ done g (goal.at.returns g c).After-loop-x
