use mathlib.Core.Path.{◌≡◌, sym, ap, subst, ◌∙◌}
use mathlib.Core.List.{List}
use Prim.Native.Nat.{◌≤◌}
use lib.Dec.{T}
use lib.Ieee.{Float}
use lib.ListN.{length}
use lib.Seq.{take-take}
use Rattle.trials.specs.SumLaws.{sums-last}
use Rattle.traces.specs.TraceLaws.{table_of}
use Rattle.trials.specs.StepLaws.{listed-length}
use Rattle.float.specs.Within.{all_within}
use Rattle.picture.specs.Pixels.{filled}
use Rattle.picture.specs.PixelLaws.{filled_within}
use Rattle.shapes.specs.Lists.{listed}
use Rattle.traces.specs.Refinement.{painted_on}
use Rattle.traces.specs.Scenes.{shape_painted}
use Rattle.trials.specs.Courses.{SummedTo}
use Rattle.refine.specs.Passes.{untried}
use native.Mathlib.Omega.{arith}
use Rattle.refine.proofs.courses.start.Goals as goal
use Rattle.refine.proofs.courses.start.Goals.{Start}

-- What the table, the drawing and the sums ensure.

-- an array's length is among what owning the parameter tells
len : (s : Start) → length s.args.list.items ≡ 64
len s = s.well_formed.1.1.1.1.1.1.0.1.1.0.1.0.1

many : (s : Start) → s.args.list.count ≤ length (listed s.args.list)
many s = omega (arith, listed-length s.args.list s.requires.drawable.0.few (len s))

pub fill-requires : goal.fill-requires
fill-requires c = c.requires.drawable.4

pub draw-requires : goal.draw-requires
draw-requires c =
    let t = c.trace_list in
    (table_of c.args.w c.args.h c.args.list.count (listed c.args.list) t.new.self.runs t.new.self.paints t.ensures (many (goal.at.draw-requires c).Start), c.requires.drawable.1, c.requires.drawable.3)

pub sum_rows-requires : goal.sum_rows-requires
sum_rows-requires c = let d = c.draw in (c.requires.drawable.0.sized, c.requires.drawable.2, d.auto.canvas ∙ c.requires.drawable.3, d.ensures.0, c.requires.sums_len.0)

pub offset_bounds-sums-h : goal.offset_bounds-sums-h
offset_bounds-sums-h c = omega (arith, c.requires.drawable.0.sized.h_high)

pub bounds-sums-h : goal.bounds-sums-h
bounds-sums-h c = omega (arith, c.requires.drawable.0.sized.h_high)

pub returns : goal.returns
returns c =
    let a = c.args in
    let t = c.trace_list in
    let f = c.fill in
    let d = c.draw in
    let u = c.sum_rows in
    let background = filled a.w a.h a.red a.green a.blue in
    let summed = subst (λ (p : List Float). SummedTo a.w a.h a.target.now p u.new.sums)
    (d.ensures.1 (listed a.list) t.ensures (many (goal.at.returns c).Start) ∙ ap (painted_on (shape_painted a.w a.h) background) (take-take a.list.count a.list.count a.list.items (omega arith))) u.ensures.1 in (
      ap (untried a.list) (sums-last a.w a.h a.target.now (painted_on (shape_painted a.w a.h) background (listed a.list)) u.new.sums c.requires.drawable.2.long summed),
      record {
        second_long = f.auto.canvas ∙ c.requires.drawable.4;
        inside = subst (λ (p : List Float). T (all_within p)) (sym f.ensures) (filled_within a.w a.h a.red a.green a.blue c.requires.drawable.1);
        sums_long = u.ensures.0;
        sums = summed;
        traced = t.ensures;
      },
    )
