use mathlib.Core.Path.{refl, ap, ◌∙◌}
use mathlib.Core.List.{List}
use Prim.Native.Nat.{ℕ}
use lib.Dec.{T}
use lib.Ieee.{binary32}
use lib.Ieee as ieee
use Rattle.laws.specs.Blank.{blank}
use Rattle.laws.specs.Bools.{true_is}
use Rattle.laws.specs.Strokes.{run_left, run_right}
use Rattle.traces.specs.DrawingLaws.{well_placed}
use Rattle.traces.proofs.Strokes.trace.Goals as goal
use Rattle.traces.proofs.Strokes.trace.Goals.{Start}

-- What the runs, the column and the brush ensure.

pub runs-requires : goal.runs-requires
unfolding blank
runs-requires c = record { sizes = c.requires.0; places = well_placed c.args.s c.requires.1; blank = refl }

pub put_column-requires : goal.put_column-requires
put_column-requires c = (c.requires.0.h_high, c.requires.2, c.requires.3)

pub put_brush-requires : goal.put_brush-requires
put_brush-requires c = (c.requires.2, c.requires.4)

-- the opacity is a number of its format
single : (s : Start) → T (ieee.fits binary32 s.args.s.opacity)
single s = true_is _ s.well_formed.1.1.1.0.1.1.1.0.1

pub returns : goal.returns
returns c =
    let p = c.put_column in
    let b = c.put_brush in
    let r = c.runs in (
      p.ensures.long ∙ c.requires.3,
      b.ensures.0,
      record {
        fitting = c.requires.1;
        single = single (goal.at.returns c).Start;
        left = λ y l. p.ensures.left y l ∙ ap (λ (q : List ℕ). run_left q y) r.ensures;
        right = λ y l. p.ensures.right y l ∙ ap (λ (q : List ℕ). run_right q y) r.ensures;
        brush = b.ensures.1 ∙ c.brush_of-brush.ensures;
      },
      λ k l o. (p.ensures.others k l o, b.ensures.2 k l o),
    )
