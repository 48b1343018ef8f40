use mathlib.Core.Path.{sym, ap, subst, ◌∙◌}
use mathlib.Core.List.{List}
use lib.Dec.{T}
use lib.Ieee.{Float}
use lib.Seq.{slice}
use Rattle.float.specs.Within.{all_within}
use Rattle.picture.specs.PixelLaws.{filled_within}
use Rattle.traces.specs.Refinement.{painted_on}
use Rattle.traces.specs.Scenes.{shape_painted}
use native.Mathlib.Omega.{arith}
use Rattle.refine.proofs.courses.draw.Goals as goal

-- What `fill` and `paint_all` ensure, one after the other.

pub fill-requires : goal.fill-requires
fill-requires c = c.requires.2

pub paint_all-requires : goal.paint_all-requires
paint_all-requires c =
    let a = c.args in
    let f = c.fill in
    (c.requires.0, omega arith, f.auto.canvas ∙ c.requires.2, subst (λ (p : List Float). T (all_within p)) (sym f.ensures) (filled_within a.w a.h a.red a.green a.blue c.requires.1))

pub returns : goal.returns
returns c =
    let a = c.args in
    let p = c.paint_all.ensures in
    (p.0, λ l t e. p.1 l t e ∙ ap (λ (q : List Float). painted_on (shape_painted a.w a.h) q (slice 0 a.n l)) c.fill.ensures)
