use mathlib.Core.Path.{ap}
use native.Mathlib.Omega.{arith}
use Rattle.cover.specs.declared.reached.Rows.{Rows}
use Rattle.trials.proofs.spanned.Goals as goal

-- What the rows of the two shapes, their minima and their maxima ensure.

pub returns : goal.returns
returns c =
    let old = c.rows_of-old.ensures in
    let new = c.rows_of-new.ensures in
    let top = c.min-top.ensures in
    let first = c.min.ensures in
    let last = c.max.ensures in
    let within = c.min-bottom.ensures in
    let bottom = c.max-2.ensures in
    record {
      ordered = omega (arith, bottom);
      inside = omega (arith, top, within, bottom);
      above-s = omega (arith, top, first, ap (λ (r : Rows). r.top) old);
      above-x = omega (arith, top, first, ap (λ (r : Rows). r.top) new);
      below_s = λ short. omega (arith, short, within, bottom, last, ap (λ (r : Rows). r.bottom) old);
      below_x = λ short. omega (arith, short, within, bottom, last, ap (λ (r : Rows). r.bottom) new);
    }
