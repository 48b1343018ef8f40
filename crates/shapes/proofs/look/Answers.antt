use mathlib.Core.Path.{sym, ap, ◌∙◌}
use mathlib.Core.Bool.{not, ◌&&◌}
use Rattle.shapes.specs.Ranges.{both}
use Rattle.shapes.specs.RangeLaws.{ranges_one}
use Rattle.shapes.proofs.look.Goals as goal

-- What the three tests ensure, field by field.

pub returns : goal.returns
returns c =
    let a = c.args in
    let p = c.bad_places.ensures in
    let o = c.within.ensures in
    let k = c.bad_colour.ensures in
    (λ i. record { places = a.r.places && not (p i); opacities = a.r.opacities && o i; colours = a.r.colours && not (k i) })
    ∙ ap (both a.r) (sym (ranges_one a.s))
