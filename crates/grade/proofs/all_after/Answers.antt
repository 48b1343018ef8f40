use mathlib.Core.Path.{◌∙◌}
use Rattle.grade.proofs.all_after.Goals as goal

-- `grade::all_after` meets its contract: a widened colour is the colour itself.

pub all_wide-requires : goal.all_wide-requires
all_wide-requires c =
    let p = c.requires in
    record { rest = p.rest; pixels = p.pixels; colours = (c.widen.ensures ∙ p.colours.0, c.widen-2.ensures ∙ p.colours.1, c.widen-3.ensures ∙ p.colours.2) }
