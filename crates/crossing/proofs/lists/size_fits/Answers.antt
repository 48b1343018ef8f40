use mathlib.Core.Path.{ap}
use mathlib.Core.Bool.{Bool, ◌&&◌, ◌||◌}
use lib.Dec.{eqb}
use Rattle.crossing.proofs.lists.size_fits.Goals as goal

-- The same tests, joined.

pub returns : goal.returns
returns c =
    let a = c.args in
    ap (λ (b : Bool). b || a.gaps && eqb a.n 0) c.is_sized.ensures
