use mathlib.Core.Path.{sym, ap, ◌∙◌}
use mathlib.Core.Bool.{not}
use Prim.Native.Nat.{◌*◌}
use lib.Dec.{eqb}
use lib.ListN.{length}
use Rattle.laws.specs.Every.{every}
use Rattle.crossing.specs.Crossed.{sized_or}
use Rattle.crossing.specs.CrossedLaws.{or_of_two, or-third}
use Rattle.crossing.proofs.lists.bad_list.Goals as goal

-- The lengths, then the numbers of coordinates.

pub returns-then-bad_lengths : goal.returns-then-bad_lengths
returns-then-bad_lengths c =
    let a = c.args in
    or_of_two (not (eqb (length a.places.now) (length a.sizes.now * 8))) (not (eqb (length a.paints.now) (length a.sizes.now * 4))) (not (every (sized_or a.gaps) a.sizes.now))
    (sym c.bad_lengths.ensures ∙ c.if-bad_lengths.true)

pub returns : goal.returns
returns c =
    let a = c.args in
    ap not c.sizes_fit.ensures
    ∙ or-third (not (eqb (length a.places.now) (length a.sizes.now * 8))) (not (eqb (length a.paints.now) (length a.sizes.now * 4))) (not (every (sized_or a.gaps) a.sizes.now))
    (sym c.bad_lengths.ensures ∙ c.if-bad_lengths.false)
