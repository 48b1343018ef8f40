use Rattle.sums.specs.Sums.{pixel_sums}
use Rattle.sums.proofs.ShapeSums.push_wide.Goals as goal

-- `ShapeSums::push_wide`: the sum with one pixel's sums.

pub plus-requires : goal.plus-requires
unfolding pixel_sums
plus-requires c = rw c.pixel.ensures c.requires

pub returns : goal.returns
returns c = simp (c.plus.ensures, c.pixel.ensures)
