use Rattle.sums.proofs.ShapeSums.push.Goals as goal

-- `ShapeSums::push`: a widened value is the value.

pub returns : goal.returns
returns c = simp (c.push_wide.ensures, c.widen-6.ensures, c.widen-5.ensures, c.widen-4.ensures, c.widen-3.ensures, c.widen-2.ensures, c.widen.ensures)
