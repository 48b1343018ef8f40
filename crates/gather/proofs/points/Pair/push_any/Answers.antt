use Rattle.gather.proofs.points.Pair.push_any.Goals as goal

-- `gather::points::Pair::push_any` meets its contract: a widened value is the value.

pub returns : goal.returns
returns c = simp (c.push_pair.ensures, c.widen-6.ensures, c.widen-5.ensures, c.widen-4.ensures, c.widen-3.ensures, c.widen-2.ensures, c.widen.ensures)
