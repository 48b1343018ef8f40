use Rattle.grade.proofs.wanted_at.Goals as goal

-- `grade::wanted_at` meets its contract: it is the colour wanted of that channel's sums.

pub returns : goal.returns
returns c = c.wanted.ensures
