use Rattle.tally.proofs.totals.squared_any.Goals as goal

-- The square of the difference.

pub returns : goal.returns
returns c = simp c.difference_any-d.ensures
