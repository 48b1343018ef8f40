use Rattle.grade.proofs.finalize.Goals as goal

-- `grade::finalize` meets its contract: the errors before are those of the sums.

pub finalize_with-requires : goal.finalize_with-requires
finalize_with-requires c = c.all_before.ensures

pub returns : goal.returns
returns c = c.finalize_with.ensures
