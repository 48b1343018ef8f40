use Rattle.probe_score.proofs.request_of.Goals as goal

-- One opacity, or a number of levels.

pub returns-then-single : goal.returns-then-single
returns-then-single c = simp c.if-single.true

pub returns : goal.returns
returns c = simp c.if-single.false
