use lib.Ieee.{binary64, to_bits}
use Rattle.float.specs.Masked.{plain_is}
use Rattle.grade.proofs.parts.plain.Goals as goal

-- `grade::parts::plain` meets its contract: the tests are the law's.

pub returns : goal.returns
returns c = plain_is (to_bits binary64 c.args.q)
