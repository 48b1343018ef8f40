use Rattle.std.proofs.Common.{arith}
use lib.Ieee.{binary32, fits, le, of_bits}
use Rattle.laws.specs.Bools.{true_is}
use Rattle.float.specs.Within.{one}
use Rattle.float.specs.MarksLaws.{low_within}
use Rattle.float.specs.OrderLaws.{le_numbers}
use Rattle.float.proofs.marks.Goals as goal

-- The code's comparison is the rule's; its 1 is the rule's, by its pattern.

pub float_to_bits-result : goal.float_to_bits-result
unfolding of_bits
float_to_bits-result c = (le_numbers c.args.v one (true_is (le c.args.v one) c.if-v.true)).0

pub returns-then-v : goal.returns-then-v
unfolding of_bits
returns-then-v c =
    let v = c.args.v in
    record { shows = low_within v (true_is (fits binary32 v) c.well_formed.0.1) (true_is (le v one) c.if-v.true) }

pub returns-else-v : goal.returns-else-v
returns-else-v c = record { shows = λ h. absurd (omega arith) }
