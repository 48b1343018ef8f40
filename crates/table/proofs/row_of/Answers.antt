use Rattle.laws.specs.RowLaws.{part_cut}
use Rattle.table.proofs.row_of.Goals as goal

-- `row_of`: the part lent is row y.

pub returns : goal.returns
returns c = part_cut c.args.n c.args.y c.args.picture.now
