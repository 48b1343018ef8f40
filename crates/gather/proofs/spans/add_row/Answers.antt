use borrow.Author.Tests.{lt-ltb, le-ltb}
use Rattle.gather.proofs.spans.add_row.Goals as goal

-- `gather::spans::add_row` meets its contract.

pub returns-then-left-right : goal.returns-then-left-right
returns-then-left-right c = simp (lt-ltb _ _ c.if-left-right.true, c.add_span.ensures)

pub returns : goal.returns
returns c = simp (le-ltb _ _ c.if-left-right.false)
