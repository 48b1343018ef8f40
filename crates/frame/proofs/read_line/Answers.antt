use Rattle.frame.specs.ReadLaws.{read-over, read_past, read_held}
use Rattle.frame.proofs.read_line.Goals as goal

-- `frame::read_line` meets its contract: each return by its own law.

pub returns-then-line : goal.returns-then-line
returns-then-line c = let a = c.args in read-over a.line a.text.now _ c.if-line.true c.unread.ensures

pub returns-then-text-held : goal.returns-then-text-held
returns-then-text-held c = let a = c.args in read_past a.line a.text.now _ c.if-line.false c.if-text-held.true c.unread-then-text-held.ensures

pub returns : goal.returns
returns c = let a = c.args in read_held a.line a.text.now _ c.if-line.false c.if-text-held.false c.read_frame.ensures
