use Rattle.lines.specs.LineLaws.{last-ended, last-over, last-held}
use Rattle.lines.proofs.last.Goals as goal

-- `lines::last` meets its contract: each return by its own law.

pub returns-then-line : goal.returns-then-line
returns-then-line c = last-over c.args.line c.if-not-line.true c.if-line.true

pub returns-else-line : goal.returns-else-line
returns-else-line c = last-held c.args.line c.if-not-line.true c.if-line.false

pub returns-else-not-line : goal.returns-else-not-line
returns-else-not-line c = last-ended c.args.line c.if-not-line.false
