use Rattle.lines.specs.LineLaws.{feeds_lf, feeds_held, feeds_over}
use Rattle.lines.proofs.feed.Goals as goal

-- `lines::feed` meets its contract: LF, a byte that is held and a byte that is not, each by its own law.

pub returns-then-b-eq10 : goal.returns-then-b-eq10
returns-then-b-eq10 c =
    let a = c.args in
    feeds_lf a.text.now a.line c.ready-s.result a.b c.ready-s.ensures c.if-b-eq10.true

pub returns-then-held-text : goal.returns-then-held-text
returns-then-held-text c =
    let a = c.args in
    let r = c.ready-s in
    feeds_held a.text.now a.line r.result a.b r.ensures c.if-b-eq10.false c.if-held-text.true

pub returns-else-held-text : goal.returns-else-held-text
returns-else-held-text c =
    let a = c.args in
    let r = c.ready-s in
    feeds_over a.text.now a.line r.result a.b r.ensures c.if-b-eq10.false c.if-held-text.false
