use mathlib.Core.Path.{◌≡◌, sym}
use borrow.Author.Rules.{rules}
use native.Mathlib.Omega.{arith}
use lib.ListN.{length}
use Rattle.std.specs.Prelude.{None}
use Rattle.shapes.specs.RangeLaws.{offered-at, offered_past}
use Rattle.refine.proofs.courses.offer.Goals as goal
use Rattle.refine.proofs.courses.offer.Goals.{Start}

-- Candidate k, or none past the end.

pub returns-then-k-candidates : goal.returns-then-k-candidates
returns-then-k-candidates c =
    let a = c.args.candidates.now in
    let long : length a.slots ≡ 1024 = search rules in
    sym (offered-at a c.args.k None c.if-k-candidates.true (omega (arith, c.requires, long)))

pub returns : goal.returns
returns c = sym (offered_past c.args.candidates.now c.args.k c.if-k-candidates.false)
