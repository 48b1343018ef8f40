use mathlib.Core.Path.{sym, ap}
use mathlib.Core.Bool.{Bool, cond}
use borrow.Author.Tests.{lt-ltb, le-ltb}
use native.Mathlib.Omega.{arith}
use Rattle.polygon.proofs.edges.digits_of.Goals as goal

-- `polygon::digits_of` meets its contract: by the test.

pub returns-then-height-lt64 : goal.returns-then-height-lt64
returns-then-height-lt64 c = sym (ap (λ (b : Bool). cond b 31 37) (lt-ltb c.args.height 64 c.if-height-lt64.true))

pub returns : goal.returns
returns c = sym (ap (λ (b : Bool). cond b 31 37) (le-ltb c.args.height 64 (omega (arith, c.if-height-lt64.false))))
