use mathlib.Core.Path.{refl}
use borrow.Author.Tests.{eq-eqb, ne_eqb}
use Rattle.refine.proofs.courses.still.Goals as goal

pub returns-then-c-before : goal.returns-then-c-before
returns-then-c-before c = rw (eq-eqb _ _ c.if-c-before.true) refl

pub returns : goal.returns
returns c = rw (ne_eqb _ _ c.if-c-before.false) refl
