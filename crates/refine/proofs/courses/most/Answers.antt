use mathlib.Core.Path.{refl}
use borrow.Author.Tests.{lt-ltb, le-ltb}
use Rattle.refine.proofs.courses.most.Goals as goal

pub returns-then-n-lt2 : goal.returns-then-n-lt2
returns-then-n-lt2 c = rw (lt-ltb _ _ c.if-n-lt2.true) refl

pub returns : goal.returns
returns c = rw (le-ltb _ _ c.if-n-lt2.false) refl
