use mir.Syntax.{w64}
use mir.Facts.{to_z-of_z}
use Rattle.laws.specs.Fit.{read}
use borrow.Author.Rules.{rules}
use Rattle.probe_whole.proofs.probe_isqrt_i64.Goals as goal

-- What `isqrt_i64` promises, once each number that is read back from its bits is the number itself.

pub returns : goal.returns
returns c = simp (read w64 c.isqrt_i64.result c.isqrt_i64.type_inv) (simp (to_z-of_z, c.ranges.n) at c.isqrt_i64.ensures)
