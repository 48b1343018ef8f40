use lib.IntN.{pos}
use mir.Syntax.{w32}
use mir.Val.{to_z}
use mir.Facts.{to_z-of_z}
use Rattle.cover.specs.StampLaws.{compared}
use Rattle.laws.specs.Bounds.{Is, ldw, unsigned, is-, fits-}
use Rattle.cover.proofs.stamps.among.Goals as goal
use Rattle.cover.proofs.stamps.among.Goals.{Start}

-- `cover::stamps::among` meets its contract: three comparisons.

low : (s : Start) → Is (to_z w32 s.args.from) (pos s.args.from) 255
low s = unsigned w32 s.args.from 255 s.requires.places.0 tt

pub overflow_sub-result : goal.overflow_sub-result
overflow_sub-result c = fits- tt (ldw w32 tt c.requires.rows.1) (low (goal.at.overflow_sub-result c).Start)

pub returns : goal.returns
returns c e =
    let a = c.args in
    let f = (low (goal.at.returns c).Start).is in
    let n = (unsigned w32 a.n 256 c.requires.places.1 tt).is in
    let d = (is- w32 tt (ldw w32 tt c.requires.rows.1) (low (goal.at.returns c).Start)).is in
    compared a.first a.last a.from a.n (rw (d, to_z-of_z c.ranges.first, f, n, to_z-of_z c.ranges.last) at e)
