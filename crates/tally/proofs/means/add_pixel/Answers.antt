use Prim.Native.Nat.{◌+◌, ◌*◌}
use Rattle.tally.specs.TallyLaws.{sums-more, number-before}
use native.Mathlib.Omega.{arith}
use Rattle.tally.proofs.means.add_pixel.Goals as goal

-- Three numbers within 0..1, widened and added.

pub widen_number-requires : goal.widen_number-requires
widen_number-requires c =
    number-before c.args.target.now (c.args.i * 3 + 3) (c.args.i * 3) c.requires.1 (omega arith) c.requires.0

pub widen_number-requires-2 : goal.widen_number-requires-2
widen_number-requires-2 c =
    number-before c.args.target.now (c.args.i * 3 + 3) (c.args.i * 3 + 1) c.requires.1 (omega arith) c.requires.0

pub widen_number-requires-3 : goal.widen_number-requires-3
widen_number-requires-3 c =
    number-before c.args.target.now (c.args.i * 3 + 3) (c.args.i * 3 + 2) c.requires.1 (omega arith) c.requires.0

pub returns : goal.returns
returns c e =
    sums-more c.args.target.now c.args.i c.args.sums _ _ _ e c.widen_number.ensures c.widen_number-2.ensures c.widen_number-3.ensures
