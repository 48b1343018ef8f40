use mathlib.Core.Path.{◌≡◌, ap, ◌∙◌}
use Prim.Native.Nat.{◌+◌, ◌*◌}
use Rattle.tally.specs.Tally.{sums_to}
use Rattle.tally.specs.TallyLaws.{within_first}
use native.Mathlib.Omega.{arith}
use Rattle.tally.proofs.means.add_pixels.Goals as goal

-- The sums so far are those of the pixels passed.

pub loop-i-init : goal.loop-i-init
loop-i-init c = (omega arith, c.requires.before_value)

pub add_pixel-sums-requires : goal.add_pixel-sums-requires
add_pixel-sums-requires c =
    let j = c.loop-i.i * 3 + 3 in
    (omega arith, within_first c.args.target.now j (c.args.to * 3) (omega arith) c.requires.from_le_to.2)

pub loop-i-preserved : goal.loop-i-preserved
loop-i-preserved c = (omega arith, c.add_pixel-sums.ensures c.loop-i.invariant.1)

pub returns : goal.returns
returns c =
    let l = c.loop-i in
    let a = c.args in
    let e : l.i ≡ a.to = omega arith in
    l.invariant.1 ∙ ap (sums_to a.target.now) e
