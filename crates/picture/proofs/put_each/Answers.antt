use mathlib.Core.Path.{refl, ◌∙◌}
use Prim.Native.Nat.{◌+◌, ◌*◌, ◌≤◌}
use lib.ListN.{length}
use Rattle.picture.specs.PixelLaws.{coloured_first, coloured_put}
use native.Mathlib.Omega.{arith}
use Rattle.picture.proofs.put_each.Goals as goal

-- The pixels passed have the colour.

pub loop-i-init : goal.loop-i-init
loop-i-init c = (refl, λ f. f)

pub loop-i-preserved : goal.loop-i-preserved
loop-i-preserved c =
    let l = c.loop-i in
    let a = c.args in
    let p = c.put in
    let room : l.i * 3 + 3 ≤ length l.canvas = omega arith in
    (p.auto.canvas ∙ l.invariant.0, λ f. coloured_put a.colour l.i (l.i + 1) a.colour l.canvas _ p.ensures refl room refl (l.invariant.1 f))

pub returns : goal.returns
returns c =
    let l = c.loop-i in
    let a = c.args in
    let e : a.to ≤ l.i = omega arith in
    λ f. coloured_first a.colour a.to l.i l.canvas e (l.invariant.1 f)
