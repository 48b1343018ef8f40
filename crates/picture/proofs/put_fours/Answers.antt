use mathlib.Core.Path.{refl, ◌∙◌}
use Prim.Native.Nat.{◌+◌, ◌*◌, ◌≤◌}
use lib.ListN.{length}
use Rattle.picture.specs.PixelLaws.{coloured_first, coloured_pair}
use native.Mathlib.Omega.{arith}
use Rattle.picture.proofs.put_fours.Goals as goal

-- The pixels passed have the colour that the first have: it was read back from four of them.

pub loop-i-init : goal.loop-i-init
loop-i-init c = (refl, λ k f. f)

pub loop-i-preserved : goal.loop-i-preserved
loop-i-preserved c =
    let l = c.loop-i in
    let p = c.put_pair in
    let q = c.put_pair-in-loop-i in
    let room : l.i * 12 + 12 ≤ length l.canvas = omega (arith, l.invariant.0, c.loop-i-test.true, c.requires.1) in
    let size = p.auto.canvas in (
      q.auto.canvas ∙ size ∙ l.invariant.0,
      λ k f.
          coloured_pair k (l.i * 2 + 1) (l.i * 4 + 2) ((l.i + 1) * 4) _ _ _ _ q.ensures (omega arith) (omega arith) (omega (arith, room, size))
          (c.colour_at-c.ensures ∙ f.each 2 (omega arith))
          (c.colour_at-d.ensures ∙ f.each 3 (omega arith))
          (coloured_pair k (l.i * 2) (l.i * 4) (l.i * 4 + 2) _ _ l.canvas _ p.ensures (omega arith) (omega arith) (omega (arith, room))
          (c.colour_at-a.ensures ∙ f.each 0 (omega arith))
          (c.colour_at-b.ensures ∙ f.each 1 (omega arith))
          (l.invariant.1 k f)),
    )

pub returns : goal.returns
returns c =
    let l = c.loop-i in
    let n = c.args.fours in
    let e : n * 4 ≤ l.i * 4 = omega arith in
    λ k f. coloured_first k (n * 4) (l.i * 4) l.canvas e (l.invariant.1 k f)
