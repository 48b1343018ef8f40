use mathlib.Core.Path.{ap}
use Prim.Native.Nat.{◌+◌, ◌-◌, ◌*◌}
use borrow.Rule.Slice.PartMut.{put_mid}
use Rattle.traces.proofs.Strokes.stroke.Goals as goal

-- The part is lent, and comes back brushed.

pub returns : goal.returns
returns c =
    let a = c.args in
    ap (put_mid ((a.start + a.left) * 3) ((a.start + a.right) * 3 - (a.start + a.left) * 3) a.canvas.now) c.blend_run.ensures
