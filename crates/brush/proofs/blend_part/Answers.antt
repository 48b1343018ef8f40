use Rattle.std.proofs.Common.{◌+◌, ◌*◌, arith}
use Rattle.brush.specs.BrushLaws.{done_none, done_more, done_all}
use Rattle.brush.proofs.blend_part.Goals as goal

-- The pixels passed are done.

pub loop-k-init : goal.loop-k-init
loop-k-init g c = done_none

pub loop-k-preserved : goal.loop-k-preserved
loop-k-preserved g c =
    let l = c.loop-k in
    let k = l.k in
    done_more (k + 1) (k * 3) (k * 3 + 3) l.invariant (omega arith) (omega arith) (omega arith) (omega (arith, c.requires)) c.blend_pixel.ensures

pub shape_of-part : goal.shape_of-part
shape_of-part g c = c.loop-k.invariant.long

pub returns : goal.returns
returns g c = done_all c.loop-k.invariant (omega (arith, c.requires))
