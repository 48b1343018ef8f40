use mathlib.Core.Path.{refl}
use Prim.Native.Nat.{◌*◌, ◌/◌}
use Rattle.brush.specs.BrushLaws.{done_none, done_more, done_all}
use native.Mathlib.Omega.{arith}
use Rattle.brush.proofs.blend_run.Goals as goal

-- The groups of four, then the pixels that are left.

pub returns : goal.returns
returns c =
    let n = c.args.n in
    let s1 = done_more (n / 4 * 4) 0 (n / 4 * 12) (done_none {old = c.args.run.now}) refl (omega arith) (omega arith) (omega (arith, c.requires)) c.blend_parts.ensures in
    let s2 = done_more n (n / 4 * 12) (n * 3) s1 (omega arith) refl (omega arith) (omega (arith, c.requires)) c.blend_parts-2.ensures in
    done_all s2 (omega (arith, c.requires))
