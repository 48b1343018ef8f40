use Rattle.std.proofs.Common.{◌≡◌, ℕ, ap, ◌∙◌, ◌+◌, ◌*◌, ◌≤◌, add-mul, one-mul, zero-mul, mul-le-mul_right, arith}
use Rattle.brush.specs.BrushLaws.{done_none, done_more, done_all}
use Rattle.brush.proofs.blend_parts.Goals as goal

-- The parts passed are done.

pub loop-k-init : goal.loop-k-init
loop-k-init g c = rw (zero-mul g.row.N) done_none

pub loop-k-preserved : goal.loop-k-preserved
loop-k-preserved g c =
    let l = c.loop-k in
    let k = l.k in
    let n = g.row.N in
    let past : k + 1 ≤ c.args.n = omega arith in
    let next : (k + 1) * n ≡ k * n + n = add-mul k 1 n ∙ ap (λ (z : ℕ). k * n + z) (one-mul n) in
    done_more ((k + 1) * n) (k * n * 3) (k * n * 3 + n * 3) l.invariant (omega arith) (omega (arith, next)) (omega arith) (omega (arith, c.requires, next, mul-le-mul_right n past)) c.blend_part.ensures

pub shape_of-run : goal.shape_of-run
shape_of-run g c = c.loop-k.invariant.long

pub returns : goal.returns
returns g c =
    let all : c.args.n ≤ c.loop-k.k = omega arith in
    done_all c.loop-k.invariant (omega (arith, c.requires, mul-le-mul_right g.row.N all))
