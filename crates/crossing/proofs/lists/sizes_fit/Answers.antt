use Rattle.std.proofs.Common.{refl, arith}
use Rattle.laws.specs.Every.{every}
use Rattle.laws.specs.EveryLaws.{every-step, every-end}
use Rattle.crossing.specs.Crossed.{sized_or}
use Rattle.crossing.proofs.lists.sizes_fit.Goals as goal

-- The loop carries the test of the sizes passed.

pub loop-n-init : goal.loop-n-init
unfolding every
loop-n-init c = refl

pub loop-n-preserved : goal.loop-n-preserved
loop-n-preserved c =
    let a = c.args in
    every-step (sized_or a.gaps) a.sizes.now c.loop-n.n-index 0 c.loop-n.ok c.size_fits-ok.result (omega arith) c.loop-n.invariant c.size_fits-ok.ensures

pub returns : goal.returns
returns c =
    let a = c.args in
    every-end (sized_or a.gaps) a.sizes.now c.loop-n.n-index c.loop-n.ok (omega arith) c.loop-n.invariant
