use mathlib.Core.Path.{◌≡◌, refl, subst}
use Prim.Native.Nat.{ℕ}
use Rattle.table.specs.Fills.{NumbersBetween}
use Rattle.table.specs.LentLaws.{numbers_more}
use native.Mathlib.Omega.{arith}
use Rattle.table.proofs.all_numbers.Goals as goal

-- While `ok` is true, the numbers passed are no NaN.

pub loop-k-init : goal.loop-k-init
loop-k-init c = (omega arith, omega arith, λ e k l m. absurd (omega arith))

pub loop-k-preserved : goal.loop-k-preserved
loop-k-preserved c =
    let a = c.args in
    (omega arith, omega arith, numbers_more a.target.now a.canvas.now a.from c.loop-k.k c.loop-k.ok _ refl c.loop-k.invariant.2)

pub returns : goal.returns
returns c e =
    let l = c.loop-k in
    let a = c.args in
    let z : l.k ≡ a.to = omega arith in
    subst (λ (k : ℕ). NumbersBetween a.from k a.target.now a.canvas.now) z (l.invariant.2 e)
