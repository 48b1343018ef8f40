use mathlib.Core.Path.{◌≡◌, refl, sym, ap, ◌∙◌}
use Prim.Native.Nat.{ℕ}
use native.Mathlib.Omega.{arith}
use lib.ListN.{length, take, length-set}
use Rattle.laws.specs.Tab.{tab}
use Rattle.crossing.specs.Crossed.{shape_at}
use Rattle.crossing.specs.CrossedLaws.{tab-none, items_next}
use borrow.Author.Rules.{rules}
use Rattle.crossing.proofs.lists.read_list.Goals as goal

-- The loop carries the shapes read so far.

pub loop-i-init : goal.loop-i-init
loop-i-init c = (search rules, sym (tab-none _))

pub loop-i-preserved : goal.loop-i-preserved
loop-i-preserved c = (
  simp length-set c.loop-i.invariant.0,
  items_next _ _ c.loop-i.i _ (omega (arith, c.loop-i.invariant.0)) c.loop-i.invariant.1 c.shape_at.ensures,
)

pub returns : goal.returns
returns c =
    let e : c.loop-i.i ≡ length c.args.sizes.now = omega arith in
    (refl, ap (λ (k : ℕ). take k c.loop-i.items) (sym e) ∙ c.loop-i.invariant.1 ∙ ap (tab _) e)
