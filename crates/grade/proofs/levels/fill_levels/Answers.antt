use mathlib.Core.Path.{refl, sym, ◌∙◌}
use Prim.Native.Nat.{◌<◌}
use lib.ListN.{length-set}
use Rattle.float.specs.Within.{nought}
use Rattle.laws.specs.Tab.{tab}
use Rattle.laws.specs.TabLaws.{length-tab, get_d_tab}
use Rattle.laws.specs.Fill.{agree-more, agree-all}
use Rattle.grade.specs.Levels.{level_at}
use native.Mathlib.Omega.{arith}
use Rattle.grade.proofs.levels.fill_levels.Goals as goal

-- `grade::levels::fill_levels` meets its contract: the places so far agree with the list.

pub loop-i-init : goal.loop-i-init
loop-i-init c = (omega arith, c.requires.1, refl)

pub loop-i-preserved : goal.loop-i-preserved
loop-i-preserved c =
    let l = c.loop-i in
    let a = c.args in
    let g : l.i < 64 = omega arith in (
      omega arith,
      simp length-set l.invariant.1,
      agree-more l.levels (tab (level_at a.n) 64) l.i nought c.level_at.result (l.invariant.1 ∙ sym (length-tab (level_at a.n) 64))
          (omega (arith, l.invariant.1)) l.invariant.2 (c.level_at.ensures ∙ sym (get_d_tab (level_at a.n) 64 l.i nought g)),
    )

pub returns : goal.returns
returns c =
    let l = c.loop-i in
    agree-all l.levels (tab (level_at c.args.n) 64) l.i (l.invariant.1 ∙ sym (length-tab (level_at c.args.n) 64)) (omega (arith, length-tab (level_at c.args.n) 64)) l.invariant.2
