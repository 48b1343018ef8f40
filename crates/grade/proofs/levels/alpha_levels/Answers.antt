use mathlib.Core.Path.{◌∙◌, ap}
use Prim.Native.Nat.{ℕ}
use Rattle.laws.specs.Tab.{tab}
use Rattle.grade.specs.Levels.{level_at, levels}
use Rattle.grade.specs.LevelLaws.{says_length, says_bits, says_levels}
use Rattle.grade.proofs.levels.alpha_levels.Goals as goal

-- `grade::levels::alpha_levels` meets its contract: one law for each way out.

pub returns-then-levels-ne64 : goal.returns-then-levels-ne64
returns-then-levels-ne64 c = says_length c.args.bits c.args.levels.now c.if-levels-ne64.true

pub returns-then-bits-gt6 : goal.returns-then-bits-gt6
returns-then-bits-gt6 c =
    says_bits c.args.bits c.args.levels.now c.if-levels-ne64.false c.if-bits-gt6.true

pub returns : goal.returns
unfolding levels
returns c =
    says_levels c.args.bits c.args.levels.now _ c.if-levels-ne64.false c.if-bits-gt6.false
    (c.fill_levels.ensures ∙ ap (λ (k : ℕ). tab (level_at k) 64) c.count_of.ensures.0)
