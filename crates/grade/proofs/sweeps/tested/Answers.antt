use mathlib.Core.Path.{sym, ◌∙◌}
use Rattle.grade.specs.AlphaSweepLaws.{count_range, sweep_length, sweep_count, sweep_opacity, sweep_none}
use native.Mathlib.Omega.{arith}
use Rattle.grade.proofs.sweeps.tested.Goals as goal

-- `grade::sweeps::tested` meets its contract: the tests come in the order of their numbers.

pub returns-then-levels-ne64 : goal.returns-then-levels-ne64
returns-then-levels-ne64 c = let a = c.args in sweep_length a.levels.now a.n c.if-levels-ne64.true

pub returns-then-bad_level_count : goal.returns-then-bad_level_count
returns-then-bad_level_count c =
    let a = c.args in
    sweep_count a.levels.now a.n c.if-levels-ne64.false (sym c.bad_level_count.ensures ∙ c.if-bad_level_count.true)

pub bad_first_levels-requires : goal.bad_first_levels-requires
bad_first_levels-requires c =
    let a = c.args in
    omega (arith, (count_range a.n (sym c.bad_level_count.ensures ∙ c.if-bad_level_count.false)).1, c.if-levels-ne64.false)

pub returns-then-bad_first_levels : goal.returns-then-bad_first_levels
returns-then-bad_first_levels c =
    let a = c.args in
    sweep_opacity a.levels.now a.n c.if-levels-ne64.false (sym c.bad_level_count.ensures ∙ c.if-bad_level_count.false) (sym c.bad_first_levels.ensures ∙ c.if-bad_first_levels.true)

pub returns : goal.returns
returns c =
    let a = c.args in
    sweep_none a.levels.now a.n c.if-levels-ne64.false (sym c.bad_level_count.ensures ∙ c.if-bad_level_count.false) (sym c.bad_first_levels.ensures ∙ c.if-bad_first_levels.false)
