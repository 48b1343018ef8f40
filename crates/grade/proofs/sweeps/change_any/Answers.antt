use mathlib.Core.Path.{◌≡◌, refl, sym, ◌∙◌, ap}
use Rattle.grade.specs.FinalizeLaws.{counted_steps, finalized-none}
use Rattle.grade.specs.Finalize.{rest, no_score}
use lib.Ieee.{of_bits}
use Rattle.grade.specs.declared.Score.{Score}
use native.Mathlib.Omega.{arith}
use Rattle.grade.proofs.sweeps.change_any.Goals as goal
use Rattle.grade.proofs.sweeps.change_any.Goals.{After-widen-a}

-- `grade::sweeps::change_any` meets its contract: it is the change of the score.

pub returns-then-count-eq0 : goal.returns-then-count-eq0
unfolding of_bits no_score
returns-then-count-eq0 c =
    ap (λ (r : Score). r.change) (finalized-none c.args.s c.args.opacity c.if-count-eq0.true)

-- both opacities, as the rule has them
rest-is : (w : After-widen-a) → w.rest_of-m.result ≡ rest w.widen-a.result
rest-is w = w.rest_of-m.ensures ∙ ap rest (sym w.widen-a.ensures)

pub colour_at-red-requires : goal.colour_at-red-requires
colour_at-red-requires c = record { channel = omega arith; rest = rest-is (goal.at.colour_at-red-requires c).After-widen-a; pixels = refl }

pub colour_at-green-requires : goal.colour_at-green-requires
colour_at-green-requires c = record { channel = omega arith; rest = rest-is (goal.at.colour_at-green-requires c).After-widen-a; pixels = refl }

pub colour_at-blue-requires : goal.colour_at-blue-requires
colour_at-blue-requires c = record { channel = omega arith; rest = rest-is (goal.at.colour_at-blue-requires c).After-widen-a; pixels = refl }

pub all_after-after-requires : goal.all_after-after-requires
all_after-after-requires c =
    record { rest = rest-is (goal.at.all_after-after-requires c).After-widen-a; pixels = refl; colours = (c.colour_at-red.ensures, c.colour_at-green.ensures, c.colour_at-blue.ensures) }

pub returns : goal.returns
returns c =
    ap (λ (r : Score). r.change)
    (counted_steps c.args.s c.args.opacity c.widen-a.result c.all_after-after.result c.args.before c.narrow.result c.args.s.count c.widen-a.ensures _ _ _ (refl, c.if-count-eq0.false)
    (c.colour_at-red.ensures, c.colour_at-green.ensures, c.colour_at-blue.ensures) c.all_after-after.ensures c.requires c.narrow.ensures)
