use mathlib.Core.Path.{◌≡◌, refl, sym, ◌∙◌, ap}
use native.Mathlib.Omega.{arith}
use lib.Dec.{T}
use Prim.Native.Nat.{ℕ}
use lib.Ieee.{Float, binary64, of_bits}
use Rattle.laws.specs.F64.{◌⊗◌}
use Rattle.float.specs.Within.{number}
use Rattle.float.specs.Clamped.{clamped}
use Rattle.float.specs.Narrowed.{narrowed}
use Rattle.float.specs.MarksLaws.{addends}
use Rattle.grade.specs.declared.Score.{Score}
use Rattle.grade.specs.Finalize.{rest, no_score, count_of, wanted_at, colour_at}
use Rattle.grade.specs.FinalizeLaws.{known_step, counted_steps, finalized-none}
use Rattle.grade.proofs.sweeps.change_from.Goals as goal
use Rattle.grade.proofs.sweeps.change_from.Goals.{After-known_colour-then-sum-2, Then-sum}

-- `grade::sweeps::change_from` meets its contract: it is the change of the score; colours whose sum is a number are numbers.

pub returns-then-count-eq0 : goal.returns-then-count-eq0
unfolding of_bits no_score
returns-then-count-eq0 c = ap (λ (r : Score). r.change) (finalized-none c.args.s c.args.opacity c.if-count-eq0.true)

pub wanted_at-red-requires : goal.wanted_at-red-requires
wanted_at-red-requires c = omega arith

pub wanted_at-green-requires : goal.wanted_at-green-requires
wanted_at-green-requires c = omega arith

pub wanted_at-blue-requires : goal.wanted_at-blue-requires
wanted_at-blue-requires c = omega arith

-- the three before they are held to 0..1
numbers : (c : Then-sum) → T (number c.wanted_at-red.result) × T (number c.wanted_at-green.result) × T (number c.wanted_at-blue.result)
numbers c = addends binary64 c.wanted_at-red.result c.wanted_at-green.result c.wanted_at-blue.result c.if-sum.true

-- the colours are the rule's
module _ (c : After-known_colour-then-sum-2) where
  step : (p : Float) (ch : ℕ) → p ≡ narrowed (clamped (wanted_at c.args.s ch c.rest_of-m.result (c.widen-a.result ⊗ count_of c.args.s))) → p ≡ colour_at c.args.s c.widen-a.result ch
  unfolding of_bits
  step p ch = known_step c.args.s c.widen-a.result c.rest_of-m.result (count_of c.args.s) (c.rest_of-m.ensures ∙ ap rest (sym c.widen-a.ensures)) refl p ch c.if-denom.true

  colours : (c.known_colour.result ≡ colour_at c.args.s c.widen-a.result 0)
      × (c.known_colour-then-sum.result ≡ colour_at c.args.s c.widen-a.result 1)
      × (c.known_colour-then-sum-2.result ≡ colour_at c.args.s c.widen-a.result 2)
  colours = (
    step _ 0 (c.known_colour.ensures ∙ ap (λ (q : Float). narrowed (clamped q)) c.wanted_at-red.ensures),
    step _ 1 (c.known_colour-then-sum.ensures ∙ ap (λ (q : Float). narrowed (clamped q)) c.wanted_at-green.ensures),
    step _ 2 (c.known_colour-then-sum-2.ensures ∙ ap (λ (q : Float). narrowed (clamped q)) c.wanted_at-blue.ensures),
  )

pub all_wide-after-requires : goal.all_wide-after-requires
all_wide-after-requires c = record { rest = c.rest_of-m.ensures ∙ ap rest (sym c.widen-a.ensures); pixels = refl; colours = colours (goal.at.all_wide-after-requires c).After-known_colour-then-sum-2 }

pub returns-then-sum : goal.returns-then-sum
returns-then-sum c =
    ap (λ (r : Score). r.change)
    (counted_steps c.args.s c.args.opacity c.widen-a.result c.all_wide-after.result c.args.before c.narrow.result c.args.s.count c.widen-a.ensures _ _ _ (refl, c.if-count-eq0.false)
    (colours (goal.at.returns-then-sum c).After-known_colour-then-sum-2) c.all_wide-after.ensures c.requires c.narrow.ensures)

pub known_colour-requires : goal.known_colour-requires
known_colour-requires c = (numbers (goal.at.known_colour-requires c).Then-sum).0

pub known_colour-requires-then-sum : goal.known_colour-requires-then-sum
known_colour-requires-then-sum c = (numbers (goal.at.known_colour-requires-then-sum c).Then-sum).1

pub known_colour-requires-then-sum-2 : goal.known_colour-requires-then-sum-2
known_colour-requires-then-sum-2 c = (numbers (goal.at.known_colour-requires-then-sum-2 c).Then-sum).2
