use mathlib.Core.Path.{◌≡◌, sym, ◌∙◌, ap, subst}
use mathlib.Core.Bool.{true, ◌&&◌}
use Prim.Native.Nat.{ℕ}
use lib.Dec.{T}
use lib.Ieee.{Float, binary64, of_bits}
use Rattle.laws.specs.Bools.{and_left, and_right}
use Rattle.laws.specs.F64.{◌⊗◌}
use Rattle.float.specs.Within.{number}
use Rattle.float.specs.Clamped.{clamped}
use Rattle.float.specs.Narrowed.{narrowed}
use Rattle.float.specs.MarksLaws.{addends}
use Rattle.float.specs.NarrowLaws.{narrowed_no_nan}
use Rattle.sums.specs.Sums.{channel}
use Rattle.grade.specs.Finalize.{rest, wanted_of, colour_at}
use Rattle.grade.specs.FinalizeLaws.{clamped-number, finalized-none}
use Rattle.grade.specs.Parts.{parts_of, Parted}
use Rattle.grade.specs.PartLaws.{parted_known}
use Rattle.grade.proofs.parts.finalize_from.Goals as goal
use Rattle.grade.proofs.parts.finalize_from.Goals.{After-clamp01-b, After-rounded-then-plain-2, After-widen-a, Then-denom, Then-plain, Then-sum}

-- `grade::parts::finalize_from` meets its contract: colours whose sum is a number are numbers, and held to 0..1 they are rounded by their patterns.

pub returns-then-count-eq0 : goal.returns-then-count-eq0
returns-then-count-eq0 c =
    c.no_score.ensures ∙ finalized-none c.args.s c.args.opacity (sym c.requires.count ∙ c.if-count-eq0.true)

-- both opacities, as the rule has them
rest-is : (w : After-widen-a) → w.rest_of-m.result ≡ rest w.widen-a.result
rest-is w = w.rest_of-m.ensures ∙ ap rest (sym w.widen-a.ensures)

-- what both ways out are told of the sums
module _ (w : After-widen-a) where
  some : (w.args.count ≡ w.args.s.count) × (w.args.s.count ≡ 0 → ⊥)
  some = (w.requires.count, λ z. w.if-count-eq0.false (w.requires.count ∙ z))

  parts : let x = w.args in Parted x.s w.rest_of-m.result x.n (parts_of x.t0 x.t1 x.t2 x.c0 x.c1 x.c2 x.l0 x.l1 x.l2)
  parts =
      let x = w.args in
      subst (λ (m : Float). Parted x.s m x.n (parts_of x.t0 x.t1 x.t2 x.c0 x.c1 x.c2 x.l0 x.l1 x.l2)) (sym w.rest_of-m.ensures) w.requires.parts

-- the three before they are held to 0..1, and after
numbers : (c : Then-sum) → T (number c.wanted-red.result) × T (number c.wanted-green.result) × T (number c.wanted-blue.result)
numbers c = addends binary64 c.wanted-red.result c.wanted-green.result c.wanted-blue.result c.if-sum.true

module _ (k : After-clamp01-b) where
  abbrev then3 : Then-sum
  then3 = k.before.before.before

  red-number : T (number k.clamp01-r.result)
  red-number = rw k.clamp01-r.ensures (clamped-number _ (numbers then3).0)

  green-number : T (number k.clamp01-g.result)
  green-number = rw k.clamp01-g.ensures (clamped-number _ (numbers then3).1)

  blue-number : T (number k.clamp01-b.result)
  blue-number = rw k.clamp01-b.ensures (clamped-number _ (numbers then3).2)

pub plain-requires : goal.plain-requires
plain-requires c = red-number (goal.at.plain-requires c).After-clamp01-b

pub plain-requires-then-sum : goal.plain-requires-then-sum
plain-requires-then-sum c = green-number (goal.at.plain-requires-then-sum c).After-clamp01-b

pub plain-requires-then-sum-2 : goal.plain-requires-then-sum-2
plain-requires-then-sum-2 c = blue-number (goal.at.plain-requires-then-sum-2 c).After-clamp01-b

-- the three tests
module _ (c : Then-plain) where
  abbrev held : After-clamp01-b
  held = c.before.before.before.before

  both : c.plain.result && c.plain-then-sum.result ≡ true
  both = and_left (c.plain.result && c.plain-then-sum.result) c.plain-then-sum-2.result c.if-plain.true

pub rounded-requires : goal.rounded-requires
rounded-requires c = (red-number (held (goal.at.rounded-requires c).Then-plain), c.plain.ensures (and_left c.plain.result c.plain-then-sum.result (both (goal.at.rounded-requires c).Then-plain)))

pub rounded-requires-then-plain : goal.rounded-requires-then-plain
rounded-requires-then-plain d = (green-number (held (goal.at.rounded-requires-then-plain d).Then-plain), d.plain-then-sum.ensures (and_right d.plain.result d.plain-then-sum.result (both (goal.at.rounded-requires-then-plain d).Then-plain)))

pub rounded-requires-then-plain-2 : goal.rounded-requires-then-plain-2
rounded-requires-then-plain-2 d = (blue-number (held (goal.at.rounded-requires-then-plain-2 d).Then-plain), d.plain-then-sum-2.ensures (and_right (d.plain.result && d.plain-then-sum.result) d.plain-then-sum-2.result d.if-plain.true))

pub finalize_any-requires : goal.finalize_any-requires
finalize_any-requires c =
    let w = (goal.at.finalize_any-requires c).After-widen-a in
    record { before = c.requires.before; some = some w; parts = parts w; opacity = (c.widen-a.ensures, rest-is w) }

-- the colours are the rule's, and numbers
module _ (c : After-rounded-then-plain-2) where
  abbrev four : Then-plain
  four = c.before.before.before

  abbrev clamps : After-clamp01-b
  clamps = held four

  abbrev three : Then-sum
  three = then3 clamps

  abbrev then2 : Then-denom
  then2 = three.before.before.before.before

  abbrev widened : After-widen-a
  widened = then2.before

  step : (ch : ℕ) (t v p q u : Float) → t ≡ channel c.args.s.s_t ch → v ≡ channel c.args.s.s_c ch → p ≡ narrowed q → q ≡ clamped u
      → u ≡ wanted_of t v widened.rest_of-m.result (widened.widen-a.result ⊗ c.args.n) → p ≡ colour_at c.args.s widened.widen-a.result ch
  unfolding of_bits
  step ch t v p q u ht hv =
      parted_known c.args.s widened.widen-a.result widened.rest_of-m.result c.args.n (rest-is widened) (parts widened).pixels ch t v ht hv p q u c.if-denom.true

  colours : (c.rounded.result ≡ colour_at c.args.s widened.widen-a.result 0)
      × (c.rounded-then-plain.result ≡ colour_at c.args.s widened.widen-a.result 1)
      × (c.rounded-then-plain-2.result ≡ colour_at c.args.s widened.widen-a.result 2)
  colours =
      let d = parts widened in (
        step 0 _ _ _ _ _ d.target.0 d.canvas.0 c.rounded.ensures clamps.clamp01-r.ensures three.wanted-red.ensures,
        step 1 _ _ _ _ _ d.target.1 d.canvas.1 c.rounded-then-plain.ensures clamps.clamp01-g.ensures three.wanted-green.ensures,
        step 2 _ _ _ _ _ d.target.2 d.canvas.2 c.rounded-then-plain-2.ensures clamps.clamp01-b.ensures three.wanted-blue.ensures,
      )

  numbers_of : T (number c.rounded.result) × T (number c.rounded-then-plain.result) × T (number c.rounded-then-plain-2.result)
  numbers_of = (
    rw c.rounded.ensures (narrowed_no_nan _ (red-number clamps)),
    rw c.rounded-then-plain.ensures (narrowed_no_nan _ (green-number clamps)),
    rw c.rounded-then-plain-2.ensures (narrowed_no_nan _ (blue-number clamps)),
  )

pub plain_score-requires : goal.plain_score-requires
plain_score-requires c =
    let r = (goal.at.plain_score-requires c).After-rounded-then-plain-2 in
    let w = widened r in
    record { before = c.requires.before; some = some w; parts = parts w; opacity = (c.widen-a.ensures, rest-is w); colours = colours r; numbers = numbers_of r }
