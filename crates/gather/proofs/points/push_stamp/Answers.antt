use mathlib.Core.Path.{◌≡◌, sym, ◌∙◌, ap}
use Prim.Native.Nat.{ℕ, ◌+◌, ◌*◌}
use lib.ListN.{length}
use Rattle.sums.specs.declared.ShapeSums.{ShapeSums}
use Rattle.sums.specs.Sums.{plus, pixel_sums}
use Rattle.gather.specs.Gathered.{pixel_from}
use Rattle.stamp.specs.Digits.{without_first}
use Rattle.gather.specs.Paired.{unpaired_of}
use Rattle.gather.specs.StampSums.{stamp_points, first_place}
use Rattle.gather.specs.StampSumLaws.{Turn, turn, done, corner-small}
use Rattle.gather.specs.RunSumLaws.{no_count}
use native.Mathlib.Omega.{arith}
use Rattle.gather.proofs.points.push_stamp.Goals as goal
use Rattle.gather.proofs.points.push_stamp.Goals.{In-loop-b}

-- `gather::points::push_stamp` meets its contract: a turn for each bit that is 1, until there is a NaN.

pub overflow_mul-corner : goal.overflow_mul-corner
overflow_mul-corner c = omega (arith, corner-small c.args.left c.args.top c.args.w c.requires.window.0 c.requires.window.1 c.requires.window.2)

pub overflow_add-corner : goal.overflow_add-corner
overflow_add-corner c = omega (arith, corner-small c.args.left c.args.top c.args.w c.requires.window.0 c.requires.window.1 c.requires.window.2)

pub overflow_mul-corner-2 : goal.overflow_mul-corner-2
overflow_mul-corner-2 c = omega (arith, corner-small c.args.left c.args.top c.args.w c.requires.window.0 c.requires.window.1 c.requires.window.2)

pub overflow_mul-row : goal.overflow_mul-row
overflow_mul-row c = omega (arith, c.requires.window.2)

pub first_place-at-requires : goal.first_place-at-requires
first_place-at-requires c = (corner-small c.args.left c.args.top c.args.w c.requires.window.0 c.requires.window.1 c.requires.window.2, omega (arith, c.requires.window.2))

pub loop-b-init : goal.loop-b-init
unfolding unpaired_of
loop-b-init c =
    let a = c.args in
    let e = c.no_pairs-s.ensures in (
      c.ranges.bits.fits,
      omega (arith, ap (λ (q : ShapeSums). q.count) e, no_count),
      c.requires.pixels,
      c.first_place-at.ensures,
      ap (stamp_points a.w a.target.now a.canvas.now a.left a.top a.bits) e,
    )

module _ (c : In-loop-b) where
  step : let a = c.args in Turn a.w a.target.now a.canvas.now a.left a.top (length a.target.now) c.loop-b.b (unpaired_of c.loop-b.s)
  step =
      let a = c.args in
      let l = c.loop-b in
      turn a.w a.target.now a.canvas.now a.left a.top (length a.target.now) l.b (unpaired_of l.s) l.invariant.0 (omega (arith, c.loop-b-test.true)) l.invariant.2

pub without_first-rest-requires : goal.without_first-rest-requires
without_first-rest-requires c = omega (arith, c.loop-b-test.true)

pub first_place-next-requires : goal.first_place-next-requires
first_place-next-requires c = (corner-small c.args.left c.args.top c.args.w c.requires.window.0 c.requires.window.1 c.requires.window.2, omega (arith, c.requires.window.2))

pub numbers_at-requires : goal.numbers_at-requires
numbers_at-requires c =
    let t = step (goal.at.numbers_at-requires c).In-loop-b in
    let e = c.loop-b.invariant.3 in
    (omega (arith, t.place, e), omega (arith, t.place, e, c.requires.lent))

pub push_stamp_any-requires : goal.push_stamp_any-requires
push_stamp_any-requires c =
    let l = c.loop-b in
    record { bits = l.invariant.1; window = c.requires.window; lent = c.requires.lent; pixels = l.invariant.2 }

pub returns-then-not-numbers_at : goal.returns-then-not-numbers_at
returns-then-not-numbers_at c = c.push_stamp_any.ensures ∙ c.loop-b.invariant.4

pub push_numbers-s-requires : goal.push_numbers-s-requires
push_numbers-s-requires c =
    let t = step (goal.at.push_numbers-s-requires c).In-loop-b in
    let e = c.loop-b.invariant.3 in record { at_in_bounds = (omega (arith, t.place, e), omega (arith, t.place, e, c.requires.lent), omega (arith, c.loop-b.invariant.1, t.inside)); numbers_in = c.numbers_at.ensures (c.if-not-numbers_at.false) }

pub loop-b-smaller : goal.loop-b-smaller
loop-b-smaller c =
    let t = step (goal.at.loop-b-smaller c).In-loop-b in
    rw c.without_first-rest.ensures (omega (arith, t.later, t.inside))

pub loop-b-preserved : goal.loop-b-preserved
unfolding plus pixel_sums unpaired_of
loop-b-preserved c =
    let t = step (goal.at.loop-b-preserved c).In-loop-b in
    let l = c.loop-b in
    let a = c.args in
    let r = c.push_numbers-s.ensures ∙ ap (λ (k : ℕ). plus (unpaired_of l.s) (pixel_from a.target.now a.canvas.now k)) l.invariant.3 in
    let e = c.without_first-rest.ensures in
    rw e (
      t.less,
      omega (arith, ap (λ (q : ShapeSums). q.count) r, l.invariant.1, t.later),
      t.behind,
      c.first_place-next.ensures ∙ ap (first_place ((a.top * a.w + a.left) * 3) (a.w * 3)) e,
      ap (stamp_points a.w a.target.now a.canvas.now a.left a.top (without_first l.b)) r ∙ sym t.steps ∙ l.invariant.4,
    )

pub returns : goal.returns
returns c =
    let l = c.loop-b in
    let a = c.args in
    let z : l.b ≡ 0 = omega (arith, c.loop-b-test.false) in
    sym (done a.w a.target.now a.canvas.now a.left a.top (unpaired_of l.s)) ∙ ap (λ (b : ℕ). stamp_points a.w a.target.now a.canvas.now a.left a.top b (unpaired_of l.s)) (sym z) ∙ l.invariant.4
