use mathlib.Core.Path.{◌≡◌, refl, sym, ◌∙◌, ap}
use Prim.Native.Nat.{ℕ}
use lib.ListN.{length}
use Rattle.sums.specs.declared.ShapeSums.{ShapeSums}
use Rattle.sums.specs.Sums.{plus, pixel_sums}
use Rattle.gather.specs.Gathered.{pixel_from}
use Rattle.stamp.specs.Digits.{without_first}
use Rattle.gather.specs.Paired.{unpaired_of}
use Rattle.gather.specs.StampSums.{stamp_points}
use Rattle.gather.specs.StampSumLaws.{Turn, turn, done, corner-small}
use native.Mathlib.Omega.{arith}
use Rattle.gather.proofs.points.Pair.push_stamp_any.Goals as goal
use Rattle.gather.proofs.points.Pair.push_stamp_any.Goals.{In-loop-b}

-- `gather::points::Pair::push_stamp_any` meets its contract: a turn for each bit that is 1.

pub overflow_mul-corner : goal.overflow_mul-corner
overflow_mul-corner c = omega (arith, corner-small c.args.left c.args.top c.args.self.w c.requires.window.0 c.requires.window.1 c.requires.window.2)

pub overflow_add-corner : goal.overflow_add-corner
overflow_add-corner c = omega (arith, corner-small c.args.left c.args.top c.args.self.w c.requires.window.0 c.requires.window.1 c.requires.window.2)

pub overflow_mul-corner-2 : goal.overflow_mul-corner-2
overflow_mul-corner-2 c = omega (arith, corner-small c.args.left c.args.top c.args.self.w c.requires.window.0 c.requires.window.1 c.requires.window.2)

pub overflow_mul-row : goal.overflow_mul-row
overflow_mul-row c = omega (arith, c.requires.window.2)

pub loop-b-init : goal.loop-b-init
loop-b-init c =
    (c.ranges.bits.fits, c.requires.bits, c.requires.pixels, refl)

module _ (c : In-loop-b) where
  step : let a = c.args in Turn a.self.w a.self.target.now a.self.canvas.now a.left a.top (length a.self.target.now) c.loop-b.b (unpaired_of c.loop-b.s)
  step =
      let a = c.args in
      let l = c.loop-b in
      turn a.self.w a.self.target.now a.self.canvas.now a.left a.top (length a.self.target.now) l.b (unpaired_of l.s) l.invariant.0 (omega (arith, c.loop-b-test.true)) l.invariant.2

pub first_place-requires : goal.first_place-requires
first_place-requires c = (corner-small c.args.left c.args.top c.args.self.w c.requires.window.0 c.requires.window.1 c.requires.window.2, omega (arith, c.requires.window.2))

pub push_any-s-requires : goal.push_any-s-requires
push_any-s-requires c =
    let t = step (goal.at.push_any-s-requires c).In-loop-b in
    let e = c.first_place.ensures in
    (omega (arith, t.place, e), omega (arith, t.place, e, c.requires.lent), omega (arith, c.loop-b.invariant.1, t.inside))

pub without_first-b-requires : goal.without_first-b-requires
without_first-b-requires c = omega (arith, c.loop-b-test.true)

pub loop-b-smaller : goal.loop-b-smaller
loop-b-smaller c =
    let t = step (goal.at.loop-b-smaller c).In-loop-b in
    rw c.without_first-b.ensures (omega (arith, t.later, t.inside))

pub loop-b-preserved : goal.loop-b-preserved
unfolding plus pixel_sums unpaired_of
loop-b-preserved c =
    let t = step (goal.at.loop-b-preserved c).In-loop-b in
    let l = c.loop-b in
    let a = c.args in
    let r = c.push_any-s.ensures ∙ ap (λ (k : ℕ). plus (unpaired_of l.s) (pixel_from a.self.target.now a.self.canvas.now k)) c.first_place.ensures in
    rw c.without_first-b.ensures (
      t.less,
      omega (arith, ap (λ (q : ShapeSums). q.count) r, l.invariant.1, t.later),
      t.behind,
      ap (stamp_points a.self.w a.self.target.now a.self.canvas.now a.left a.top (without_first l.b)) r ∙ sym t.steps ∙ l.invariant.3,
    )

pub returns : goal.returns
returns c =
    let l = c.loop-b in
    let a = c.args in
    let z : l.b ≡ 0 = omega (arith, c.loop-b-test.false) in
    sym (done a.self.w a.self.target.now a.self.canvas.now a.left a.top (unpaired_of l.s)) ∙ ap (λ (b : ℕ). stamp_points a.self.w a.self.target.now a.self.canvas.now a.left a.top b (unpaired_of l.s)) (sym z) ∙ l.invariant.3
