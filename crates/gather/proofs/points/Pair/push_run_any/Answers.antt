use mathlib.Core.Path.{◌≡◌, sym, ◌∙◌, ap}
use Prim.Native.Nat.{ℕ, ◌+◌, ◌-◌, ◌*◌, ◌≤◌, ◌<◌}
use native.Mathlib.Nat.{mul-le-mul}
use Rattle.sums.specs.declared.ShapeSums.{ShapeSums}
use Rattle.sums.specs.Sums.{plus, pixel_sums}
use Rattle.gather.specs.RunSums.{pixels_added}
use Rattle.gather.specs.Paired.{unpaired_of}
use Rattle.gather.specs.Gathered.{pixel_at}
use Rattle.gather.specs.RunSumLaws.{pixels-none, pixels-more}
use native.Mathlib.Omega.{arith}
use Rattle.gather.proofs.points.Pair.push_run_any.Goals as goal
use Rattle.gather.proofs.points.Pair.push_run_any.Goals.{In-loop-x}

-- `gather::points::Pair::push_run_any` meets its contract: the sums so far are those of the pixels to the left.

small : (y w : ℕ) → y < 256 → w ≤ 256 → y * w ≤ 65536
small y w a b =
    let p : y ≤ 256 = omega arith in
    let m : y * w ≤ 256 * 256 = mul-le-mul p b in
    omega arith

pub loop-x-init : goal.loop-x-init
loop-x-init c =
    let a = c.args in
    let z : a.left - a.left ≡ 0 = omega arith in (
      omega arith,
      c.requires.sizes.2,
      omega arith,
      sym (pixels-none a.self.w a.self.target.now a.self.canvas.now a.y a.left (unpaired_of a.sums))
          ∙ ap (λ (k : ℕ). pixels_added a.self.w a.self.target.now a.self.canvas.now a.y a.left k (unpaired_of a.sums)) (sym z),
    )

module _ (c : In-loop-x) where
  place : c.loop-x.x < c.args.self.w
  place = omega (arith, c.requires.sizes.3, c.loop-x-test.true)

  -- the pixel's three channels lie in the row
  inside : (c.args.y * c.args.self.w + c.loop-x.x) * 3 + 3 ≤ c.args.y * c.args.self.w * 3 + c.args.self.w * 3
  inside = omega (arith, place)

pub overflow_mul-y : goal.overflow_mul-y
overflow_mul-y c = omega (arith, small c.args.y c.args.self.w c.requires.sizes.1 c.requires.sizes.0)

pub overflow_add-y : goal.overflow_add-y
overflow_add-y c = omega (arith, small c.args.y c.args.self.w c.requires.sizes.1 c.requires.sizes.0, place (goal.at.overflow_add-y c).In-loop-x, c.requires.sizes.0)

pub overflow_mul-y-in-loop-x : goal.overflow_mul-y-in-loop-x
overflow_mul-y-in-loop-x c = omega (arith, small c.args.y c.args.self.w c.requires.sizes.1 c.requires.sizes.0, place (goal.at.overflow_mul-y-in-loop-x c).In-loop-x, c.requires.sizes.0)

pub push_any-s-requires : goal.push_any-s-requires
push_any-s-requires c =
    let l = c.loop-x in (
      omega (arith, inside (goal.at.push_any-s-requires c).In-loop-x, c.requires.lent.0),
      omega (arith, inside (goal.at.push_any-s-requires c).In-loop-x, c.requires.lent.1),
      omega (arith, l.invariant.2, c.requires.sizes.4, c.loop-x-test.true, l.invariant.0),
    )

pub loop-x-preserved : goal.loop-x-preserved
unfolding plus pixel_sums unpaired_of
loop-x-preserved c =
    let l = c.loop-x in
    let a = c.args in
    let r = c.push_any-s.ensures in (
      omega (arith, l.invariant.0),
      omega (arith, c.loop-x-test.true),
      omega (arith, ap (λ (q : ShapeSums). q.count) r, l.invariant.2, l.invariant.0),
      r ∙ ap (λ (q : ShapeSums). plus q (pixel_at a.self.w a.self.target.now a.self.canvas.now a.y l.x)) l.invariant.3
          ∙ pixels-more a.self.w a.self.target.now a.self.canvas.now a.y a.left l.x (unpaired_of a.sums) l.invariant.0,
    )

pub returns : goal.returns
returns c =
    let l = c.loop-x in
    let a = c.args in
    let e : l.x ≡ a.right = omega (arith, l.invariant.1, c.loop-x-test.false) in
    l.invariant.3 ∙ ap (λ (x : ℕ). pixels_added a.self.w a.self.target.now a.self.canvas.now a.y a.left (x - a.left) (unpaired_of a.sums)) e
