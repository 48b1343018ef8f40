use mathlib.Core.Path.{◌≡◌, sym, ◌∙◌, ap}
use Prim.Native.Nat.{ℕ, ◌+◌, ◌-◌, ◌*◌, ◌≤◌, ◌<◌}
use lib.ListN.{length, get_or}
use native.Mathlib.Omega.{arith}
use Rattle.laws.specs.RowLaws.{row-le}
use Rattle.sums.specs.declared.ShapeSums.{ShapeSums}
use Rattle.gather.specs.Paired.{unpaired_of}
use Rattle.gather.specs.RunSums.{run_left, run_right, pixels_added, points_added}
use Rattle.gather.specs.RunSumLaws.{no_count, pixels-count, points_none, points_more}
use Rattle.gather.proofs.points.Pair.push_rows.Goals as goal
use Rattle.gather.proofs.points.Pair.push_rows.Goals.{In-loop-y}

-- `gather::points::Pair::push_rows` meets its contract: the sums so far are those of the rows above.

pub loop-y-init : goal.loop-y-init
unfolding unpaired_of
loop-y-init c =
    let a = c.args in
    let z : a.top - a.top ≡ 0 = omega arith in
    let n = c.no_pairs-s.ensures in (
      omega arith,
      c.requires.sizes.1,
      omega (arith, ap (λ (s : ShapeSums). s.count) n, no_count),
      n ∙ sym (points_none a.self.w a.self.target.now a.self.canvas.now a.runs.now a.top) ∙ ap (points_added a.self.w a.self.target.now a.self.canvas.now a.runs.now a.top) (sym z),
    )

module _ (c : In-loop-y) where
  below : c.loop-y.y < 256
  below = omega (arith, c.requires.sizes)

  run : (get_or c.args.runs.now (c.loop-y.y * 2) 0
      ≤ get_or c.args.runs.now (c.loop-y.y * 2 + 1) 0)
      × (get_or c.args.runs.now (c.loop-y.y * 2 + 1) 0 ≤ c.args.self.w)
  run = c.requires.runs c.loop-y.y c.loop-y.invariant.0 c.loop-y-test.true

  -- row y of a picture of enough numbers
  inside : (n : ℕ) → c.args.bottom * (c.args.self.w * 3) ≤ n
      → c.loop-y.y * c.args.self.w * 3 + c.args.self.w * 3 ≤ n
  inside n h = omega (arith, row-le (c.args.self.w * 3) c.loop-y-test.true)

pub overflow_mul-left : goal.overflow_mul-left
overflow_mul-left c = omega (arith, below (goal.at.overflow_mul-left c).In-loop-y)

pub offset_bounds-runs-y : goal.offset_bounds-runs-y
offset_bounds-runs-y c = omega (arith, below (goal.at.offset_bounds-runs-y c).In-loop-y)

pub bounds-runs-y : goal.bounds-runs-y
bounds-runs-y c = omega (arith, below (goal.at.bounds-runs-y c).In-loop-y)

pub overflow_cast-left : goal.overflow_cast-left
overflow_cast-left c = omega (arith, (run (goal.at.overflow_cast-left c).In-loop-y).0, (run (goal.at.overflow_cast-left c).In-loop-y).1, c.requires.sizes.0)

pub overflow_mul-right : goal.overflow_mul-right
overflow_mul-right c = omega (arith, below (goal.at.overflow_mul-right c).In-loop-y)

pub overflow_add-right : goal.overflow_add-right
overflow_add-right c = omega (arith, below (goal.at.overflow_add-right c).In-loop-y)

pub offset_bounds-runs-y-in-loop-y : goal.offset_bounds-runs-y-in-loop-y
offset_bounds-runs-y-in-loop-y c = omega (arith, below (goal.at.offset_bounds-runs-y-in-loop-y c).In-loop-y)

pub bounds-runs-y-in-loop-y : goal.bounds-runs-y-in-loop-y
bounds-runs-y-in-loop-y c = omega (arith, below (goal.at.bounds-runs-y-in-loop-y c).In-loop-y)

pub overflow_cast-right : goal.overflow_cast-right
overflow_cast-right c = omega (arith, (run (goal.at.overflow_cast-right c).In-loop-y).1, c.requires.sizes.0)

-- 256 rows of 256 pixels: the count fits
pub push_row-s-requires : goal.push_row-s-requires
push_row-s-requires c = record {
  sizes = (
    c.requires.sizes.0,
    below (goal.at.push_row-s-requires c).In-loop-y,
    (run (goal.at.push_row-s-requires c).In-loop-y).0,
    (run (goal.at.push_row-s-requires c).In-loop-y).1,
    omega (arith, (run (goal.at.push_row-s-requires c).In-loop-y).0, (run (goal.at.push_row-s-requires c).In-loop-y).1, below (goal.at.push_row-s-requires c).In-loop-y, c.loop-y.invariant.2, c.requires.sizes.0),
  );
  lent = (inside (goal.at.push_row-s-requires c).In-loop-y (length c.args.self.target.now) c.requires.sizes.3, inside (goal.at.push_row-s-requires c).In-loop-y (length c.args.self.canvas.now) c.requires.sizes.4);
}

pub loop-y-preserved : goal.loop-y-preserved
unfolding unpaired_of
loop-y-preserved c =
    let l = c.loop-y in
    let a = c.args in
    let r = c.push_row-s.ensures in (
      omega (arith, l.invariant.0),
      omega (arith, c.loop-y-test.true),
      omega (arith, ap (λ (q : ShapeSums). q.count) r, pixels-count a.self.w a.self.target.now a.self.canvas.now l.y (run_left a.runs.now l.y) (run_right a.runs.now l.y - run_left a.runs.now l.y) (unpaired_of l.s), (run (goal.at.loop-y-preserved c).In-loop-y).0, (run (goal.at.loop-y-preserved c).In-loop-y).1, c.requires.sizes.0, l.invariant.0, l.invariant.2),
      r ∙ ap (pixels_added a.self.w a.self.target.now a.self.canvas.now l.y (run_left a.runs.now l.y) (run_right a.runs.now l.y - run_left a.runs.now l.y)) l.invariant.3
          ∙ points_more a.self.w a.self.target.now a.self.canvas.now a.runs.now a.top l.y l.invariant.0,
    )

pub returns : goal.returns
returns c =
    let l = c.loop-y in
    let a = c.args in
    let e : l.y ≡ a.bottom = omega (arith, l.invariant.1, c.loop-y-test.false) in
    l.invariant.3 ∙ ap (λ (y : ℕ). points_added a.self.w a.self.target.now a.self.canvas.now a.runs.now a.top (y - a.top)) e
