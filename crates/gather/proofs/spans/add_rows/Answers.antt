use mathlib.Core.Path.{◌≡◌, sym, ◌∙◌, ap}
use Prim.Native.Nat.{ℕ, ◌+◌, ◌-◌, ◌*◌, ◌≤◌, ◌<◌}
use lib.ListN.{length, get_or}
use Rattle.laws.specs.RowLaws.{row-le}
use Rattle.sums.specs.declared.ShapeSums.{ShapeSums}
use Rattle.gather.specs.RunSums.{run_added, run_left, run_right, runs_added}
use Rattle.gather.specs.RunSumLaws.{no_count, added_count, runs_none, runs-more}
use native.Mathlib.Omega.{arith}
use Rattle.gather.proofs.spans.add_rows.Goals as goal
use Rattle.gather.proofs.spans.add_rows.Goals.{In-loop-y}

-- `gather::spans::add_rows` meets its contract: the sums so far are those of the rows above.

pub loop-y-init : goal.loop-y-init
loop-y-init c =
    let a = c.args in
    let z : a.top - a.top ≡ 0 = omega arith in
    let n = c.new-s.ensures in (
      omega arith,
      c.requires.sizes.1,
      omega (arith, ap (λ (s : ShapeSums). s.count) n, no_count),
      n ∙ sym (runs_none a.w a.table.now a.runs.now a.top) ∙ ap (runs_added a.w a.table.now a.runs.now a.top) (sym z),
    )

module _ (c : In-loop-y) where
  below : c.loop-y.y < 256
  below = omega (arith, c.requires.sizes)

  run : (get_or c.args.runs.now (c.loop-y.y * 2) 0
      ≤ get_or c.args.runs.now (c.loop-y.y * 2 + 1) 0)
      × (get_or c.args.runs.now (c.loop-y.y * 2 + 1) 0 ≤ c.args.w)
  run = c.requires.runs c.loop-y.y c.loop-y.invariant.0 c.loop-y-test.true

  inside : c.loop-y.y * ((c.args.w + 1) * 15) + (c.args.w + 1) * 15
      ≤ length c.args.table.now
  inside =
      omega (arith, row-le ((c.args.w + 1) * 15) c.loop-y-test.true, c.requires.sizes.3)

pub overflow_mul-left : goal.overflow_mul-left
overflow_mul-left c = omega (arith, below (goal.at.overflow_mul-left c).In-loop-y)

pub offset_bounds-runs-y : goal.offset_bounds-runs-y
offset_bounds-runs-y c = omega (arith, below (goal.at.offset_bounds-runs-y c).In-loop-y)

pub bounds-runs-y : goal.bounds-runs-y
bounds-runs-y c = omega (arith, below (goal.at.bounds-runs-y c).In-loop-y)

pub overflow_cast-left : goal.overflow_cast-left
overflow_cast-left c = omega (arith, (run (goal.at.overflow_cast-left c).In-loop-y).0, (run (goal.at.overflow_cast-left c).In-loop-y).1, c.requires.sizes.0)

pub overflow_mul-right : goal.overflow_mul-right
overflow_mul-right c = omega (arith, below (goal.at.overflow_mul-right c).In-loop-y)

pub overflow_add-right : goal.overflow_add-right
overflow_add-right c = omega (arith, below (goal.at.overflow_add-right c).In-loop-y)

pub offset_bounds-runs-y-in-loop-y : goal.offset_bounds-runs-y-in-loop-y
offset_bounds-runs-y-in-loop-y c = omega (arith, below (goal.at.offset_bounds-runs-y-in-loop-y c).In-loop-y)

pub bounds-runs-y-in-loop-y : goal.bounds-runs-y-in-loop-y
bounds-runs-y-in-loop-y c = omega (arith, below (goal.at.bounds-runs-y-in-loop-y c).In-loop-y)

pub overflow_cast-right : goal.overflow_cast-right
overflow_cast-right c = omega (arith, (run (goal.at.overflow_cast-right c).In-loop-y).1, c.requires.sizes.0)

-- 256 rows of 256 pixels: the count fits
pub add_row-s-requires : goal.add_row-s-requires
add_row-s-requires c = (
  c.requires.sizes.0,
  (run (goal.at.add_row-s-requires c).In-loop-y).0,
  (run (goal.at.add_row-s-requires c).In-loop-y).1,
  inside (goal.at.add_row-s-requires c).In-loop-y,
  omega (arith, (run (goal.at.add_row-s-requires c).In-loop-y).0, (run (goal.at.add_row-s-requires c).In-loop-y).1, below (goal.at.add_row-s-requires c).In-loop-y, c.loop-y.invariant.2, c.requires.sizes.0),
)

pub loop-y-preserved : goal.loop-y-preserved
loop-y-preserved c =
    let l = c.loop-y in
    let a = c.args in
    let r = c.add_row-s.ensures in (
      omega (arith, l.invariant.0),
      omega (arith, c.loop-y-test.true),
      omega (arith, ap (λ (q : ShapeSums). q.count) r, added_count a.w a.table.now l.y (run_left a.runs.now l.y) (run_right a.runs.now l.y) l.s (run (goal.at.loop-y-preserved c).In-loop-y).0, (run (goal.at.loop-y-preserved c).In-loop-y).1, c.requires.sizes.0, l.invariant.0, l.invariant.2),
      r ∙ ap (run_added a.w a.table.now l.y (run_left a.runs.now l.y) (run_right a.runs.now l.y)) l.invariant.3
          ∙ runs-more a.w a.table.now a.runs.now a.top l.y l.invariant.0,
    )

pub returns : goal.returns
returns c =
    let l = c.loop-y in
    let a = c.args in
    let e : l.y ≡ a.bottom = omega (arith, l.invariant.1, c.loop-y-test.false) in
    l.invariant.3 ∙ ap (λ (y : ℕ). runs_added a.w a.table.now a.runs.now a.top (y - a.top)) e
