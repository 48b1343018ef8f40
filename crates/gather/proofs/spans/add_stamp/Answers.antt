use mathlib.Core.Path.{◌≡◌, sym, ◌∙◌, ap}
use Prim.Native.Nat.{ℕ, ◌+◌, ◌-◌, ◌/◌, ◌%◌, ◌<◌}
use lib.ListN.{length}
use Rattle.sums.specs.declared.ShapeSums.{ShapeSums}
use Rattle.gather.specs.RunSumLaws.{no_count}
use Rattle.gather.specs.StampSums.{stamp_row, stamp_spans, RowIn}
use Rattle.gather.specs.StampSumLaws.{row_count, row_skipped, spans_more, spans_done, some_left, row_here, rows_behind}
use native.Mathlib.Omega.{arith}
use Rattle.gather.proofs.spans.add_stamp.Goals as goal
use Rattle.gather.proofs.spans.add_stamp.Goals.{In-loop-b, then-row-ne0, else-row-ne0}

-- `gather::spans::add_stamp` meets its contract: a turn for each row, until no bit is left.

pub loop-b-init : goal.loop-b-init
loop-b-init c =
    let a = c.args in
    let e = c.new-s.ensures in
    let n : a.top + 8 - a.top ≡ 8 = omega arith in (
      omega arith,
      omega arith,
      omega (arith, ap (λ (q : ShapeSums). q.count) e, no_count),
      rw n c.requires.rows,
      rw n (ap (stamp_spans a.w a.table.now a.left a.top 8 a.bits) e),
    )

module _ (c : In-loop-b) where
  left_over : 0 < c.args.top + 8 - c.loop-b.y
  left_over = let l = c.loop-b in some_left (c.args.top + 8 - l.y) l.b l.invariant.3.0 (omega (arith, c.loop-b-test.true))

  row : let a = c.args in RowIn a.w a.left c.loop-b.y (length a.table.now) (c.loop-b.b % 256)
  row =
      let a = c.args in
      let l = c.loop-b in
      row_here a.w a.left l.y (length a.table.now) (a.top + 8 - l.y) l.b left_over l.invariant.3

pub overflow_cast-row : goal.overflow_cast-row
overflow_cast-row c = omega arith

pub add_stamp_row-s-requires : goal.add_stamp_row-s-requires
add_stamp_row-s-requires c =
    record { row_nonzero = (omega (arith, c.if-row-ne0.true), omega arith, c.requires.window.0, c.requires.window.2, omega (arith, c.loop-b.invariant.2, left_over (goal.at.add_stamp_row-s-requires c).In-loop-b, c.loop-b.invariant.1)); row_in = row (goal.at.add_stamp_row-s-requires c).In-loop-b }

pub overflow_add-y : goal.overflow_add-y
overflow_add-y c = omega (arith, left_over (goal.at.overflow_add-y c).In-loop-b, c.requires.window.1)

pub loop-b-smaller : goal.loop-b-smaller
loop-b-smaller c = omega (arith, left_over (goal.at.loop-b-smaller c).In-loop-b)

pub loop-b-preserved : goal.loop-b-preserved
loop-b-preserved c =
    let l = c.loop-b in
    let a = c.args in
    -- the row's turn, added or passed over
    let r : c.if-row-ne0.s ≡ stamp_row a.w a.table.now a.left l.y (l.b % 256) l.s =
    elim c.if-row-ne0.branch [
      | then-row-ne0 w ↦ w.s-is ∙ w.add_stamp_row-s.ensures
      | else-row-ne0 w ↦
          let z : l.b % 256 ≡ 0 = omega (arith, w.if-row-ne0.false) in
          w.s-is ∙ sym (row_skipped a.w a.table.now a.left l.y l.s) ∙ ap (λ (r : ℕ). stamp_row a.w a.table.now a.left l.y r l.s) (sym z)
    ] in
    let n : a.top + 8 - (l.y + 1) ≡ a.top + 8 - l.y - 1 = omega arith in (
      omega (arith, l.invariant.0),
      omega (arith, left_over (goal.at.loop-b-preserved c).In-loop-b),
      omega (arith, ap (λ (q : ShapeSums). q.count) r, row_count a.w a.table.now a.left l.y (length a.table.now) (l.b % 256) l.s (row (goal.at.loop-b-preserved c).In-loop-b) (omega arith), l.invariant.2, l.invariant.0),
      rw n (rows_behind a.w a.left l.y (length a.table.now) (a.top + 8 - l.y) l.b (left_over (goal.at.loop-b-preserved c).In-loop-b) l.invariant.3),
      rw n (ap (stamp_spans a.w a.table.now a.left (l.y + 1) (a.top + 8 - l.y - 1) (l.b / 256)) r
          ∙ sym (spans_more a.w a.table.now a.left l.y (a.top + 8 - l.y) l.b l.s (left_over (goal.at.loop-b-preserved c).In-loop-b)) ∙ l.invariant.4),
    )

pub returns : goal.returns
returns c =
    let l = c.loop-b in
    let a = c.args in
    let z : l.b ≡ 0 = omega (arith, c.loop-b-test.false) in
    sym (spans_done a.w a.table.now a.left l.y (a.top + 8 - l.y) l.s)
    ∙ ap (λ (b : ℕ). stamp_spans a.w a.table.now a.left l.y (a.top + 8 - l.y) b l.s) (sym z) ∙ l.invariant.4
