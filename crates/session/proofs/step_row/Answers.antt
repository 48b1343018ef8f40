use mathlib.Core.Path.{◌≡◌, sym, ap, ◌∙◌}
use Prim.Native.Nat.{◌+◌, ◌-◌}
use native.Mathlib.Nat.{sub-zero}
use native.Mathlib.Omega.{arith}
use lib.ListN.{length, take, drop}
use Rattle.frame.specs.Frames.{row}
use Rattle.session.specs.SessionLaws.{sheet_of, rooms, row-bytes, refuse_first, refuse_drawn, row_first, row-size, row_past, row_late, row_done}
use Rattle.session.proofs.step_row.Goals as goal

-- `session::step_row` meets its contract: each refusal by its test, then the row and the table afresh.

pub returns-then-w-eq0 : goal.returns-then-w-eq0
returns-then-w-eq0 c =
    let a = c.args in
    (refuse_first a.s (row a.y (take a.n (drop 2 a.bytes.now))) a.target.now a.canvas.now a.table.now c.requires.held c.if-w-eq0.true (row_first a.y (take a.n (drop 2 a.bytes.now))))

pub overflow_mul-w : goal.overflow_mul-w
overflow_mul-w c = omega (arith, (rooms c.requires.held).2)

pub returns-then-n-w : goal.returns-then-n-w
returns-then-n-w c =
    let a = c.args in
    (refuse_drawn a.s (row a.y (take a.n (drop 2 a.bytes.now))) a.target.now a.canvas.now a.table.now c.requires.held 8 c.if-w-eq0.false
    (row-size a.y (take a.n (drop 2 a.bytes.now)) a.s.w a.s.h a.s.painted _ _ (λ e. c.if-n-w.true (sym (row-bytes a.n a.bytes.now c.requires.carried) ∙ e))) (λ z. omega arith))

pub returns-then-h-row : goal.returns-then-h-row
returns-then-h-row c =
    let a = c.args in
    (refuse_drawn a.s (row a.y (take a.n (drop 2 a.bytes.now))) a.target.now a.canvas.now a.table.now c.requires.held 8 c.if-w-eq0.false
    (row_past a.y (take a.n (drop 2 a.bytes.now)) a.s.w a.s.h a.s.painted _ _ (row-bytes a.n a.bytes.now c.requires.carried ∙ c.if-n-w.false) c.if-h-row.true) (λ z. omega arith))

pub returns-then-s : goal.returns-then-s
returns-then-s c =
    let a = c.args in
    (refuse_drawn a.s (row a.y (take a.n (drop 2 a.bytes.now))) a.target.now a.canvas.now a.table.now c.requires.held 8 c.if-w-eq0.false
    (row_late a.y (take a.n (drop 2 a.bytes.now)) a.s.w a.s.h a.s.painted _ _ (row-bytes a.n a.bytes.now c.requires.carried ∙ c.if-n-w.false) c.if-h-row.false c.if-s.true) (λ z. omega arith))

pub overflow_mul-m : goal.overflow_mul-m
overflow_mul-m c = let p = rooms c.requires.held in omega (arith, p.0, p.1)

pub overflow_mul-m-2 : goal.overflow_mul-m-2
overflow_mul-m-2 c = let p = rooms c.requires.held in omega (arith, p.0, p.1)

pub overflow_mul-k : goal.overflow_mul-k
overflow_mul-k c = let p = rooms c.requires.held in omega (arith, p.0, p.1)

pub overflow_mul-k-2 : goal.overflow_mul-k-2
overflow_mul-k-2 c = let p = rooms c.requires.held in omega (arith, p.0, p.1)

pub set_row-requires : goal.set_row-requires
set_row-requires c =
    let a = c.args in
    let d = sheet_of a.s a.target.now a.canvas.now a.table.now c.requires.held c.if-w-eq0.false in
    let k : a.n + 2 - 2 ≡ a.n = omega arith in record {
      row = (c.if-h-row.false, ap (λ i. length (take i (drop 2 a.bytes.now))) k ∙ row-bytes a.n a.bytes.now c.requires.carried ∙ c.if-n-w.false);
      sheet = simp sub-zero d.0;
      canvas = simp sub-zero (d.1 c.if-s.false);
    }

pub returns : goal.returns
returns c =
    let a = c.args in
    let m = c.set_row in
    let k : a.n + 2 - 2 ≡ a.n = omega arith in
    simp sub-zero
    (row_done a.y (take a.n (drop 2 a.bytes.now)) a.s a.target.now a.canvas.now a.table.now m.new.target m.new.table c.requires.held c.if-w-eq0.false
    (row-bytes a.n a.bytes.now c.requires.carried ∙ c.if-n-w.false) c.if-h-row.false c.if-s.false
    (simp (sub-zero, k) at m.ensures.0) (simp sub-zero at m.ensures.1))
