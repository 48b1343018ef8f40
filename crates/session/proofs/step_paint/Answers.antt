use mathlib.Core.Path.{refl}
use Rattle.std.proofs.Common.{◌≡◌, rules}
use Rattle.refusal.specs.Outcomes.{number}
use Rattle.frame.specs.declared.Answer.TheVariants.{Refused}
use Rattle.session.specs.Held.{stepped, stepped_by}
use native.Mathlib.Nat.{sub-zero}
use native.Mathlib.Omega.{arith}
use Rattle.session.specs.SessionLaws.{sheet_of, rooms, sides_held, result_as, paint-number, shape_refused, shape_drawn, shape-placed, paint_done}
use Rattle.session.proofs.step_paint.Goals as goal

-- `session::step_paint` meets its contract: the score, the shape in its colour, the total after.

pub overflow_mul-n : goal.overflow_mul-n
overflow_mul-n c = let p = rooms c.requires in omega (arith, p.0, p.1, p.2)

pub overflow_mul-n-2 : goal.overflow_mul-n-2
overflow_mul-n-2 c = let p = rooms c.requires in omega (arith, p.0, p.1, p.2)

pub overflow_add-k : goal.overflow_add-k
overflow_add-k c = let p = rooms c.requires in omega (arith, p.0, p.1, p.2)

pub overflow_mul-k : goal.overflow_mul-k
overflow_mul-k c = let p = rooms c.requires in omega (arith, p.0, p.1, p.2)

pub overflow_mul-k-2 : goal.overflow_mul-k-2
overflow_mul-k-2 c = let p = rooms c.requires in omega (arith, p.0, p.1, p.2)

pub weighed-requires : goal.weighed-requires
weighed-requires c = let h = c.requires in (sides_held h, h.table-room)

pub paint-total-requires : goal.paint-total-requires
paint-total-requires c =
    let a = c.args in
    let o = c.of_bits32-a.ensures in
    let d = refl in record {
      places = shape-placed a.kind a.opacity c.requires o c.in_ok-score.ensures d;
      sheet = simp sub-zero (sheet_of a.s a.target.now a.canvas.now a.table.now c.requires (shape_drawn a.kind a.opacity c.requires o c.in_ok-score.ensures d)).0;
    }

pub returns : goal.returns
returns c =
    let m = c.paint-total.ensures in
    simp sub-zero
    (paint_done c.args.kind c.args.opacity c.requires c.of_bits32-a.ensures c.in_ok-score.ensures refl c.values.ensures
    (simp sub-zero at m.0) (simp sub-zero at m.1) (simp sub-zero at m.2) c.bits64.ensures)

pub returns-in_err-score : goal.returns-in_err-score
returns-in_err-score c =
    let a = c.of_bits32-a.ensures in
    let k : stepped_by c.args.s c.from_residual.result ≡ stepped c.args.s (Refused (number c.in_err-score.field-0.0)) = search rules in
    result_as k (shape_refused c.args.kind c.args.opacity c.requires a (paint-number c.args.kind c.args.opacity c.requires a) c.in_err-score.ensures refl)
