use mathlib.Core.Path.{sym, ◌∙◌}
use Prim.Native.Nat.{◌+◌, ◌*◌, ◌≤◌}
use native.Mathlib.Nat.{sub-zero}
use native.Mathlib.Omega.{arith}
use Rattle.frame.specs.Frames.{new}
use Rattle.session.specs.Held.{Sides, session_of}
use Rattle.session.specs.SessionLaws.{sides_of, picture_room, table-room, part_length, refuse, new-refused, new_done}
use Rattle.session.proofs.step_new.Goals as goal
use Rattle.session.proofs.step_new.Goals.{Else-bad_sides}

-- `session::step_new` meets its contract: the sizes are refused, or the pictures and the table are made at the front of what is lent.

sides : (c : Else-bad_sides) → Sides c.args.w c.args.h
sides c = sides_of c.args.w c.args.h (sym c.bad_sides.ensures ∙ c.if-bad_sides.false)

room : (c : Else-bad_sides)
    → (c.args.h * c.args.w * 3 ≤ 768) × (c.args.h * (c.args.w + 1) * 15 ≤ 4080)
room c =
    let u = sides c in
    (picture_room c.args.w c.args.h u.w_high u.h_high, table-room c.args.w c.args.h u.w_high u.h_high)

pub returns-then-bad_sides : goal.returns-then-bad_sides
returns-then-bad_sides c =
    let a = c.args in
    (refuse a.s (new a.w a.h a.red a.green a.blue) a.target.now a.canvas.now a.table.now c.requires 1
    (new-refused a.w a.h a.red a.green a.blue (session_of a.s a.target.now a.canvas.now) (sym c.bad_sides.ensures ∙ c.if-bad_sides.true)) (λ z. omega arith))

pub overflow_mul-n : goal.overflow_mul-n
overflow_mul-n c = let p = room (goal.at.overflow_mul-n c).Else-bad_sides in omega (arith, p.0, p.1)

pub overflow_mul-n-2 : goal.overflow_mul-n-2
overflow_mul-n-2 c = let p = room (goal.at.overflow_mul-n-2 c).Else-bad_sides in omega (arith, p.0, p.1)

pub overflow_mul-k : goal.overflow_mul-k
overflow_mul-k c = let p = room (goal.at.overflow_mul-k c).Else-bad_sides in omega (arith, p.0, p.1)

pub overflow_mul-k-2 : goal.overflow_mul-k-2
overflow_mul-k-2 c = let p = room (goal.at.overflow_mul-k-2 c).Else-bad_sides in omega (arith, p.0, p.1)

pub slice_bounds-make-end : goal.slice_bounds-make-end
slice_bounds-make-end c = omega (arith, (room (goal.at.slice_bounds-make-end c).Else-bad_sides).0, c.requires.target_room)

pub slice_bounds-make-end-3 : goal.slice_bounds-make-end-3
slice_bounds-make-end-3 c = omega (arith, (room (goal.at.slice_bounds-make-end-3 c).Else-bad_sides).1, c.requires.table-room)

pub make-requires : goal.make-requires
make-requires c =
    let p = room (goal.at.make-requires c).Else-bad_sides in record {
      sides = sides (goal.at.make-requires c).Else-bad_sides;
      lent = (
        part_length (c.args.h * c.args.w * 3) c.args.target.now (omega (arith, p.0, c.requires.target_room)),
        part_length (c.args.h * c.args.w * 3) c.args.canvas.now (omega (arith, p.0, c.requires.canvas-room)),
        part_length (c.args.h * (c.args.w + 1) * 15) c.args.table.now (omega (arith, p.1, c.requires.table-room)),
      );
    }

pub returns : goal.returns
returns c =
    let a = c.args in
    let m = c.make in
    simp sub-zero
    (new_done a.w a.h a.red a.green a.blue a.s a.target.now a.canvas.now a.table.now m.new.target m.new.canvas m.new.table c.requires
    (sym c.bad_sides.ensures ∙ c.if-bad_sides.false) m.ensures.0 m.ensures.1 m.ensures.2 m.ensures.3)
