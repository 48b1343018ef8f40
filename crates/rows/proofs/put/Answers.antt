use mathlib.Core.Path.{◌≡◌, sym, ap, ◌∙◌}
use mathlib.Core.Bool.{Bool, cond}
use mathlib.Core.List.{List}
use Prim.Native.Nat.{ℕ}
use lib.Ieee.{Float}
use lib.ListN.{length}
use lib.Seq.{sets}
use native.Mathlib.Omega.{arith}
use Rattle.rows.specs.Places.{all3, target_six}
use Rattle.rows.specs.PlaceLaws.{put-length, put_all}
use Rattle.rows.proofs.put.Goals as goal
use Rattle.rows.proofs.put.Goals.{Joined-whole, then-whole, else-whole}

-- `put`: by the flag, the six and the nine, or the nine alone.

abbrev put : ℕ → List Float → List Float → List Float
put at sum l = sets l at (all3 sum)

front : (c : Joined-whole) → c.if-whole.place ≡ cond c.args.whole (sets c.args.place.now 0 (target_six c.args.s)) c.args.place.now
front c =
    let a = c.args in
    let by : Bool → List Float = λ b. cond b (sets a.place.now 0 (target_six a.s)) a.place.now in
    elim c.if-whole.branch [
      | then-whole w ↦ w.place-is ∙ w.put_three-then-whole.ensures ∙ ap (put 3 a.s.s_t2) w.put_three.ensures ∙ sym (ap by w.if-whole.true)
      | else-whole w ↦ w.place-is ∙ sym (ap by w.if-whole.false)
    ]

long : (c : Joined-whole) → length c.if-whole.place ≡ 15
long c = put-length c.args.whole c.args.s c.args.place.now c.if-whole.place c.requires (front c)

pub put_three-requires-2 : goal.put_three-requires-2
put_three-requires-2 c = omega (arith, long (goal.at.put_three-requires-2 c).Joined-whole)

pub put_three-requires-3 : goal.put_three-requires-3
put_three-requires-3 c = omega (arith, long (goal.at.put_three-requires-3 c).Joined-whole)

pub put_three-requires-4 : goal.put_three-requires-4
put_three-requires-4 c = omega (arith, long (goal.at.put_three-requires-4 c).Joined-whole)

pub shape_of-place : goal.shape_of-place
shape_of-place c = omega (arith, long (goal.at.shape_of-place c).Joined-whole, c.requires)

pub returns : goal.returns
returns c =
    put_all c.args.whole c.args.s c.args.place.now c.if-whole.place c.requires (front (goal.at.returns c).Joined-whole) _
    (c.put_three-4.ensures
    ∙ ap (put 12 c.args.s.s_tc) (c.put_three-3.ensures
    ∙ ap (put 9 c.args.s.s_c2) c.put_three-2.ensures))
