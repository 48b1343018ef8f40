use mathlib.Core.Path.{◌≡◌}
use mathlib.Core.Bool.{Bool, true, ◌&&◌}
use lib.IntN.{ℤ, pos}
use lib.Signed.{◌≤ℤ◌, le_z}
use mir.Syntax.{w32}
use mir.Val.{to_z, of_z}
use mir.Facts.{to_z-of_z}
use Rattle.laws.specs.Bools.{and_left, and_right}
use Rattle.laws.specs.Bounds.{ldw, arg}
use Rattle.laws.specs.Fit.{le_true}
use Rattle.cover.specs.declared.Kind.TheVariants.{Circle}
use Rattle.cover.specs.Cover.{places}
use Rattle.cover.specs.CoverLaws.{AllBounded, places_bounded}
use Rattle.cover.specs.StampLaws.{circle_stamped}
use Rattle.cover.proofs.stamps.circle_stamp.Goals as goal
use Rattle.cover.proofs.stamps.circle_stamp.Goals.{Start, Then-r-begins}

-- `cover::stamps::circle_stamp` meets its contract: the window's first column and row are the circle's.

bounded : (s : Start) → let a = s.args in AllBounded (places (Circle a.cx a.cy a.r))
bounded s = let a = s.args in places_bounded (Circle a.cx a.cy a.r) s.requires.places

pub begins-requires : goal.begins-requires
begins-requires s = let b = bounded (goal.at.begins-requires s).Start in record { circle = (arg tt (ldw w32 tt b.0), arg tt (ldw w32 tt b.1.1.0)); places = (s.requires.window.0, s.requires.sizes.w_high) }

pub begins-requires-2 : goal.begins-requires-2
begins-requires-2 c =
    let b = bounded (goal.at.begins-requires-2 c).Start in
    record { circle = (arg tt (ldw w32 tt b.1.0), arg tt (ldw w32 tt b.1.1.0)); places = (c.requires.window.1, c.requires.sizes.h_high) }

-- what the tests show
module _ (c : Then-r-begins) where
  abbrev start : Start
  start = c.before.before.before

  abbrev r : ℤ
  r = to_z w32 (of_z w32 start.args.r)

  abbrev across : Bool
  across = c.begins.result

  abbrev down : Bool
  down = c.begins-2.result

  radius : (le_z (pos 1) r && le_z r (pos 3)) && across ≡ true
  radius = and_left ((le_z (pos 1) r && le_z r (pos 3)) && across) down c.if-r-begins.true

  least : pos 1 ≤ℤ r
  least = le_true (pos 1) r (and_left (le_z (pos 1) r) (le_z r (pos 3)) (and_left (le_z (pos 1) r && le_z r (pos 3)) across radius))

  most : r ≤ℤ pos 3
  most = le_true r (pos 3) (and_right (le_z (pos 1) r) (le_z r (pos 3)) (and_left (le_z (pos 1) r && le_z r (pos 3)) across radius))

pub circle_stamp-requires : goal.circle_stamp-requires
circle_stamp-requires c = (least (goal.at.circle_stamp-requires c).Then-r-begins, most (goal.at.circle_stamp-requires c).Then-r-begins)

pub returns-then-r-begins : goal.returns-then-r-begins
returns-then-r-begins d =
    let s = start (goal.at.returns-then-r-begins d).Then-r-begins in
    let a = s.args in
    let x = simp (to_z-of_z, s.ranges.cx, s.ranges.r) at (d.begins.ensures (and_right (le_z (pos 1) (r (goal.at.returns-then-r-begins d).Then-r-begins) && le_z (r (goal.at.returns-then-r-begins d).Then-r-begins) (pos 3)) (across (goal.at.returns-then-r-begins d).Then-r-begins) (radius (goal.at.returns-then-r-begins d).Then-r-begins))) in
    let y = simp (to_z-of_z, s.ranges.cy, s.ranges.r) at (d.begins-2.ensures (and_right ((le_z (pos 1) (r (goal.at.returns-then-r-begins d).Then-r-begins) && le_z (r (goal.at.returns-then-r-begins d).Then-r-begins) (pos 3)) && across (goal.at.returns-then-r-begins d).Then-r-begins) (down (goal.at.returns-then-r-begins d).Then-r-begins) d.if-r-begins.true)) in
    circle_stamped a.cx a.cy a.r a.left a.top a.w a.h d.circle_stamp.result
    (rw (to_z-of_z s.ranges.r) at (most (goal.at.returns-then-r-begins d).Then-r-begins)) x.0 x.1 y.0 y.1 (rw (to_z-of_z s.ranges.r) at d.circle_stamp.ensures)
