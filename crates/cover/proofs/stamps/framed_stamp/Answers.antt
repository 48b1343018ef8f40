use mathlib.Core.Path.{◌≡◌}
use lib.IntN.{ℤ, pos, ◌-ℤ◌}
use mir.Syntax.{w32}
use mir.Val.{to_z, of_z}
use Rattle.laws.specs.Bound.{Bounded}
use Rattle.laws.specs.Bounds.{Is, ldw, unsigned, is-, fits-}
use Rattle.stamp.specs.Stamp.{PolygonStampSays}
use Rattle.stamp.specs.EdgeLaws.{in_eights}
use Rattle.cover.specs.StampLaws.{four_eighths, polygon_stamped}
use Rattle.cover.proofs.stamps.framed_stamp.Goals as goal
use Rattle.cover.proofs.stamps.framed_stamp.Goals.{Start}

-- `cover::stamps::framed_stamp` meets its contract: the corners are counted from the window's first column and row.

module _ (s : Start) where
  left-read : Is (to_z w32 s.args.left) (pos s.args.left) 255
  left-read = unsigned w32 s.args.left 255 s.requires.window.0 tt

  top_read : Is (to_z w32 s.args.top) (pos s.args.top) 255
  top_read = unsigned w32 s.args.top 255 s.requires.window.1 tt

pub overflow_sub-x0 : goal.overflow_sub-x0
overflow_sub-x0 c = fits- tt (ldw w32 tt c.requires.corners.0) (left-read (goal.at.overflow_sub-x0 c).Start)

pub overflow_sub-y0 : goal.overflow_sub-y0
overflow_sub-y0 c = fits- tt (ldw w32 tt c.requires.corners.1) (top_read (goal.at.overflow_sub-y0 c).Start)

pub overflow_sub-x1 : goal.overflow_sub-x1
overflow_sub-x1 c = fits- tt (ldw w32 tt c.requires.corners.2) (left-read (goal.at.overflow_sub-x1 c).Start)

pub overflow_sub-y1 : goal.overflow_sub-y1
overflow_sub-y1 c = fits- tt (ldw w32 tt c.requires.corners.3) (top_read (goal.at.overflow_sub-y1 c).Start)

pub overflow_sub-x2 : goal.overflow_sub-x2
overflow_sub-x2 c = fits- tt (ldw w32 tt c.requires.corners.4) (left-read (goal.at.overflow_sub-x2 c).Start)

pub overflow_sub-y2 : goal.overflow_sub-y2
overflow_sub-y2 c = fits- tt (ldw w32 tt c.requires.corners.5) (top_read (goal.at.overflow_sub-y2 c).Start)

pub overflow_sub-x3 : goal.overflow_sub-x3
overflow_sub-x3 c = fits- tt (ldw w32 tt c.requires.corners.6) (left-read (goal.at.overflow_sub-x3 c).Start)

pub overflow_sub-y3 : goal.overflow_sub-y3
overflow_sub-y3 c = fits- tt (ldw w32 tt c.requires.corners.7) (top_read (goal.at.overflow_sub-y3 c).Start)

-- a coordinate, counted from the window's first, as it is read
module _ (s : Start) where
  column-moved : {z : ℤ} → Bounded 8191 z → to_z w32 (of_z w32 (to_z w32 (of_z w32 z) -ℤ to_z w32 s.args.left)) ≡ z -ℤ pos s.args.left
  column-moved b = (is- w32 tt (ldw w32 tt b) (left-read s)).is

  row_moved : {z : ℤ} → Bounded 8191 z → to_z w32 (of_z w32 (to_z w32 (of_z w32 z) -ℤ to_z w32 s.args.top)) ≡ z -ℤ pos s.args.top
  row_moved b = (is- w32 tt (ldw w32 tt b) (top_read s)).is

pub polygon_stamp-requires : goal.polygon_stamp-requires
polygon_stamp-requires s =
    let a = s.args in
    let p = s.requires.corners in
    let e = four_eighths a.x0 a.x1 a.x2 a.x3 a.left a.w s.requires.places.columns in
    let f = four_eighths a.y0 a.y1 a.y2 a.y3 a.top a.h s.requires.places.rows in
    rw (column-moved (goal.at.polygon_stamp-requires s).Start p.0, row_moved (goal.at.polygon_stamp-requires s).Start p.1, column-moved (goal.at.polygon_stamp-requires s).Start p.2, row_moved (goal.at.polygon_stamp-requires s).Start p.3, column-moved (goal.at.polygon_stamp-requires s).Start p.4, row_moved (goal.at.polygon_stamp-requires s).Start p.5, column-moved (goal.at.polygon_stamp-requires s).Start p.6, row_moved (goal.at.polygon_stamp-requires s).Start p.7)
    (in_eights (record { x = e.0; y = f.0 }) (record { x = e.1; y = f.1 }) (record { x = e.2; y = f.2 }) (record { x = e.3; y = f.3 }))

pub returns : goal.returns
returns d =
    let a = d.args in
    let p = d.requires.corners in
    let g : PolygonStampSays (a.x0 -ℤ pos a.left) (a.y0 -ℤ pos a.top) (a.x1 -ℤ pos a.left) (a.y1 -ℤ pos a.top) (a.x2 -ℤ pos a.left) (a.y2 -ℤ pos a.top) (a.x3 -ℤ pos a.left) (a.y3 -ℤ pos a.top) d.polygon_stamp.result =
    rw (column-moved (goal.at.returns d).Start p.0, row_moved (goal.at.returns d).Start p.1, column-moved (goal.at.returns d).Start p.2, row_moved (goal.at.returns d).Start p.3, column-moved (goal.at.returns d).Start p.4, row_moved (goal.at.returns d).Start p.5, column-moved (goal.at.returns d).Start p.6, row_moved (goal.at.returns d).Start p.7) at d.polygon_stamp.ensures in
    polygon_stamped a.x0 a.y0 a.x1 a.y1 a.x2 a.y2 a.x3 a.y3 a.left a.top a.w a.h d.polygon_stamp.result d.requires.places.columns d.requires.places.rows g
