use native.Mathlib.Omega.{arith}
use Prim.Native.Nat.{◌<◌}
use mir.Facts.{to_z-of_z}
use Rattle.polygon.specs.RowSteps.{rows_none, rows_more, rows_done}
use Rattle.polygon.proofs.quad_rows.Goals as goal
use Rattle.polygon.proofs.quad_rows.Goals.{After-quad_row-run}

-- `polygon::quad_rows` meets its contract: row after row.

pub loop-y-init : goal.loop-y-init
loop-y-init c = (omega arith, omega arith, rows_none _ c.args.first c.args.out.now c.requires.places)

pub quad_row-run-requires : goal.quad_row-run-requires
quad_row-run-requires c =
    rw (to_z-of_z c.ranges.x0, to_z-of_z c.ranges.y0, to_z-of_z c.ranges.x1, to_z-of_z c.ranges.y1, to_z-of_z c.ranges.x2, to_z-of_z c.ranges.y2, to_z-of_z c.ranges.x3, to_z-of_z c.ranges.y3, to_z-of_z c.ranges.sign) (record { sign = c.requires.sign; edges = c.requires.edges; columns = c.requires.columns; row = omega (arith, c.loop-y-test.true, c.requires.rows) })

small : (c : After-quad_row-run) → (c.quad_row-run.result.left < 65536) × (c.quad_row-run.result.right < 65536)
small c =
    let e = c.quad_row-run.ensures in
    (omega (arith, e.1, c.requires.columns), omega (arith, e.2, c.requires.columns))

pub put_row-requires : goal.put_row-requires
put_row-requires c = record { row = omega arith; ends = small (goal.at.put_row-requires c).After-quad_row-run }

pub loop-y-smaller : goal.loop-y-smaller
loop-y-smaller c = omega arith

pub loop-y-preserved : goal.loop-y-preserved
loop-y-preserved c =
    let l = c.loop-y in (
      omega arith,
      omega arith,
      rw c.put_row.ensures
          (rows_more _ c.args.first c.args.out.now l.y l.out c.quad_row-run.result.left c.quad_row-run.result.right l.invariant.0 (omega arith) (small (goal.at.loop-y-preserved c).After-quad_row-run).0 (small (goal.at.loop-y-preserved c).After-quad_row-run).1 l.invariant.2 c.quad_row-run.ensures.0),
    )

pub returns : goal.returns
returns c =
    let l = c.loop-y in
    rw (to_z-of_z c.ranges.x0, to_z-of_z c.ranges.y0, to_z-of_z c.ranges.x1, to_z-of_z c.ranges.y1, to_z-of_z c.ranges.x2, to_z-of_z c.ranges.y2, to_z-of_z c.ranges.x3, to_z-of_z c.ranges.y3)
    at (rows_done _ c.args.first c.args.out.now c.args.past l.y l.out (omega arith) l.invariant.1 l.invariant.2)
