use mir.Facts.{to_z-of_z}
use Rattle.capi.proofs.tables.sillbadger_update.Goals as goal

-- What `update_canvas_rows` promises, once the rows that are read back from their bits are themselves.

pub returns : goal.returns
returns c =
    rw c.number_of.ensures (simp (to_z-of_z, c.ranges.ymin, c.ranges.ymax) at c.update_canvas_rows.ensures)
