use mathlib.Core.Path.{◌∙◌}
use Rattle.laws.specs.RowSums.{target_values, target_squares, canvas_values, canvas_squares, products}
use Rattle.table.specs.Layout.{of_target, of_canvas, place_of}
use Rattle.table.specs.ReadLaws.{series-read}
use Rattle.table.proofs.read_place.Goals as goal

-- `read_place`: each series is read at its lane.

pub returns : goal.returns
unfolding place_of
returns c =
    let a = c.args in
    simp (
      c.three_at-s_tc.ensures ∙ series-read a.w a.table.now (of_canvas products) a.y a.x,
      c.three_at-s_c2.ensures ∙ series-read a.w a.table.now (of_canvas canvas_squares) a.y a.x,
      c.three_at-s_t2.ensures ∙ series-read a.w a.table.now (of_target target_squares) a.y a.x,
      c.three_at-s_c.ensures ∙ series-read a.w a.table.now (of_canvas canvas_values) a.y a.x,
      c.three_at-s_t.ensures ∙ series-read a.w a.table.now (of_target target_values) a.y a.x,
    )
