-- Rules: where the table keeps a number. Document 01: "Each row has w+1 places of 15 sums: target, target², canvas, canvas², target·canvas, three channels each".
-- Whoever reads a table does so by `entry` or `place_of`; no other rule knows an index.
use Rattle.std.specs.Prelude.{List, ℕ, ◌+◌, ◌*◌, get_or, Float}
use Rattle.std.specs.Float.{nan}
use Rattle.laws.specs.RowSums.{OfTarget, OfCanvas, target_values, target_squares, canvas_values, canvas_squares, products}
use Rattle.sums.specs.declared.ShapeSums.{ShapeSums}
use Rattle.sums.specs.Sums.{three}

pub data Series : Type 0 where
  of_target : OfTarget → Series
  of_canvas : OfCanvas → Series

abbrev pub lane : Series → ℕ
lane (of_target target_values) = 0
lane (of_target target_squares) = 3
lane (of_canvas canvas_values) = 6
lane (of_canvas canvas_squares) = 9
lane (of_canvas products) = 12

-- of a series and a channel, in row y, at place x
unfoldable pub at : ℕ → Series → ℕ → ℕ → ℕ → ℕ
at w s ch y x = (y * (w + 1) + x) * 15 + lane s + ch

unfoldable pub entry : ℕ → List Float → Series → ℕ → ℕ → ℕ → Float
entry w table s ch y x = get_or table (at w s ch y x) nan

-- place x of row y as sums; they are over the x pixels before it
unfoldable pub place_of : ℕ → List Float → ℕ → ℕ → ShapeSums
place_of w table y x =
    let series : Series → List Float = λ s. three (entry w table s 0 y x) (entry w table s 1 y x) (entry w table s 2 y x) in
    record {
      s_t = series (of_target target_values);
      s_c = series (of_canvas canvas_values);
      s_t2 = series (of_target target_squares);
      s_c2 = series (of_canvas canvas_squares);
      s_tc = series (of_canvas products);
      count = x;
    }
