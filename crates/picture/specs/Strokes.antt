-- Rules: the forms in which filling pixel by pixel and painting by runs are proved; `PixelLaws` and `PaintingLaws` turn them into the rules.
use Rattle.std.specs.Prelude.{◌≡◌, List, ℕ, ◌+◌, ◌-◌, ◌*◌, ◌≤◌, ◌<◌, take, drop, get_or, set, Float}
use Rattle.std.specs.Float.{nan}
use borrow.Rule.Slice.PartMut.{put_mid}
use Rattle.laws.specs.RowSums.{picture_of}
use Rattle.laws.specs.Pictures.{list_of, recoloured}
use Rattle.laws.specs.Strokes.{in_runs}
use Rattle.brush.specs.declared.Brush.{Brush}
use Rattle.brush.specs.Brushes.{mixed, brushed}
use Rattle.cover.specs.declared.reached.Rows.{Rows}
use Rattle.picture.specs.declared.Colour.{Colour}

-- pixel i gets a colour
abbrev pub pixel_put : ℕ → Colour → List Float → List Float
pixel_put i c canvas = set (set (set canvas (i * 3) c.red) (i * 3 + 1) c.green) (i * 3 + 2) c.blue

-- pixels 2 i and 2 i + 1 get a colour each
abbrev pub pair_put : ℕ → Colour → Colour → List Float → List Float
pair_put i a b canvas = pixel_put (i * 2 + 1) b (pixel_put (i * 2) a canvas)

-- the colour of pixel i
abbrev pub pixel_colour : ℕ → List Float → Colour
pixel_colour i canvas = record {
  red = get_or canvas (i * 3) nan;
  green = get_or canvas (i * 3 + 1) nan;
  blue = get_or canvas (i * 3 + 2) nan;
}

-- the first n pixels have a colour
pub record Coloured (c : Colour) (n : ℕ) (canvas : List Float) : Type 0 where
  pub each : (i : ℕ) → i < n → pixel_colour i canvas ≡ c

-- numbers a up to e of a picture, e left out
abbrev pub brushed_part : Brush → ℕ → ℕ → List Float → List Float
brushed_part b a e canvas = put_mid a (e - a) canvas (brushed b (take (e - a) (drop a canvas)))

-- the runs of rows lo up to hi of a picture, hi left out
abbrev pub brushed_rows : Brush → List ℕ → ℕ → ℕ → ℕ → ℕ → List Float → List Float
brushed_rows b runs lo hi w h canvas = list_of w h (recoloured (in_runs runs lo hi) (mixed b) (picture_of nan w canvas))

-- rows of a picture of h rows
pub record RowsWithin (h : ℕ) (rows : Rows) : Type 0 where
  pub ordered : rows.top ≤ rows.bottom
  pub inside : (y : ℕ) → y < rows.bottom → rows.top ≤ y → y < h
