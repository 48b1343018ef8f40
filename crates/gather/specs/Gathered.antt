-- Rules: document 01, the sums of a shape, by spans and by points.
use Rattle.std.specs.Prelude.{◌≡◌, List, ℕ, ◌+◌, ◌*◌, get_or, Float}
use Rattle.std.specs.Float.{nan}
use Rattle.laws.specs.PixelSums.{span_sum, point_sum}
use Rattle.cover.specs.declared.Kind.{Kind}
use Rattle.cover.specs.Cover.{covered}
use Rattle.sums.specs.declared.ShapeSums.{ShapeSums}
use Rattle.sums.specs.Sums.{no_sums, pixel_sums, plus, minus}
use Rattle.table.specs.Layout.{place_of}

-- by spans: the right place minus the left, per row, from the top row down
unfoldable pub span_sums : Kind → ℕ → ℕ → List Float → ShapeSums
span_sums kind w h table = span_sum no_sums plus minus (place_of w table) (covered kind) w h

-- the pixel whose channels begin at place i; pixel x of row y
abbrev pub pixel_from : List Float → List Float → ℕ → ShapeSums
pixel_from target canvas i =
    pixel_sums (get_or target i nan) (get_or target (i + 1) nan) (get_or target (i + 2) nan) (get_or canvas i nan) (get_or canvas (i + 1) nan) (get_or canvas (i + 2) nan)

abbrev pub pixel_at : ℕ → List Float → List Float → ℕ → ℕ → ShapeSums
pixel_at w target canvas y x = pixel_from target canvas ((y * w + x) * 3)

-- by points: pixel by pixel, in row order
unfoldable pub point_sums : Kind → ℕ → ℕ → List Float → List Float → ShapeSums
point_sums kind w h target canvas = point_sum no_sums plus minus (pixel_at w target canvas) (covered kind) w h

-- what the functions promise; what is lent is only read
abbrev pub SpanSumsSays : Kind → ℕ → ℕ → List Float → ShapeSums → Type 0
SpanSumsSays kind w h table r = r ≡ span_sums kind w h table

abbrev pub PointSumsSays : Kind → ℕ → ℕ → List Float → List Float → ShapeSums → Type 0
PointSumsSays kind w h target canvas r = r ≡ point_sums kind w h target canvas
