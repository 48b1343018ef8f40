-- Rules: a byte for each row, the first row's lowest; what the private functions below polygon_stamp ask and promise.
use Rattle.std.specs.Prelude.{◌≡◌, ℕ, zero, suc, ◌+◌, ◌*◌, ◌≤◌, Bool, ℤ, pos, ◌+ℤ◌, ◌-ℤ◌, ◌*ℤ◌, int_le, unsigned_abs}
use Rattle.laws.specs.Bound.{Bounded}
use Rattle.polygon.specs.Polygon.{Point, at, side}
use Rattle.stamp.specs.declared.Edges.{Edges}
use Rattle.stamp.specs.Stamp.{Eighth}

-- n bytes
unfoldable pub lanes_of : (ℕ → ℕ) → ℕ → ℕ
lanes_of f zero = 0
lanes_of f (suc n) = f 0 + 256 * lanes_of (λ k. f (suc k)) n

-- 128 and what a line down the rows is in row k
abbrev pub lane_at : ℤ → ℤ → ℕ → ℕ
lane_at value slope k = unsigned_abs (pos 128 +ℤ (value +ℤ slope *ℤ pos k))

-- such a line, none of whose eight bytes leaves its place
pub record InLanes (value slope : ℤ) : Type 0 where
  pub gentle : Bounded 7 slope
  pub near : (k : ℕ) → k ≤ 7 → Bounded 127 (value +ℤ slope *ℤ pos k)

-- the line of an edge down column u, times the winding: in row 0, and from row to row
abbrev pub offset : ℤ → Point → Point → ℤ → ℤ
offset sign i j u = sign *ℤ ((j.px -ℤ i.px) *ℤ (pos 0 -ℤ i.py) -ℤ (j.py -ℤ i.py) *ℤ (u -ℤ i.px))

abbrev pub slope : ℤ → Point → Point → ℤ
slope sign i j = sign *ℤ (j.px -ℤ i.px)

abbrev pub edge_lanes : ℤ → Point → Point → ℤ → ℕ
edge_lanes sign i j u = lanes_of (lane_at (offset sign i j u) (slope sign i j)) 8

-- those of four corners' edges
pub record EdgesAt (x0 y0 x1 y1 x2 y2 x3 y3 sign u : ℤ) (e : Edges) : Type 0 where
  pub first : e.first ≡ edge_lanes sign (at x0 y0) (at x1 y1) u
  pub second : e.second ≡ edge_lanes sign (at x1 y1) (at x2 y2) u
  pub third : e.third ≡ edge_lanes sign (at x2 y2) (at x3 y3) u
  pub last : e.last ≡ edge_lanes sign (at x3 y3) (at x0 y0) u

-- a point on the inner side of the edge i to j, for both windings
abbrev pub inner_test : ℤ → Point → Point → Point → Bool
inner_test sign i j p = int_le (pos 0) (sign *ℤ side i j p)

-- a corner among the 64 pixels
pub record Cornered (p : Point) : Type 0 where
  pub x : Eighth p.px
  pub y : Eighth p.py
