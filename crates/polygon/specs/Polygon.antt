-- Rules: document 01, "Which pixels a shape covers", triangle and quad: over a list of corners round a shape, of any length.
use Rattle.std.specs.Prelude.{◌≡◌, Bool, ◌||◌, cond, List, [], ◌∷◌, ℕ, ◌≤◌, length, get_or, ℤ, pos, ◌-ℤ◌, ◌*ℤ◌, ◌≤ℤ◌}
use Rattle.std.specs.Int.Signed.{le_z, lt_z}
use Rattle.laws.specs.Bound.{Bounded}
use Rattle.whole.specs.Whole.{lesser, greater}
use Rattle.laws.specs.Runs.{all_hold, runs_of}

pub record Point : Type 0 where
  pub px : ℤ
  pub py : ℤ

abbrev pub at : ℤ → ℤ → Point
at x y = record { px = x; py = y }

-- (xj-xi)(y-yi) - (yj-yi)(x-xi)
abbrev pub side : Point → Point → Point → ℤ
side i j p = (j.px -ℤ i.px) *ℤ (p.py -ℤ i.py) -ℤ (j.py -ℤ i.py) *ℤ (p.px -ℤ i.px)

-- (x1-x0)(y2-y0) - (y1-y0)(x2-x0), from the first three corners also for a quad
abbrev pub area2 : List Point → ℤ
area2 [] = pos 0
area2 (a ∷ []) = pos 0
area2 (a ∷ b ∷ []) = pos 0
area2 (a ∷ b ∷ d ∷ r) = side a b d

-- area2 is not 0
abbrev pub area_test : ℤ → Bool
area_test area = lt_z (pos 0) area || lt_z area (pos 0)

-- edge i to j: ≥ 0 when area2 > 0, and ≤ 0 when area2 < 0
abbrev pub edge_test : ℤ → Point → Point → Point → Bool
edge_test area p i j = cond (lt_z (pos 0) area) (le_z (pos 0) (side i j p)) (le_z (side i j p) (pos 0))

-- t i j for each edge i to j: from a corner to the next, and from the last to `first`
abbrev pub edges_to : (Point → Point → Bool) → Point → List Point → List Bool
edges_to t first [] = []
edges_to t first (i ∷ []) = t i first ∷ []
edges_to t first (i ∷ j ∷ r) = t i j ∷ edges_to t first (j ∷ r)

-- for each edge round the shape, in order
abbrev pub round : (Point → Point → Bool) → List Point → List Bool
round t [] = []
round t (i ∷ r) = edges_to t i (i ∷ r)

-- the tests of a point: first the area's, then one for each edge
unfoldable pub polygon_tests : List Point → Point → List Bool
polygon_tests v p = area_test (area2 v) ∷ round (edge_test (area2 v) p) v

unfoldable pub polygon : List Point → Point → Bool
polygon v p = all_hold (polygon_tests v p)

-- the corners of two lists of coordinates
abbrev pub corners : List ℤ → List ℤ → List Point
corners [] ys = []
corners (x ∷ xs) [] = []
corners (x ∷ xs) (y ∷ ys) = at x y ∷ corners xs ys

-- pixel (x, y) is a whole-number point
abbrev pub polygon_pixel : List Point → ℕ → ℕ → Bool
polygon_pixel v x y = polygon v (at (pos x) (pos y))

-- the lowest and the highest of a list, for the row reach; of no number, 0
unfoldable pub least_of : List ℤ → ℤ
least_of [] = pos 0
least_of (a ∷ []) = a
least_of (a ∷ b ∷ r) = lesser a (least_of (b ∷ r))

unfoldable pub greatest_of : List ℤ → ℤ
greatest_of [] = pos 0
greatest_of (a ∷ []) = a
greatest_of (a ∷ b ∷ r) = greater a (greatest_of (b ∷ r))

-- between the lowest and the highest corner row, and between the leftmost and the rightmost corner column
pub record InBox (xs ys : List ℤ) (p : Point) : Type 0 where
  pub top : least_of ys ≤ℤ p.py
  pub bottom : p.py ≤ℤ greatest_of ys
  pub left : least_of xs ≤ℤ p.px
  pub right : p.px ≤ℤ greatest_of xs

-- ---- what is asked of corners, and the runs that are promised of them
-- three corners or more, within the coordinate range
pub record InRange (xs ys : List ℤ) : Type 0 where
  pub same : length ys ≡ length xs
  pub three : 3 ≤ length xs
  pub x : (i : ℕ) → Bounded 8191 (get_or xs i (pos 0))
  pub y : (i : ℕ) → Bounded 8191 (get_or ys i (pos 0))

-- what is lent ends as the runs of the covered pixels, all 256 rows
abbrev pub FillRunsSays : List ℤ → List ℤ → ℕ → ℕ → List ℕ → Type 0
FillRunsSays xs ys w h after = after ≡ runs_of (polygon_pixel (corners xs ys)) w h

-- what extent_of promises
pub record ExtentOfSays (zs : List ℤ) (least greatest : ℤ) : Type 0 where
  pub low : least ≡ least_of zs
  pub high : greatest ≡ greatest_of zs
