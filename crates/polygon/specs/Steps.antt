-- Rules: what the private functions below fill_quad ask and promise.
use Rattle.std.specs.Prelude.{◌≡◌, true, false, cond, List, ◌↔◌, ℕ, zero, suc, ◌+◌, ◌*◌, ◌/◌, ◌^◌, ◌≤◌, ◌<◌, ltb, length, get_or, ℤ, pos, negsuc, ◌+ℤ◌, ◌-ℤ◌, ◌*ℤ◌, ◌≤ℤ◌, ◌<ℤ◌}
use Rattle.std.specs.Int.Signed.{lt_z}
use Rattle.laws.specs.Bound.{Bounded}
use Rattle.laws.specs.Ends.{ends_of, left_of, right_of}
use Rattle.polygon.specs.declared.edges.Edge.{Edge}
use Rattle.polygon.specs.Polygon.{Point, at, side, area2, area_test, corners, polygon_pixel}

-- a point within the coordinate range
pub record Placed (p : Point) : Type 0 where
  pub x : Bounded 8191 p.px
  pub y : Bounded 8191 p.py

-- 1 when area2 > 0, else -1: on the inner side an edge's side times this is ≥ 0
abbrev pub sign_of : ℤ → ℤ
sign_of area = cond (lt_z (pos 0) area) (pos 1) (negsuc 0)

-- the corner after i, of n
abbrev pub next_of : ℕ → ℕ → ℕ
next_of n i = cond (ltb (i + 1) n) (i + 1) 0

-- of the columns lo up to hi, those from left up to right are the ones with the property
pub record Kept (P : ℕ → Type 0) (lo hi left right : ℕ) : Type 0 where
  pub within : right ≤ hi
  pub to : (x : ℕ) → left ≤ x → x < right → (lo ≤ x) × P x
  pub from : (x : ℕ) → lo ≤ x → x < hi → P x → (left ≤ x) × (x < right)

-- at or above 0, on the line a * x + c
abbrev pub Above : ℤ → ℤ → ℕ → Type 0
Above a c x = pos 0 ≤ℤ (a *ℤ pos x +ℤ c)

-- on the inner side of the edge i to j, at a column of the row y
abbrev pub Inner : ℤ → Point → Point → ℤ → ℕ → Type 0
Inner sign i j y x = pos 0 ≤ℤ (sign *ℤ side i j (at (pos x) y))

-- at or above 0, on the line that the row moves
abbrev pub HalfPlane : ℤ → ℤ → ℤ → ℕ → ℕ → Type 0
HalfPlane a c s y x = Above a (c +ℤ s *ℤ pos y) x

-- on one side of row yi, or anywhere
abbrev pub Level : ℤ → ℤ → ℕ → ℕ → Type 0
Level s yi y x = pos 0 ≤ℤ (s *ℤ (pos y -ℤ yi))

abbrev pub InnerOf : ℤ → Point → Point → ℕ → ℕ → Type 0
InnerOf sign i j y x = Inner sign i j (pos y) x

-- -1, 0 or 1
abbrev pub turn_of : ℤ → ℤ
turn_of (pos zero) = pos 0
turn_of (pos (suc n)) = pos 1
turn_of (negsuc n) = negsuc 0

-- so many binary digits stand for the quotient's fraction
abbrev pub digits_of : ℕ → ℕ
digits_of height = cond (ltb height 64) 31 37

-- up to column 256 the columns of a row with the property are those from a quotient on, or those before it: of the edge's number in that
-- row, by a height. `times`, `digits` and `most` are what a division by that height needs to know.
pub record Cuts (R : ℕ → ℕ → Type 0) (e : Edge) : Type 0 where
  pub height : ℕ
  pub some : 0 < height
  pub few : height ≤ 16382
  pub digits : e.digits ≤ 37
  pub exact : 258 * (height * height) ≤ 2 ^ e.digits
  pub times : e.times ≡ 2 ^ e.digits / height + 1
  pub slim : e.times < 4294967296
  pub most : e.most ≡ height * 257
  pub start : Bounded 310000000 e.start
  pub step : Bounded 16382 e.step
  pub first : e.begins ≡ true → (y x : ℕ) → x < 257 → ((e.start +ℤ e.step *ℤ pos y) <ℤ pos ((x + 1) * height)) ↔ R y x
  pub last : e.begins ≡ false → (y x : ℕ) → x < 257 → (pos ((x + 1) * height) ≤ℤ (e.start +ℤ e.step *ℤ pos y)) ↔ R y x

-- the edges of four corners, around
pub record Edges (x0 y0 x1 y1 x2 y2 x3 y3 sign : ℤ) (e0 e1 e2 e3 : Edge) : Type 0 where
  pub one : Cuts (InnerOf sign (at x0 y0) (at x1 y1)) e0
  pub two : Cuts (InnerOf sign (at x1 y1) (at x2 y2)) e1
  pub three : Cuts (InnerOf sign (at x2 y2) (at x3 y3)) e2
  pub four : Cuts (InnerOf sign (at x3 y3) (at x0 y0)) e3

-- a corner of two lists of coordinates, by place
abbrev pub corner : List ℤ → List ℤ → ℕ → Point
corner xs ys i = at (get_or xs i (pos 0)) (get_or ys i (pos 0))

-- on the inner side of the edge from corner i to the next
abbrev pub InnerAt : List ℤ → List ℤ → ℤ → ℤ → ℕ → ℕ → Type 0
InnerAt xs ys sign y x i = Inner sign (corner xs ys i) (corner xs ys (next_of (length xs) i)) y x

-- on the inner side of the first m edges
abbrev pub First : List ℤ → List ℤ → ℤ → ℤ → ℕ → ℕ → Type 0
First xs ys sign y m x = (i : ℕ) → i < m → InnerAt xs ys sign y x i

-- the two ends of row y in a list of runs
abbrev pub left_at : List ℕ → ℕ → ℕ
left_at out y = get_or out (y * 2) 0

abbrev pub right_at : List ℕ → ℕ → ℕ
right_at out y = get_or out (y * 2 + 1) 0

-- places for 256 rows, of numbers that a u16 holds
pub record Room (out : List ℕ) : Type 0 where
  pub size : length out ≡ 512
  pub small : (k : ℕ) → get_or out k 0 < 65536

-- R holds of each row from first up to past, its two ends before and its two ends after; the other rows are as they were
pub record Rows (R : ℕ → ℕ → ℕ → ℕ → ℕ → Type 0) (first past : ℕ) (before after : List ℕ) : Type 0 where
  pub room : Room after
  pub each : (y : ℕ) → first ≤ y → y < past → R y (left_at before y) (right_at before y) (left_at after y) (right_at after y)
  pub above : (y : ℕ) → y < first → (left_at after y ≡ left_at before y) × (right_at after y ≡ right_at before y)
  pub below : (y : ℕ) → first ≤ y → past ≤ y → (left_at after y ≡ left_at before y) × (right_at after y ≡ right_at before y)

-- as it was, and 0, 0 where no column is left
pub record Closed (lo hi left right : ℕ) : Type 0 where
  pub some : lo < hi → (left ≡ lo) × (right ≡ hi)
  pub none : hi ≤ lo → (left ≡ 0) × (right ≡ 0)

-- a shape with an area, and the sign of that
pub record Signed (xs ys : List ℤ) (sign : ℤ) : Type 0 where
  pub some : area_test (area2 (corners xs ys)) ≡ true
  pub is : sign ≡ sign_of (area2 (corners xs ys))

-- the first covered column of row y, and the one past the last; 0 and 0 if none is covered
pub record RowRun (xs ys : List ℤ) (w y left right : ℕ) : Type 0 where
  pub first : left ≡ left_of (ends_of (λ x. polygon_pixel (corners xs ys) x y) w)
  pub past : right ≡ right_of (ends_of (λ x. polygon_pixel (corners xs ys) x y) w)
