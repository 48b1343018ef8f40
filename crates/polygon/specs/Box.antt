-- Laws: a covered point lies within the rows and the columns of the corners, for any number of corners and both windings: the Rust's boxes leave out nothing.
-- Seen from the point, an edge's side is the cross product of two corner vectors. If the point lay beyond all corners, their slopes would rise
-- all the way round, so all were equal, and there were no area.
use Rattle.std.specs.Prelude.{◌≡◌, refl, Bool, true, false, ◌||◌, cond, ℕ, length, ℤ, pos, negsuc, ◌+ℤ◌, ◌-ℤ◌, ◌*ℤ◌, ◌≤ℤ◌, ◌<ℤ◌}
use Rattle.std.proofs.Common.{sym, ap, subst, ⊎_elim, arith}
use mathlib.Core.List.{List, [], ◌∷◌, map}
use Rattle.std.specs.Int.Signed.{le_z, lt_z}
use Rattle.laws.specs.Parts.{zord, of-, of*}
use Rattle.laws.specs.Fit.{lt_true, le_true, le_false}
use Rattle.laws.specs.Order.{≤ℤ-antisym, ≤ℤ-or-<ℤ, *ℤ-cancel≤, *ℤ-nonneg, +ℤ-nonneg, <ℤ→≤ℤ, by-sub}
use Rattle.laws.specs.Poly.{Ex, x, c, ◌⊞◌, ◌⊟◌, ◌⊠◌, ring}
use Rattle.laws.specs.Bools.{and_left, and_right}
use Rattle.laws.specs.Fit.{no_both}
use Rattle.laws.specs.Runs.{all_hold}
use Rattle.whole.specs.Whole.{lesser, greater}
use Rattle.polygon.specs.Polygon.{Point, side, area_test, edge_test, edges_to, polygon_tests, polygon, corners, least_of, greatest_of, InBox}
use Rattle.polygon.specs.Steps.{sign_of}
use Rattle.polygon.specs.Sides.{edge_inner}

-- every corner
abbrev All : (Point → Type 0) → List Point → Type 0
All f [] = Unit {0}
All f (i ∷ r) = f i × All f r

all_map : (f g : Point → Type 0) → ((q : Point) → f q → g q) → (l : List Point) → All f l → All g l
all_map f g h [] a = tt
all_map f g h (i ∷ r) a = (h i a.0, all_map f g h r a.1)

-- every edge, as edges_to has them
abbrev Edges : (Point → Point → Type 0) → Point → List Point → Type 0
Edges f first [] = Unit {0}
Edges f first (i ∷ []) = f i first
Edges f first (i ∷ j ∷ r) = f i j × Edges f first (j ∷ r)

-- ---- p on the inner side of every edge (s is the sign of the area), and all corners beyond it in the direction (m, n)
abbrev ahead : ℤ → ℤ → Point → Point → ℤ
ahead m n p i = m *ℤ (i.px -ℤ p.px) +ℤ n *ℤ (i.py -ℤ p.py)

module _ (s m n : ℤ) (p : Point) where
  abbrev along : Point → ℤ
  along i = ahead m n p i

  abbrev Beyond : Point → Type 0
  Beyond i = pos 0 <ℤ along i

  abbrev Turn : Point → Point → Type 0
  Turn i j = pos 0 ≤ℤ (s *ℤ side i j p)

  plucker : (i j k : Point) → (s *ℤ side i k p) *ℤ along j -ℤ pos 0 *ℤ along j ≡ along i *ℤ (s *ℤ side j k p) +ℤ along k *ℤ (s *ℤ side i j p)
  plucker i j k = ring (i.px ∷ i.py ∷ j.px ∷ j.py ∷ k.px ∷ k.py ∷ p.px ∷ p.py ∷ m ∷ n ∷ s ∷ [])
      (x 10 ⊠ t 0 1 4 5 ⊠ l 2 3 ⊟ c (pos 0) ⊠ l 2 3)
      (l 0 1 ⊠ (x 10 ⊠ t 2 3 4 5) ⊞ l 4 5 ⊠ (x 10 ⊠ t 0 1 2 3)) tt
    where
      t : ℕ → ℕ → ℕ → ℕ → Ex
      t a b d e = (x d ⊟ x a) ⊠ (x 7 ⊟ x b) ⊟ (x e ⊟ x b) ⊠ (x 6 ⊟ x a)

      l : ℕ → ℕ → Ex
      l a b = x 8 ⊠ (x a ⊟ x 6) ⊞ x 9 ⊠ (x b ⊟ x 7)

  turn_trans : (i j k : Point) → Beyond i → Beyond j → Beyond k → Turn i j → Turn j k → Turn i k
  turn_trans i j k a b d e f =
      *ℤ-cancel≤ (along j) b (by-sub _ (+ℤ-nonneg (*ℤ-nonneg (<ℤ→≤ℤ a) f) (*ℤ-nonneg (<ℤ→≤ℤ d) e)) (plucker i j k))

  chain : (first i : Point) (r : List Point) → Beyond first → All Beyond (i ∷ r) → Edges Turn first (i ∷ r) → Turn i first
  chain first i [] a g t = t
  chain first i (j ∷ r) a g t = turn_trans i j first g.0 g.1.0 a t.0 (chain first j r a g.1 t.1)

  -- the area seen from p, in both orders of the corners
  area_from : (a b d : Point) → s *ℤ side a b d ≡ s *ℤ side a b p +ℤ s *ℤ side b d p +ℤ s *ℤ side d a p
  area_from a b d = ring (a.px ∷ a.py ∷ b.px ∷ b.py ∷ d.px ∷ d.py ∷ p.px ∷ p.py ∷ s ∷ [])
      (x 8 ⊠ ((x 2 ⊟ x 0) ⊠ (x 5 ⊟ x 1) ⊟ (x 3 ⊟ x 1) ⊠ (x 4 ⊟ x 0)))
      (x 8 ⊠ t 0 1 2 3 ⊞ x 8 ⊠ t 2 3 4 5 ⊞ x 8 ⊠ t 4 5 0 1) tt
    where
      t : ℕ → ℕ → ℕ → ℕ → Ex
      t a b d e = (x d ⊟ x a) ⊠ (x 7 ⊟ x b) ⊟ (x e ⊟ x b) ⊠ (x 6 ⊟ x a)

  area_back : (a b d : Point) → pos 0 -ℤ s *ℤ side a b d ≡ s *ℤ side b a p +ℤ s *ℤ side d b p +ℤ s *ℤ side a d p
  area_back a b d = ring (a.px ∷ a.py ∷ b.px ∷ b.py ∷ d.px ∷ d.py ∷ p.px ∷ p.py ∷ s ∷ [])
      (c (pos 0) ⊟ x 8 ⊠ ((x 2 ⊟ x 0) ⊠ (x 5 ⊟ x 1) ⊟ (x 3 ⊟ x 1) ⊠ (x 4 ⊟ x 0)))
      (x 8 ⊠ t 2 3 0 1 ⊞ x 8 ⊠ t 4 5 2 3 ⊞ x 8 ⊠ t 0 1 4 5) tt
    where
      t : ℕ → ℕ → ℕ → ℕ → Ex
      t a b d e = (x d ⊟ x a) ⊠ (x 7 ⊟ x b) ⊟ (x e ⊟ x b) ⊠ (x 6 ⊟ x a)

  no_area : (a b d : Point) (r : List Point) → All Beyond (a ∷ b ∷ d ∷ r) → Edges Turn a (a ∷ b ∷ d ∷ r) → s *ℤ side a b d ≡ pos 0
  no_area a b d r g t =
      let ga = g.0 in
      let gb = g.1.0 in
      let gd = g.1.1.0 in
      let ab : Turn a b = t.0 in
      let bd : Turn b d = t.1.0 in
      let da : Turn d a = chain a d r ga g.1.1 t.1.1 in
      let ad : Turn a d = turn_trans a b d ga gb gd ab bd in
      let ba : Turn b a = turn_trans b d a gb gd ga bd da in
      let db : Turn d b = turn_trans d a b gd ga gb da ab in
      ≤ℤ-antisym (by-sub _ (+ℤ-nonneg (+ℤ-nonneg ba db) ad) (area_back a b d))
      (subst (λ (z : ℤ). pos 0 ≤ℤ z) (sym (area_from a b d)) (+ℤ-nonneg (+ℤ-nonneg ab bd) da))

-- ---- what is known of a covered point
area_signed : (area : ℤ) → area_test area ≡ true → pos 0 <ℤ (sign_of area *ℤ area)
area_signed area h = by (lt_z (pos 0) area) refl h
  where
    by : (b : Bool) → lt_z (pos 0) area ≡ b → b || lt_z area (pos 0) ≡ true → pos 0 <ℤ (cond b (pos 1) (negsuc 0) *ℤ area)
    by true e g = let l : pos 0 <ℤ area = lt_true (pos 0) area e in omega (arith, zord, of* (pos 1) area)
    by false e g = let l : area <ℤ pos 0 = lt_true area (pos 0) g in omega (arith, zord, of* (negsuc 0) area)

edges_turn : (area : ℤ) (p first : Point) (l : List Point) → all_hold (edges_to (edge_test area p) first l) ≡ true
    → Edges (λ i j. pos 0 ≤ℤ (sign_of area *ℤ side i j p)) first l
edges_turn area p first [] h = tt
edges_turn area p first (i ∷ []) h = edge_inner area p i first (and_left _ true h)
edges_turn area p first (i ∷ j ∷ r) h =
    (edge_inner area p i j (and_left _ _ h), edges_turn area p first (j ∷ r) (and_right (edge_test area p i j) _ h))

-- not all corners lie beyond it, in any direction
not_beyond : (l : List Point) (p : Point) (m n : ℤ) → polygon l p ≡ true → All (λ i. pos 0 <ℤ ahead m n p i) l → ⊥
unfolding polygon polygon_tests
not_beyond [] p m n h g = no_both h refl
not_beyond (a ∷ []) p m n h g = no_both h refl
not_beyond (a ∷ b ∷ []) p m n h g = no_both h refl
not_beyond (a ∷ b ∷ d ∷ r) p m n h g =
    let area = side a b d in
    let l = a ∷ b ∷ d ∷ r in
    let some : pos 0 <ℤ (sign_of area *ℤ area) = area_signed area (and_left (area_test area) _ h) in
    let none : sign_of area *ℤ area ≡ pos 0 = no_area (sign_of area) m n p a b d r g (edges_turn area p a l (and_right (area_test area) _ h)) in
    absurd (omega (arith, zord))

-- ---- the lowest and the highest
pub lesser-left : (a b : ℤ) → lesser a b ≤ℤ a
lesser-left a b = by (le_z a b) refl
  where
    by : (t : Bool) → le_z a b ≡ t → cond t a b ≤ℤ a
    by true e = omega (arith, zord)
    by false e = let h : b <ℤ a = le_false a b e in omega (arith, zord)

pub lesser-right : (a b : ℤ) → lesser a b ≤ℤ b
lesser-right a b = by (le_z a b) refl
  where
    by : (t : Bool) → le_z a b ≡ t → cond t a b ≤ℤ b
    by true e = le_true a b e
    by false e = omega (arith, zord)

pub greater-left : (a b : ℤ) → a ≤ℤ greater a b
greater-left a b = by (le_z a b) refl
  where
    by : (t : Bool) → le_z a b ≡ t → a ≤ℤ cond t b a
    by true e = le_true a b e
    by false e = omega (arith, zord)

pub greater-right : (a b : ℤ) → b ≤ℤ greater a b
greater-right a b = by (le_z a b) refl
  where
    by : (t : Bool) → le_z a b ≡ t → b ≤ℤ cond t b a
    by true e = omega (arith, zord)
    by false e = let h : b <ℤ a = le_false a b e in omega (arith, zord)

module _ (f : Point → ℤ) (k : ℤ) where
  all_above : (l : List Point) → k <ℤ least_of (map f l) → All (λ q. k <ℤ f q) l
  unfolding least_of
  all_above [] h = tt
  all_above (a ∷ []) h = (h, tt)
  all_above (a ∷ b ∷ r) h =
      let m = least_of (map f (b ∷ r)) in
      let l = lesser-left (f a) m in
      let g = lesser-right (f a) m in
      (omega (arith, zord), all_above (b ∷ r) (omega (arith, zord)))

  all_below_lem : (l : List Point) → greatest_of (map f l) <ℤ k → All (λ q. f q <ℤ k) l
  unfolding greatest_of
  all_below_lem [] h = tt
  all_below_lem (a ∷ []) h = (h, tt)
  all_below_lem (a ∷ b ∷ r) h =
      let m = greatest_of (map f (b ∷ r)) in
      let l = greater-left (f a) m in
      let g = greater-right (f a) m in
      (omega (arith, zord), all_below_lem (b ∷ r) (omega (arith, zord)))

-- ---- the box
module _ (l : List Point) (p : Point) (h : polygon l p ≡ true) where
  -- f is the coordinate in the direction (m, n)
  above_least : (f : Point → ℤ) (m n : ℤ) → ((q : Point) → ahead m n p q ≡ f q -ℤ f p) → least_of (map f l) ≤ℤ f p
  above_least f m n e = ⊎_elim (λ a. a) none (≤ℤ-or-<ℤ (least_of (map f l)) (f p))
    where
      beyond : (q : Point) → f p <ℤ f q → pos 0 <ℤ ahead m n p q
      beyond q a = omega (arith, zord, e q, of- (f q) (f p))

      none : f p <ℤ least_of (map f l) → least_of (map f l) ≤ℤ f p
      none b = absurd (not_beyond l p m n h (all_map (λ q. f p <ℤ f q) (λ q. pos 0 <ℤ ahead m n p q) beyond l (all_above f (f p) l b)))

  below_greatest : (f : Point → ℤ) (m n : ℤ) → ((q : Point) → ahead m n p q ≡ f p -ℤ f q) → f p ≤ℤ greatest_of (map f l)
  below_greatest f m n e = ⊎_elim (λ a. a) none (≤ℤ-or-<ℤ (f p) (greatest_of (map f l)))
    where
      beyond : (q : Point) → f q <ℤ f p → pos 0 <ℤ ahead m n p q
      beyond q a = omega (arith, zord, e q, of- (f p) (f q))

      none : greatest_of (map f l) <ℤ f p → f p ≤ℤ greatest_of (map f l)
      none b = absurd (not_beyond l p m n h (all_map (λ q. f q <ℤ f p) (λ q. pos 0 <ℤ ahead m n p q) beyond l (all_below_lem f (f p) l b)))

  pub covered_in_box : InBox (map (λ q. q.px) l) (map (λ q. q.py) l) p
  covered_in_box = record {
    top = above_least (λ q. q.py) (pos 0) (pos 1) (λ q. ring (seen q) (dir (pos 0) (pos 1)) (x 1 ⊟ x 3) tt);
    bottom = below_greatest (λ q. q.py) (pos 0) (negsuc 0) (λ q. ring (seen q) (dir (pos 0) (negsuc 0)) (x 3 ⊟ x 1) tt);
    left = above_least (λ q. q.px) (pos 1) (pos 0) (λ q. ring (seen q) (dir (pos 1) (pos 0)) (x 0 ⊟ x 2) tt);
    right = below_greatest (λ q. q.px) (negsuc 0) (pos 0) (λ q. ring (seen q) (dir (negsuc 0) (pos 0)) (x 2 ⊟ x 0) tt);
  }
    where
      seen : Point → List ℤ
      seen q = q.px ∷ q.py ∷ p.px ∷ p.py ∷ []

      dir : ℤ → ℤ → Ex
      dir m n = c m ⊠ (x 0 ⊟ x 2) ⊞ c n ⊠ (x 1 ⊟ x 3)

-- the coordinates of corners are the lists that they were made of
map_rows : (xs ys : List ℤ) → length ys ≡ length xs → map (λ (q : Point). q.py) (corners xs ys) ≡ ys
map_rows [] [] e = refl
map_rows [] (b ∷ ys) e = absurd (omega arith)
map_rows (a ∷ xs) [] e = absurd (omega arith)
map_rows (a ∷ xs) (b ∷ ys) e = ap (λ (r : List ℤ). b ∷ r) (map_rows xs ys (omega arith))

map-columns : (xs ys : List ℤ) → length ys ≡ length xs → map (λ (q : Point). q.px) (corners xs ys) ≡ xs
map-columns [] [] e = refl
map-columns [] (b ∷ ys) e = refl
map-columns (a ∷ xs) [] e = absurd (omega arith)
map-columns (a ∷ xs) (b ∷ ys) e = ap (λ (r : List ℤ). a ∷ r) (map-columns xs ys (omega arith))

pub polygon_in_box : (xs ys : List ℤ) (p : Point) → length ys ≡ length xs → polygon (corners xs ys) p ≡ true → InBox xs ys p
polygon_in_box xs ys p e h = rw (map-columns xs ys e, map_rows xs ys e) at (covered_in_box (corners xs ys) p h)
