-- Laws: an edge's test as one order, for both windings; as a line along a row; and the tests of a polygon taken apart.
use Rattle.std.specs.Prelude.{◌≡◌, Bool, true, false, cond, List, [], ◌∷◌, ℕ, ℤ, pos, negsuc, ◌+ℤ◌, ◌-ℤ◌, ◌*ℤ◌, ◌≤ℤ◌, ◌<ℤ◌}
use Rattle.std.proofs.Common.{sym, ◌∙◌, ap, subst, ⊎_elim, arith}
use Rattle.std.specs.Int.Signed.{le_z, lt_z}
use Rattle.laws.specs.Parts.{zord, of*}
use Rattle.laws.specs.Fit.{le_true}
use Rattle.laws.specs.Order.{<ℤ→≤ℤ, ≤ℤ-or-<ℤ, *ℤ-mono, *ℤ-anti}
use Rattle.laws.specs.Rep.{v, k, ◌⊕◌, ◌⊗◌, rep_le, le_rep}
use Rattle.laws.specs.Poly.{x, c, ◌⊞◌, ◌⊟◌, ◌⊠◌, ring}
use Rattle.laws.specs.Bools.{is_true, same_test}
use Rattle.laws.specs.Runs.{all_hold}
use Rattle.laws.specs.EndsLaws.{Convex}
use Rattle.laws.specs.Holds.{and_convex, const_convex}
use Rattle.polygon.specs.Polygon.{Point, at, side, area2, area_test, edge_test, edges_to, polygon_tests, polygon}
use Rattle.polygon.specs.Steps.{sign_of}

-- ---- an edge's test is one order
pub true_le : (a b : ℤ) → a ≤ℤ b → le_z a b ≡ true
true_le a b h = is_true (le_z a b) h.le

-- the same for both windings: 0 ≤ s * side, s the sign of the area
edge_sign_by : (b : Bool) (z : ℤ) → cond b (le_z (pos 0) z) (le_z z (pos 0)) ≡ le_z (pos 0) (cond b (pos 1) (negsuc 0) *ℤ z)
edge_sign_by true z = ap (λ (t : ℤ). le_z (pos 0) t) (ring (z ∷ []) (x 0) (c (pos 1) ⊠ x 0) tt)
edge_sign_by false z =
    same_test (le_z z (pos 0)) (le_z (pos 0) (negsuc 0 *ℤ z))
    (λ h. let l : z ≤ℤ pos 0 = le_true z (pos 0) h in true_le (pos 0) (negsuc 0 *ℤ z) (omega (arith, zord, of* (negsuc 0) z)))
    (λ h. let l : pos 0 ≤ℤ (negsuc 0 *ℤ z) = le_true (pos 0) (negsuc 0 *ℤ z) h in true_le z (pos 0) (omega (arith, zord, of* (negsuc 0) z)))

pub edge_sign : (area : ℤ) (p i j : Point) → edge_test area p i j ≡ le_z (pos 0) (sign_of area *ℤ side i j p)
edge_sign area p i j = edge_sign_by (lt_z (pos 0) area) (side i j p)

pub edge_inner : (area : ℤ) (p i j : Point) → edge_test area p i j ≡ true → pos 0 ≤ℤ (sign_of area *ℤ side i j p)
edge_inner area p i j h = le_true (pos 0) (sign_of area *ℤ side i j p) (sym (edge_sign area p i j) ∙ h)

pub inner_edge : (area : ℤ) (p i j : Point) → pos 0 ≤ℤ (sign_of area *ℤ side i j p) → edge_test area p i j ≡ true
inner_edge area p i j h = edge_sign area p i j ∙ true_le (pos 0) (sign_of area *ℤ side i j p) h

-- ---- along a row the side is a line, a * x + b, and b is a line down the rows
pub line : (s : ℤ) (i j p : Point) → s *ℤ side i j p
    ≡ (s *ℤ (i.py -ℤ j.py)) *ℤ p.px +ℤ (s *ℤ ((j.py -ℤ i.py) *ℤ i.px -ℤ (j.px -ℤ i.px) *ℤ i.py) +ℤ (s *ℤ (j.px -ℤ i.px)) *ℤ p.py)
line s i j p = ring (s ∷ i.px ∷ i.py ∷ j.px ∷ j.py ∷ p.px ∷ p.py ∷ [])
    (x 0 ⊠ ((x 3 ⊟ x 1) ⊠ (x 6 ⊟ x 2) ⊟ (x 4 ⊟ x 2) ⊠ (x 5 ⊟ x 1)))
    ((x 0 ⊠ (x 2 ⊟ x 4)) ⊠ x 5 ⊞ (x 0 ⊠ ((x 4 ⊟ x 2) ⊠ x 1 ⊟ (x 3 ⊟ x 1) ⊠ x 2) ⊞ (x 0 ⊠ (x 3 ⊟ x 1)) ⊠ x 6)) tt

-- the same, from corner i on
pub line-from : (s : ℤ) (i j p : Point) → s *ℤ side i j p ≡ (s *ℤ (i.py -ℤ j.py)) *ℤ (p.px -ℤ i.px) +ℤ (s *ℤ (j.px -ℤ i.px)) *ℤ (p.py -ℤ i.py)
line-from s i j p = ring (s ∷ i.px ∷ i.py ∷ j.px ∷ j.py ∷ p.px ∷ p.py ∷ [])
    (x 0 ⊠ ((x 3 ⊟ x 1) ⊠ (x 6 ⊟ x 2) ⊟ (x 4 ⊟ x 2) ⊠ (x 5 ⊟ x 1)))
    ((x 0 ⊠ (x 2 ⊟ x 4)) ⊠ (x 5 ⊟ x 1) ⊞ (x 0 ⊠ (x 3 ⊟ x 1)) ⊠ (x 6 ⊟ x 2)) tt

-- from a corner to itself there is no side
pub no_side : (s : ℤ) (i p : Point) → s *ℤ side i i p ≡ pos 0
no_side s i p =
    ring (s ∷ i.px ∷ i.py ∷ p.px ∷ p.py ∷ []) (x 0 ⊠ ((x 1 ⊟ x 1) ⊠ (x 4 ⊟ x 2) ⊟ (x 2 ⊟ x 2) ⊠ (x 3 ⊟ x 1))) (c (pos 0)) tt

-- a line that is not negative at two places is not negative between them
between : (a b u m w : ℤ) → u ≤ℤ m → m ≤ℤ w → pos 0 ≤ℤ (a *ℤ u +ℤ b) → pos 0 ≤ℤ (a *ℤ w +ℤ b) → pos 0 ≤ℤ (a *ℤ m +ℤ b)
between a b u m w h l f g = ⊎_elim rising falling (≤ℤ-or-<ℤ (pos 0) a)
  where
    above : (s : ℤ) → pos 0 ≤ℤ (a *ℤ s +ℤ b) → (s *ℤ a) ≤ℤ (m *ℤ a) → pos 0 ≤ℤ (a *ℤ m +ℤ b)
    above s p q = rep_le (k 0) (v a ⊗ v m ⊕ v b) (omega (arith, le_rep (k 0) (v a ⊗ v s ⊕ v b) p, le_rep (v s ⊗ v a) (v m ⊗ v a) q))

    rising : pos 0 ≤ℤ a → pos 0 ≤ℤ (a *ℤ m +ℤ b)
    rising p = above u f (*ℤ-mono a p h)

    falling : a <ℤ pos 0 → pos 0 ≤ℤ (a *ℤ m +ℤ b)
    falling p = above w g (*ℤ-anti a (<ℤ→≤ℤ p) l)

edge_convex : (area y : ℤ) (i j : Point) → Convex (λ u. edge_test area (at (pos u) y) i j)
edge_convex area y i j u m w h l f g =
    let s = sign_of area in
    let a = s *ℤ (i.py -ℤ j.py) in
    let b = s *ℤ ((j.py -ℤ i.py) *ℤ i.px -ℤ (j.px -ℤ i.px) *ℤ i.py) +ℤ (s *ℤ (j.px -ℤ i.px)) *ℤ y in
    let e : (t : ℕ) → s *ℤ side i j (at (pos t) y) ≡ a *ℤ pos t +ℤ b = λ t. line s i j (at (pos t) y) in
    inner_edge area (at (pos m) y) i j
    (subst (λ (z : ℤ). pos 0 ≤ℤ z) (sym (e m))
    (between a b (pos u) (pos m) (pos w) (omega (arith, zord)) (omega (arith, zord))
    (subst (λ (z : ℤ). pos 0 ≤ℤ z) (e u) (edge_inner area (at (pos u) y) i j f))
    (subst (λ (z : ℤ). pos 0 ≤ℤ z) (e w) (edge_inner area (at (pos w) y) i j g))))

edges_convex : (area y : ℤ) (first : Point) (l : List Point) → Convex (λ u. all_hold (edges_to (edge_test area (at (pos u) y)) first l))
edges_convex area y first [] = const_convex true
edges_convex area y first (i ∷ []) = and_convex _ _ (edge_convex area y i first) (const_convex true)
edges_convex area y first (i ∷ j ∷ r) = and_convex _ _ (edge_convex area y i j) (edges_convex area y first (j ∷ r))

-- all between two covered columns of a row are covered
pub polygon_convex : (l : List Point) (y : ℤ) → Convex (λ u. polygon l (at (pos u) y))
unfolding polygon polygon_tests
polygon_convex [] y = and_convex _ _ (const_convex (area_test (pos 0))) (const_convex true)
polygon_convex (i ∷ r) y = and_convex _ _ (const_convex (area_test (area2 (i ∷ r)))) (edges_convex (area2 (i ∷ r)) y i (i ∷ r))
