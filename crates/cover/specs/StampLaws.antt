-- Laws: a tiny shape lies in its window; stamps of moved shapes; two stamps that are known are one.
use Rattle.std.specs.Prelude.{◌≡◌, Bool, true, ◌&&◌, cond, [], ◌∷◌, ℕ, ◌+◌, ℤ, pos, ◌+ℤ◌, ◌-ℤ◌, ◌≤ℤ◌, ◌<ℤ◌, Some}
use Rattle.std.proofs.Math.Path.{refl}
use Rattle.std.proofs.Common.{sym, ◌∙◌, ap, ap₂, arith}
use Rattle.std.specs.Int.Signed.{le_z, lt_z}
use Rattle.laws.specs.Parts.{zord, of+, of-}
use Rattle.laws.specs.Poly.{x, ◌⊞◌, ◌⊟◌, ◌⊠◌, ring}
use Rattle.laws.specs.Bools.{and_left, and_right}
use Rattle.laws.specs.Fit.{le_true, lt_true}
use Rattle.laws.specs.Runs.{all_hold}
use Rattle.disc.specs.Disc.{disc_tests, square}
use Rattle.polygon.specs.Polygon.{Point, at, side, polygon, polygon_tests, polygon_pixel, corners, least_of, greatest_of}
use Rattle.polygon.specs.OneRow.{four}
use Rattle.polygon.specs.Box.{lesser-left, lesser-right, greater-left, greater-right}
use Rattle.whole.specs.Whole.{lesser, greater}
use Rattle.stamp.specs.Stamp.{Eighth, CircleStampSays, PolygonStampSays}
use Rattle.stamp.specs.Digits.{InWindow}
use Rattle.stamp.specs.DigitLaws.{stamp_moved, stamp_same}
use Rattle.cover.specs.declared.Kind.{Kind}
use Rattle.cover.specs.declared.Kind.TheVariants.{Circle, Triangle, Quad}
use Rattle.cover.specs.Cover.{covered, lowest_row, highest_row}
use Rattle.cover.specs.CoverLaws.{covered-rows, covered-columns}
use Rattle.cover.specs.ReachRows.{turned}
use Rattle.cover.specs.StepLaws.{twice}
use Rattle.cover.specs.Stamps.{Stamped, StampSays, FirstColumnSays, Among}

-- two stamps that are known are equal; that none is known is an answer for any shape
pub StampSays-unique : (kind : Kind) (left top w h r s : ℕ) → StampSays kind left top w h (Some r) → StampSays kind left top w h (Some s) → r ≡ s
StampSays-unique kind left top w h r s f g = f.is ∙ sym g.is

pub FirstColumnSays-unique : (kind : Kind) (w r s : ℕ) → FirstColumnSays kind w r → FirstColumnSays kind w s → r ≡ s
FirstColumnSays-unique kind w r s f g = f ∙ sym g

-- a shape whose rows and columns are among eight
pub in_window : (kind : Kind) (left top w h : ℕ) → Among (lowest_row (turned kind)) (highest_row (turned kind)) left w → Among (lowest_row kind) (highest_row kind) top h → InWindow (covered kind) left top w h
in_window kind left top w h a b = record {
  columns = λ u v t. let d = covered-columns kind u v t in (omega (arith, zord, d.0, a.low), omega (arith, zord, d.1, a.high), omega (arith, zord, d.1, a.inside));
  rows = λ u v t. let d = covered-rows kind u v t in (omega (arith, zord, d.0, b.low), omega (arith, zord, d.1, b.high), omega (arith, zord, d.1, b.inside));
}

-- what three comparisons show
pub compared : (first last : ℤ) (from n : ℕ) → (le_z (pos from) first && le_z (last -ℤ pos from) (pos 7)) && lt_z last (pos n) ≡ true → Among first last from n
compared first last from n e =
    let a = le_z (pos from) first in
    let b = le_z (last -ℤ pos from) (pos 7) in
    let d = lt_z last (pos n) in
    let g = le_true (last -ℤ pos from) (pos 7) (and_right a b (and_left (a && b) d e)) in record {
      low = le_true (pos from) first (and_left a b (and_left (a && b) d e));
      high = omega (arith, zord, of- last (pos from), g);
      inside = lt_true last (pos n) (and_right (a && b) d e);
    }

-- ---- a circle that is moved
moved_circle : (cx cy r : ℤ) (left top : ℕ) → cx -ℤ r ≡ pos left → cy -ℤ r ≡ pos top → (u v : ℕ)
    → all_hold (disc_tests r r r (pos u) (pos v)) ≡ covered (Circle cx cy r) (left + u) (top + v)
unfolding covered disc_tests
moved_circle cx cy r left top e f u v = ap₂ (λ (a b : ℤ). le_z (pos 1) r && (le_z (square a +ℤ square b) (square r) && true)) (one cx left u e) (one cy top v f)
  where
    one : (z : ℤ) (n k : ℕ) → z -ℤ r ≡ pos n → pos k -ℤ r ≡ pos (n + k) -ℤ z
    one z n k g = let p : pos (n + k) ≡ (z -ℤ r) +ℤ pos k = ap (λ (a : ℤ). a +ℤ pos k) (sym g) in
        sym (ap (λ (a : ℤ). a -ℤ z) p ∙ ring (z ∷ r ∷ pos k ∷ []) (((x 0 ⊟ x 1) ⊞ x 2) ⊟ x 0) (x 2 ⊟ x 1) tt)

-- a small circle is at most seven pixels wide
circle_among : (z r : ℤ) (from n : ℕ) → r ≤ℤ pos 3 → z -ℤ r ≡ pos from → (z +ℤ r) <ℤ pos n → Among (z -ℤ r) (z +ℤ r) from n
circle_among z r from n l e f = record {
  low = omega (arith, zord, of- z r, e);
  high = omega (arith, zord, of- z r, of+ z r, e);
  inside = f;
}

pub circle_stamped : (cx cy r : ℤ) (left top w h s : ℕ) → r ≤ℤ pos 3 → cx -ℤ r ≡ pos left → (cx +ℤ r) <ℤ pos w → cy -ℤ r ≡ pos top → (cy +ℤ r) <ℤ pos h
    → CircleStampSays r s → Stamped (Circle cx cy r) left top w h s
circle_stamped cx cy r left top w h s l e a f b g = record {
  is = g ∙ stamp_moved (λ u v. all_hold (disc_tests r r r (pos u) (pos v))) (covered (Circle cx cy r)) left top (moved_circle cx cy r left top e f);
  window = in_window (Circle cx cy r) left top w h (circle_among cx r left w l e a) (circle_among cy r top h l f b);
}

-- ---- corners that are moved
side-moved : (i j : Point) (l t : ℤ) (u v : ℕ) → side (at (i.px -ℤ l) (i.py -ℤ t)) (at (j.px -ℤ l) (j.py -ℤ t)) (at (pos u) (pos v)) ≡ side i j (at (l +ℤ pos u) (t +ℤ pos v))
side-moved i j l t u v =
    ring (i.px ∷ i.py ∷ j.px ∷ j.py ∷ l ∷ t ∷ pos u ∷ pos v ∷ [])
    (((x 2 ⊟ x 4) ⊟ (x 0 ⊟ x 4)) ⊠ (x 7 ⊟ (x 1 ⊟ x 5)) ⊟ ((x 3 ⊟ x 5) ⊟ (x 1 ⊟ x 5)) ⊠ (x 6 ⊟ (x 0 ⊟ x 4)))
    ((x 2 ⊟ x 0) ⊠ ((x 5 ⊞ x 7) ⊟ x 1) ⊟ (x 3 ⊟ x 1) ⊠ ((x 4 ⊞ x 6) ⊟ x 0)) tt

area_moved : (i j k : Point) (l t : ℤ) → side (at (i.px -ℤ l) (i.py -ℤ t)) (at (j.px -ℤ l) (j.py -ℤ t)) (at (k.px -ℤ l) (k.py -ℤ t)) ≡ side i j k
area_moved i j k l t =
    ring (i.px ∷ i.py ∷ j.px ∷ j.py ∷ k.px ∷ k.py ∷ l ∷ t ∷ [])
    (((x 2 ⊟ x 6) ⊟ (x 0 ⊟ x 6)) ⊠ ((x 5 ⊟ x 7) ⊟ (x 1 ⊟ x 7)) ⊟ ((x 3 ⊟ x 7) ⊟ (x 1 ⊟ x 7)) ⊠ ((x 4 ⊟ x 6) ⊟ (x 0 ⊟ x 6)))
    ((x 2 ⊟ x 0) ⊠ (x 5 ⊟ x 1) ⊟ (x 3 ⊟ x 1) ⊠ (x 4 ⊟ x 0)) tt

module _ (x0 y0 x1 y1 x2 y2 x3 y3 : ℤ) (left top : ℕ) where
  abbrev l : ℤ
  l = pos left

  abbrev t : ℤ
  t = pos top

  -- an edge's test is its side's sign, by the sign of the area
  abbrev by : ℤ → ℤ → Bool
  by area z = cond (lt_z (pos 0) area) (le_z (pos 0) z) (le_z z (pos 0))

  moved_quad : (u v : ℕ)
      → polygon_pixel (corners (four (x0 -ℤ l) (x1 -ℤ l) (x2 -ℤ l) (x3 -ℤ l)) (four (y0 -ℤ t) (y1 -ℤ t) (y2 -ℤ t) (y3 -ℤ t))) u v ≡ covered (Quad x0 y0 x1 y1 x2 y2 x3 y3) (left + u) (top + v)
  unfolding covered polygon polygon_tests
  moved_quad u v =
      let a = area_moved (at x0 y0) (at x1 y1) (at x2 y2) l t in
      let p = side-moved (at x0 y0) (at x1 y1) l t u v in
      let q = side-moved (at x1 y1) (at x2 y2) l t u v in
      let r = side-moved (at x2 y2) (at x3 y3) l t u v in
      let s = side-moved (at x3 y3) (at x0 y0) l t u v in
      rw (a, p, q, r, s) refl

  pub polygon_stamped : (w h s : ℕ) → Among (lowest_row (turned (Quad x0 y0 x1 y1 x2 y2 x3 y3))) (highest_row (turned (Quad x0 y0 x1 y1 x2 y2 x3 y3))) left w
      → Among (lowest_row (Quad x0 y0 x1 y1 x2 y2 x3 y3)) (highest_row (Quad x0 y0 x1 y1 x2 y2 x3 y3)) top h
      → PolygonStampSays (x0 -ℤ l) (y0 -ℤ t) (x1 -ℤ l) (y1 -ℤ t) (x2 -ℤ l) (y2 -ℤ t) (x3 -ℤ l) (y3 -ℤ t) s → Stamped (Quad x0 y0 x1 y1 x2 y2 x3 y3) left top w h s
  polygon_stamped w h s a b g = record {
    is =
        g ∙ stamp_moved (polygon_pixel (corners (four (x0 -ℤ l) (x1 -ℤ l) (x2 -ℤ l) (x3 -ℤ l)) (four (y0 -ℤ t) (y1 -ℤ t) (y2 -ℤ t) (y3 -ℤ t)))) (covered (Quad x0 y0 x1 y1 x2 y2 x3 y3)) left top moved_quad;
    window = in_window (Quad x0 y0 x1 y1 x2 y2 x3 y3) left top w h a b;
  }

-- a triangle is a quad that has its last corner twice
pub triangle_stamped : (x0 y0 x1 y1 x2 y2 : ℤ) (left top w h s : ℕ) → Stamped (Quad x0 y0 x1 y1 x2 y2 x2 y2) left top w h s → Stamped (Triangle x0 y0 x1 y1 x2 y2) left top w h s
unfolding covered polygon
triangle_stamped x0 y0 x1 y1 x2 y2 left top w h s g = record {
  is = g.is ∙ stamp_same (covered (Quad x0 y0 x1 y1 x2 y2 x2 y2)) (covered (Triangle x0 y0 x1 y1 x2 y2)) left top same;
  window = record {
    columns = λ u v e. g.window.columns u v (same u v ∙ e);
    rows = λ u v e. g.window.rows u v (same u v ∙ e);
  };
}
  where
    same : (u v : ℕ) → covered (Quad x0 y0 x1 y1 x2 y2 x2 y2) u v ≡ covered (Triangle x0 y0 x1 y1 x2 y2) u v
    same u v = twice x0 y0 x1 y1 x2 y2 u v

-- each of four numbers, counted from the first of eight
pub four_eighths : (a b d e : ℤ) (from n : ℕ) → Among (least_of (four a b d e)) (greatest_of (four a b d e)) from n
    → Eighth (a -ℤ pos from) × Eighth (b -ℤ pos from) × Eighth (d -ℤ pos from) × Eighth (e -ℤ pos from)
unfolding least_of greatest_of
four_eighths a b d e from n m =
    let l0 = lesser-left a (lesser b (lesser d e)) in
    let l1 = lesser-right a (lesser b (lesser d e)) in
    let l2 = lesser-left b (lesser d e) in
    let l3 = lesser-right b (lesser d e) in
    let l4 = lesser-left d e in
    let l5 = lesser-right d e in
    let g0 = greater-left a (greater b (greater d e)) in
    let g1 = greater-right a (greater b (greater d e)) in
    let g2 = greater-left b (greater d e) in
    let g3 = greater-right b (greater d e) in
    let g4 = greater-left d e in
    let g5 = greater-right d e in (
      one a (omega (arith, zord, m.low)) (omega (arith, zord, m.high)),
      one b (omega (arith, zord, m.low)) (omega (arith, zord, m.high)),
      one d (omega (arith, zord, m.low)) (omega (arith, zord, m.high)),
      one e (omega (arith, zord, m.low)) (omega (arith, zord, m.high)),
    )
  where
    one : (z : ℤ) → pos from ≤ℤ z → z ≤ℤ pos (from + 7) → Eighth (z -ℤ pos from)
    one z f g = record { low = omega (arith, zord, of- z (pos from)); high = omega (arith, zord, of- z (pos from)) }
