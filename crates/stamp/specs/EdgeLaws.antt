-- Laws: an edge down a column is a line whose bytes keep their places; the four edges' tests are the polygon's.
use Rattle.std.specs.Prelude.{◌≡◌, ℕ, zero, suc, ◌+◌, ◌-◌, ◌*◌, ◌/◌, ◌%◌, ◌^◌, ◌<◌, ◌≤◌, Bool, true, false, ◌&&◌, List, [], ◌∷◌, ℤ, pos, ◌+ℤ◌, ◌-ℤ◌, ◌*ℤ◌, ◌≤ℤ◌, FitsSigned, bit_and, int_le, slice_index_or, unsigned_abs, refl}
use Rattle.std.proofs.Math.Path.{sym}
use Rattle.std.proofs.Common.{◌∙◌, ap, ap₂, subst, arith, to_z, of_z, to_z-of_z}
use Rattle.std.specs.Int.{w32}
use Rattle.std.specs.Int.Signed.{yes_non_neg, pos-nat_abs}
use Rattle.laws.specs.Bound.{Bounded}
use Rattle.laws.specs.Bounds.{w-, w*, wle, weq, rd, arg, ld}
use Rattle.laws.specs.Parts.{zord, of+, of-, one_zero}
use Rattle.laws.specs.Fit.{of_abs}
use Rattle.laws.specs.Poly.{x, c, ◌⊞◌, ◌⊟◌, ◌⊠◌, ring}
use Rattle.laws.specs.Ends.{bit}
use Rattle.polygon.specs.Polygon.{Point, at, side, area2, polygon_tests, polygon, corners}
use Rattle.polygon.specs.Steps.{Signed}
use Rattle.polygon.specs.StepLaws.{sign_bounded}
use Rattle.polygon.specs.Sides.{edge_sign, no_side}
use Rattle.polygon.specs.OneRow.{four}
use Rattle.stamp.specs.Stamp.{Eighth, InEights}
use Rattle.stamp.specs.Lanes.{lanes_of, lane_at, InLanes, offset, slope, edge_lanes, inner_test, Cornered}
use Rattle.stamp.specs.LanesLaws.{lanes_agree, lanes_plus, lanes_same, wrapped, lanes_below, lanes_and, lanes_rise, lanes_fall, tops, lane-top, lanes_both, lanes_low}

-- ---- eights
pub eighth_bounded : {z : ℤ} → Eighth z → Bounded 7 z
eighth_bounded {z} h = record { within = omega (arith, zord, h.low, h.high, of_abs z, one_zero z) }

eighth_apart : {a b : ℤ} → Eighth a → Eighth b → Bounded 7 (a -ℤ b)
eighth_apart {a} {b} h l =
    record { within = omega (arith, zord, h.low, h.high, l.low, l.high, of- a b, of_abs (a -ℤ b), one_zero (a -ℤ b), one_zero a, one_zero b) }

eighth_row : (k : ℕ) → k ≤ 7 → Eighth (pos k)
eighth_row k h = record { low = omega (arith, zord); high = omega (arith, zord) }

-- as it is read from its local
pub eighth_read : {z : ℤ} → Eighth z → Eighth (to_z w32 (of_z w32 z))
eighth_read h = rw (rd w32 tt (eighth_bounded h)) h

pub cornered_read : {u v : ℤ} → Cornered (at u v) → Cornered (at (to_z w32 (of_z w32 u)) (to_z w32 (of_z w32 v)))
cornered_read h = record { x = eighth_read h.x; y = eighth_read h.y }

pub corner_read : (xs ys : List ℤ) → InEights xs ys → (i : ℕ) → Cornered (at (to_z w32 (of_z w32 (slice_index_or xs i (pos 0)))) (to_z w32 (of_z w32 (slice_index_or ys i (pos 0)))))
corner_read xs ys h i = cornered_read (record { x = h.x i; y = h.y i })

pub signed_bounded : {xs ys : List ℤ} {sign : ℤ} → Signed xs ys sign → Bounded 1 sign
signed_bounded {xs} {ys} g = weq g.is (sign_bounded (area2 (corners xs ys)))

-- what is asked of an edge from corner i to corner j, as it is read
abbrev pub Asked : List ℤ → List ℤ → ℤ → ℤ → ℕ → ℕ → Type 0
Asked xs ys sign u i j =
    Cornered (at (to_z w32 (of_z w32 (slice_index_or xs i (pos 0)))) (to_z w32 (of_z w32 (slice_index_or ys i (pos 0)))))
    × (Cornered (at (to_z w32 (of_z w32 (slice_index_or xs j (pos 0)))) (to_z w32 (of_z w32 (slice_index_or ys j (pos 0)))))
    × (Bounded 1 (to_z w32 (of_z w32 sign)) × Eighth (to_z w32 (of_z w32 u))))

pub edge_asked : (xs ys : List ℤ) {sign u : ℤ} → InEights xs ys → FitsSigned w32 sign → Bounded 1 sign → Eighth u → (i j : ℕ) → Asked xs ys sign u i j
edge_asked xs ys h f b e i j = (corner_read xs ys h i, (corner_read xs ys h j, (arg tt (ld f b), eighth_read e)))

-- four corners, one by one
pub in_eights : {x0 y0 x1 y1 x2 y2 x3 y3 : ℤ} → Cornered (at x0 y0) → Cornered (at x1 y1) → Cornered (at x2 y2) → Cornered (at x3 y3)
    → InEights (four x0 x1 x2 x3) (four y0 y1 y2 y3)
in_eights {x0} {y0} {x1} {y1} {x2} {y2} {x3} {y3} a b d e = record { x = each a.x b.x d.x e.x; y = each a.y b.y d.y e.y }
  where
    each : {p q r s : ℤ} → Eighth p → Eighth q → Eighth r → Eighth s → (i : ℕ) → Eighth (slice_index_or (four p q r s) i (pos 0))
    each f g h k zero = f
    each f g h k (suc zero) = g
    each f g h k (suc (suc zero)) = h
    each f g h k (suc (suc (suc zero))) = k
    each f g h k (suc (suc (suc (suc n)))) = eighth_row 0 (omega arith)

-- ---- the bytes of a line keep their places
pub above_0 : (z : ℤ) → Bounded 127 z → pos 0 ≤ℤ (pos 128 +ℤ z)
above_0 z b = omega (arith, zord, b.within, of_abs z, of+ (pos 128) z)

module _ {value slope : ℤ} (h : InLanes value slope) where
  pub lane_below : (k : ℕ) → k < 8 → lane_at value slope k < 256
  lane_below k l =
      let z = value +ℤ slope *ℤ pos k in
      omega (arith, (h.near k (omega arith)).within, of_abs z, of_abs (pos 128 +ℤ z), of+ (pos 128) z, one_zero (pos 128 +ℤ z))

  pub lanes_fit : lanes_of (lane_at value slope) 8 < 0x1_0000_0000_0000_0000
  lanes_fit = lanes_below (lane_at value slope) 8 lane_below

  pub first_near : Bounded 127 value
  first_near = weq (ring (value ∷ slope ∷ []) (x 0) (x 0 ⊞ x 1 ⊠ c (pos 0)) tt) (h.near 0 (omega arith))

  pub last_near : Bounded 127 (value +ℤ pos 7 *ℤ slope)
  last_near = weq (ring (value ∷ slope ∷ []) (x 0 ⊞ c (pos 7) ⊠ x 1) (x 0 ⊞ x 1 ⊠ c (pos 7)) tt) (h.near 7 (omega arith))

  pub first_above : pos 0 ≤ℤ (pos 128 +ℤ value)
  first_above = above_0 value first_near

  pub last-above : pos 0 ≤ℤ ((pos 128 +ℤ value) +ℤ pos 7 *ℤ slope)
  last-above =
      subst (λ (z : ℤ). pos 0 ≤ℤ z) (ring (value ∷ slope ∷ []) (c (pos 128) ⊞ (x 0 ⊞ c (pos 7) ⊠ x 1)) (c (pos 128) ⊞ x 0 ⊞ c (pos 7) ⊠ x 1) tt)
      (above_0 (value +ℤ pos 7 *ℤ slope) last_near)

-- all bytes of a line moved by one number
pub lanes_move : (value fall d : ℤ) → InLanes value fall → InLanes (value +ℤ d) fall → Bounded 127 d
    → lanes_of (lane_at (value +ℤ d) fall) 8 + 0x8080_8080_8080_8080 ≡ lanes_of (lane_at value fall) 8 + unsigned_abs (pos 128 +ℤ d) * 0x0101_0101_0101_0101
lanes_move value fall d h l b =
    ap (λ (n : ℕ). lanes_of (lane_at (value +ℤ d) fall) 8 + n) tops
    ∙ sym (lanes_plus (lane_at (value +ℤ d) fall) (λ k. 128) 8)
    ∙ lanes_agree (λ k. lane_at (value +ℤ d) fall k + 128) (λ k. lane_at value fall k + more) 8 each
    ∙ lanes_plus (lane_at value fall) (λ k. more) 8
    ∙ ap (λ (n : ℕ). lanes_of (lane_at value fall) 8 + n) (sym (lanes_same more))
  where
    more : ℕ
    more = unsigned_abs (pos 128 +ℤ d)

    byte : (z : ℤ) → Bounded 127 z → pos (unsigned_abs (pos 128 +ℤ z)) ≡ pos 128 +ℤ z
    byte z n = pos-nat_abs (pos 128 +ℤ z) (yes_non_neg (above_0 z n))

    each : (k : ℕ) → k < 8 → lane_at (value +ℤ d) fall k + 128 ≡ lane_at value fall k + more
    each k m =
        let y = fall *ℤ pos k in
        ap unsigned_abs (ap (λ (z : ℤ). z +ℤ pos 128) (byte ((value +ℤ d) +ℤ y) (l.near k (omega arith)))
        ∙ ring (value ∷ d ∷ y ∷ []) (c (pos 128) ⊞ ((x 0 ⊞ x 1) ⊞ x 2) ⊞ c (pos 128)) ((c (pos 128) ⊞ (x 0 ⊞ x 2)) ⊞ (c (pos 128) ⊞ x 1)) tt
        ∙ sym (ap₂ (λ (a b : ℤ). a +ℤ b) (byte (value +ℤ y) (h.near k (omega arith))) (byte d b)))

-- ---- the line of an edge, from row 0 on
down : (sign : ℤ) (i j : Point) (u y : ℤ) → offset sign i j u +ℤ slope sign i j *ℤ y ≡ sign *ℤ side i j (at u y)
down sign i j u y = ring (sign ∷ i.px ∷ i.py ∷ j.px ∷ j.py ∷ u ∷ y ∷ [])
    (x 0 ⊠ ((x 3 ⊟ x 1) ⊠ (c (pos 0) ⊟ x 2) ⊟ (x 4 ⊟ x 2) ⊠ (x 5 ⊟ x 1)) ⊞ (x 0 ⊠ (x 3 ⊟ x 1)) ⊠ x 6)
    (x 0 ⊠ ((x 3 ⊟ x 1) ⊠ (x 6 ⊟ x 2) ⊟ (x 4 ⊟ x 2) ⊠ (x 5 ⊟ x 1))) tt

module _ {sign : ℤ} {i j : Point} {u : ℤ} (s : Bounded 1 sign) (from : Cornered i) (to : Cornered j) (h : Eighth u) where
  side_near : (k : ℕ) → k ≤ 7 → Bounded 127 (sign *ℤ side i j (at u (pos k)))
  side_near k l =
      wle tt (w* s (w- (w* (eighth_apart to.x from.x) (eighth_apart (eighth_row k l) from.y)) (w* (eighth_apart to.y from.y) (eighth_apart h from.x))))

  pub edge_lanes_lem : InLanes (offset sign i j u) (slope sign i j)
  edge_lanes_lem = record {
    gentle = wle tt (w* s (eighth_apart to.x from.x));
    near = λ k l. weq (down sign i j u (pos k)) (side_near k l);
  }

  -- the top digits of its bytes
  pub edge_tops : bit_and (lanes_of (lane_at (offset sign i j u) (slope sign i j)) 8) 0x8080_8080_8080_8080 ≡ lanes_of (λ k. 128 * bit (inner_test sign i j (at u (pos k)))) 8
  edge_tops =
      ap (bit_and (lanes_of lane 8)) tops
      ∙ lanes_and lane (λ k. 128) 8 (lane_below edge_lanes_lem) (λ k l. omega arith)
      ∙ lanes_agree (λ k. bit_and (lane k) 128) (λ k. 128 * bit (inner_test sign i j (at u (pos k)))) 8 top
    where
      lane : ℕ → ℕ
      lane = lane_at (offset sign i j u) (slope sign i j)

      top : (k : ℕ) → k < 8 → bit_and (lane k) 128 ≡ 128 * bit (inner_test sign i j (at u (pos k)))
      top k l =
          lane-top (offset sign i j u +ℤ slope sign i j *ℤ pos k) (edge_lanes_lem.near k (omega arith))
          ∙ ap (λ (z : ℤ). 128 * bit (int_le (pos 0) z)) (down sign i j u (pos k))

-- from a column to the one on its left
module _ {sign : ℤ} {i j : Point} {u : ℤ} (s : Bounded 1 sign) (from : Cornered i) (to : Cornered j) (h : Eighth u) where
  -- how much an edge's bytes grow by
  pub rise_bounded : Bounded 127 (sign *ℤ (j.py -ℤ i.py))
  rise_bounded = wle tt (w* s (eighth_apart to.y from.y))

  left_eighth : pos 1 ≤ℤ u → Eighth (u -ℤ pos 1)
  left_eighth l = record { low = omega (arith, zord, l, of- u (pos 1)); high = omega (arith, zord, h.high, of- u (pos 1)) }

  pub edge_left : (less r : ℕ) → (less + 0x8080_8080_8080_8080) % 2 ^ 64 ≡ unsigned_abs (pos 128 +ℤ sign *ℤ (j.py -ℤ i.py)) * 0x0101_0101_0101_0101
      → r ≡ (edge_lanes sign i j u + less) % 2 ^ 64 → pos 1 ≤ℤ u → r ≡ edge_lanes sign i j (u -ℤ pos 1)
  edge_left less r e f l =
      let d = sign *ℤ (j.py -ℤ i.py) in
      let back : offset sign i j (u -ℤ pos 1) ≡ offset sign i j u +ℤ d = ring (sign ∷ i.px ∷ i.py ∷ j.px ∷ j.py ∷ u ∷ [])
      (x 0 ⊠ ((x 3 ⊟ x 1) ⊠ (c (pos 0) ⊟ x 2) ⊟ (x 4 ⊟ x 2) ⊠ ((x 5 ⊟ c (pos 1)) ⊟ x 1)))
      (x 0 ⊠ ((x 3 ⊟ x 1) ⊠ (c (pos 0) ⊟ x 2) ⊟ (x 4 ⊟ x 2) ⊠ (x 5 ⊟ x 1)) ⊞ x 0 ⊠ (x 4 ⊟ x 2)) tt in
      let k : InLanes (offset sign i j u +ℤ d) (slope sign i j) = subst (λ (z : ℤ). InLanes z (slope sign i j)) back (edge_lanes_lem s from to (left_eighth l)) in
      wrapped (edge_lanes sign i j u) (lanes_of (lane_at (offset sign i j u +ℤ d) (slope sign i j)) 8) _ less r
      (lanes_move (offset sign i j u) (slope sign i j) d (edge_lanes_lem s from to h) k rise_bounded) e f (lanes_fit k)
      ∙ ap (λ (z : ℤ). lanes_of (lane_at z (slope sign i j)) 8) (sym back)

-- as it is read from the locals
pub edge_read : {n : ℕ} {sign xi yi xj yj u : ℤ} → FitsSigned w32 xi → FitsSigned w32 yi → FitsSigned w32 xj → FitsSigned w32 yj → FitsSigned w32 sign → FitsSigned w32 u
    → n ≡ edge_lanes sign (at xi yi) (at xj yj) u
    → n ≡ edge_lanes (to_z w32 (of_z w32 sign)) (at (to_z w32 (of_z w32 xi)) (to_z w32 (of_z w32 yi))) (at (to_z w32 (of_z w32 xj)) (to_z w32 (of_z w32 yj))) (to_z w32 (of_z w32 u))
edge_read a b d e f g h = rw (to_z-of_z a, to_z-of_z b, to_z-of_z d, to_z-of_z e, to_z-of_z f, to_z-of_z g) h

-- ---- the bytes of a line, from its least one on
module _ (value slope : ℤ) (least step : ℕ) where
  pub lanes_up : pos least ≡ pos 128 +ℤ value → pos step ≡ slope → least * 0x0101_0101_0101_0101 + step * 0x0706_0504_0302_0100 ≡ lanes_of (lane_at value slope) 8
  lanes_up e f = lanes_rise least step ∙ lanes_agree (λ k. least + step * k) (lane_at value slope) 8 (λ k l. ap unsigned_abs (lane k))
    where
      lane : (k : ℕ) → pos (least + step * k) ≡ pos 128 +ℤ (value +ℤ slope *ℤ pos k)
      lane k =
          ap₂ (λ (a b : ℤ). a +ℤ b *ℤ pos k) e f
          ∙ ring (value ∷ slope ∷ pos k ∷ []) (c (pos 128) ⊞ x 0 ⊞ x 1 ⊠ x 2) (c (pos 128) ⊞ (x 0 ⊞ x 1 ⊠ x 2)) tt

  pub lanes_down : pos least ≡ (pos 128 +ℤ value) +ℤ pos 7 *ℤ slope → pos step ≡ pos 0 -ℤ slope
      → least * 0x0101_0101_0101_0101 + step * 0x0001_0203_0405_0607 ≡ lanes_of (lane_at value slope) 8
  lanes_down e f = lanes_fall least step ∙ lanes_agree (λ k. least + step * (7 - k)) (lane_at value slope) 8 (λ k l. ap unsigned_abs (lane k l))
    where
      lane : (k : ℕ) → k < 8 → pos (least + step * (7 - k)) ≡ pos 128 +ℤ (value +ℤ slope *ℤ pos k)
      lane k l =
          let back : pos 7 -ℤ pos (7 - k) ≡ pos k = omega (arith, zord, of- (pos 7) (pos (7 - k))) in
          ap₂ (λ (a b : ℤ). a +ℤ b *ℤ pos (7 - k)) e f
          ∙ ring (value ∷ slope ∷ pos (7 - k) ∷ [])
          (c (pos 128) ⊞ x 0 ⊞ c (pos 7) ⊠ x 1 ⊞ (c (pos 0) ⊟ x 1) ⊠ x 2)
          (c (pos 128) ⊞ (x 0 ⊞ x 1 ⊠ (c (pos 7) ⊟ x 2))) tt
          ∙ ap (λ (z : ℤ). pos 128 +ℤ (value +ℤ slope *ℤ z)) back

-- ---- the four edges
and_order : (a b d e : Bool) → a && (b && (d && (e && true))) ≡ ((a && b) && e) && d
and_order false b d e = refl
and_order true false d e = refl
and_order true true false false = refl
and_order true true false true = refl
and_order true true true false = refl
and_order true true true true = refl

and_true : (a b : Bool) → b ≡ true → a && b ≡ a
and_true true b h = h
and_true false b h = refl

module _ (x0 y0 x1 y1 x2 y2 x3 y3 sign : ℤ) (g : Signed (four x0 x1 x2 x3) (four y0 y1 y2 y3) sign) (u : ℤ) where
  -- the test of an edge, row by row
  abbrev test : Point → Point → ℕ → Bool
  test i j k = inner_test sign i j (at u (pos k))

  abbrev three : ℕ → Bool
  three k = (test (at x0 y0) (at x1 y1) k && test (at x1 y1) (at x2 y2) k) && test (at x3 y3) (at x0 y0) k

  abbrev covers : ℕ → Bool
  covers k = polygon (corners (four x0 x1 x2 x3) (four y0 y1 y2 y3)) (at u (pos k))

  -- the third may come last
  four-tests : (k : ℕ) → three k && test (at x2 y2) (at x3 y3) k ≡ covers k
  unfolding polygon polygon_tests
  four-tests k =
      let area = area2 (corners (four x0 x1 x2 x3) (four y0 y1 y2 y3)) in
      let p = at u (pos k) in
      let a = test (at x0 y0) (at x1 y1) k in
      let b = test (at x1 y1) (at x2 y2) k in
      let d = test (at x2 y2) (at x3 y3) k in
      let e = test (at x3 y3) (at x0 y0) k in
      sym (and_order a b d e)
      ∙ sym (rw (
        g.some,
        edge_sign area p (at x0 y0) (at x1 y1),
        edge_sign area p (at x1 y1) (at x2 y2),
        edge_sign area p (at x2 y2) (at x3 y3),
        edge_sign area p (at x3 y3) (at x0 y0),
        ← g.is,
      ) (refl {a = a && (b && (d && (e && true)))}))

  -- from a corner to itself there is no edge
  three-tests : at x2 y2 ≡ at x3 y3 → (k : ℕ) → three k ≡ covers k
  three-tests e k =
      let p = at u (pos k) in
      sym (and_true (three k) (test (at x2 y2) (at x3 y3) k)
      (subst (λ (j : Point). inner_test sign (at x2 y2) j p ≡ true) e (ap (λ (z : ℤ). int_le (pos 0) z) (no_side sign (at x2 y2) p))))
      ∙ four-tests k

  -- ---- the column
  abbrev tops_of : (ℕ → Bool) → ℕ
  tops_of t = lanes_of (λ k. 128 * bit (t k)) 8

  lowest : (t : ℕ → Bool) → ((k : ℕ) → t k ≡ covers k) → tops_of t / 128 ≡ lanes_of (λ k. bit (covers k)) 8
  lowest t h = lanes_low (λ k. bit (t k)) 8 ∙ lanes_agree (λ k. bit (t k)) (λ k. bit (covers k)) 8 (λ k l. ap bit (h k))

  module _ (a b e : ℕ) (p : a ≡ tops_of (test (at x0 y0) (at x1 y1))) (q : b ≡ tops_of (test (at x1 y1) (at x2 y2))) (r : e ≡ tops_of (test (at x3 y3) (at x0 y0))) where
    three-is : bit_and (bit_and a b) e ≡ tops_of three
    three-is =
        ap₂ bit_and (ap₂ bit_and p q ∙ lanes_both (test (at x0 y0) (at x1 y1)) (test (at x1 y1) (at x2 y2)) 8) r
        ∙ lanes_both (λ k. test (at x0 y0) (at x1 y1) k && test (at x1 y1) (at x2 y2) k) (test (at x3 y3) (at x0 y0)) 8

    pub column-three : at x2 y2 ≡ at x3 y3 → bit_and (bit_and a b) e / 128 ≡ lanes_of (λ k. bit (covers k)) 8
    column-three same = ap (λ (n : ℕ). n / 128) three-is ∙ lowest three (three-tests same)

    pub column-four : (d : ℕ) → d ≡ tops_of (test (at x2 y2) (at x3 y3)) → bit_and (bit_and (bit_and a b) e) d / 128 ≡ lanes_of (λ k. bit (covers k)) 8
    column-four d s =
        ap (λ (n : ℕ). n / 128) (ap₂ bit_and three-is s ∙ lanes_both three (test (at x2 y2) (at x3 y3)) 8)
        ∙ lowest (λ k. three k && test (at x2 y2) (at x3 y3) k) four-tests
