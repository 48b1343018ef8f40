-- Laws: the rows that fill_quad leaves out have no covered column; the rows that it works out are their runs.
use Rattle.std.specs.Prelude.{◌≡◌, refl, Bool, true, false, ◌||◌, List, [], ◌∷◌, ◌⊎◌, ℕ, zero, suc, ◌+◌, ◌*◌, ◌≤◌, ◌<◌, length, get_or, replicate, ℤ, pos, ◌+ℤ◌, ◌≤ℤ◌, ◌<ℤ◌}
use Rattle.std.proofs.Common.{inl, inr, arith}
use Rattle.std.proofs.Math.Decide.{dec_le}
use Rattle.std.specs.Int.Signed.{lt_z}
use Rattle.laws.specs.Parts.{zord, of+}
use Rattle.laws.specs.Order.{≤ℤ-or-<ℤ, ≤ℤ-antisym}
use Rattle.laws.specs.Fit.{lt_false}
use Rattle.laws.specs.Runs.{row_run}
use Rattle.laws.specs.Blank.{blank}
use Rattle.laws.specs.RunLaws.{row_ends, row_past, row_none, runs-blank}
use Rattle.whole.specs.Whole.{ClampI64Says}
use Rattle.whole.specs.WholeLaws.{clamp_is}
use Rattle.polygon.specs.Polygon.{at, area2, area_test, polygon_tests, polygon, corners, polygon_pixel, least_of, greatest_of, FillRunsSays}
use Rattle.polygon.specs.Steps.{left_at, right_at, Room, Rows}
use Rattle.polygon.specs.OneRow.{Done}
use Rattle.polygon.specs.RowSteps.{runs_of-rows}
use Rattle.polygon.specs.Box.{polygon_in_box}

-- what is not 0 is an area
pub some_area : (area : ℤ) → (area ≡ pos 0 → ⊥) → area_test area ≡ true
some_area area h = by (lt_z (pos 0) area) (lt_z area (pos 0)) refl refl
  where
    by : (a b : Bool) → lt_z (pos 0) area ≡ a → lt_z area (pos 0) ≡ b → a || b ≡ true
    by true b e f = refl
    by false true e f = refl
    by false false e f = absurd (h (≤ℤ-antisym (lt_false (pos 0) area e) (lt_false area (pos 0) f)))

-- room in which nothing is written
zero_at : (n k : ℕ) → ◌≡◌ {A = ℕ} (get_or (replicate n 0) k 0) 0
zero_at zero k = refl
zero_at (suc n) zero = refl
zero_at (suc n) (suc k) = zero_at n k

pub blank_room : Room blank
unfolding blank
blank_room = record { size = refl; small = λ k. omega (arith, zero_at 512 k) }

-- no area, no pixel
pub no_area_none : (xs ys : List ℤ) (w h : ℕ) → area2 (corners xs ys) ≡ pos 0 → FillRunsSays xs ys w h blank
unfolding polygon polygon_tests
no_area_none xs ys w h e = runs-blank (polygon_pixel (corners xs ys)) w h (λ z l. row_none (polygon_pixel (corners xs ys)) w h z (λ x k. none x z))
  where
    none : (x y : ℕ) → polygon_pixel (corners xs ys) x y ≡ false
    none x y = rw e refl

module _ (xs ys : List ℤ) (same : length ys ≡ length xs) (w h : ℕ) where
  abbrev covers : ℕ → ℕ → Bool
  covers = polygon_pixel (corners xs ys)

  -- a test that would give a contradiction does not hold
  not-true : (b : Bool) → (b ≡ true → ⊥) → b ≡ false
  not-true true f = absurd (f refl)
  not-true false f = refl

  row-above : (y : ℕ) → pos y <ℤ least_of ys → row_run covers w h y ≡ 0 ∷ 0 ∷ []
  row-above y l = row_none covers w h y (λ x k. not-true (covers x y) (λ t. let b = (polygon_in_box xs ys (at (pos x) (pos y)) same t).top in omega (arith, zord)))

  row_below : (y : ℕ) → greatest_of ys <ℤ pos y → row_run covers w h y ≡ 0 ∷ 0 ∷ []
  row_below y l = row_none covers w h y (λ x k. not-true (covers x y) (λ t. let b = (polygon_in_box xs ys (at (pos x) (pos y)) same t).bottom in omega (arith, zord)))

  -- the rows before the first corner's, and those past the last one's
  rows_above : (first z : ℕ) → h ≤ 256 → ClampI64Says (least_of ys) h first → z < first → row_run covers w h z ≡ 0 ∷ 0 ∷ []
  rows_above first z l e k = row-above z (before (≤ℤ-or-<ℤ (least_of ys) (pos z)))
    where
      before : (least_of ys ≤ℤ pos z) ⊎ (pos z <ℤ least_of ys) → pos z <ℤ least_of ys
      before (inr g) = g
      before (inl g) =
          let n = clamp_is (least_of ys) h first e in
          absurd (omega (arith, (n.1 z (omega (arith, n.0))).1 g))

  rows_below : (past z : ℕ) → ClampI64Says (greatest_of ys +ℤ pos 1) h past → past ≤ z → row_run covers w h z ≡ 0 ∷ 0 ∷ []
  rows_below past z e k = by (dec_le h z)
    where
      by : Dec (h ≤ z) → row_run covers w h z ≡ 0 ∷ 0 ∷ []
      by (yes g) = row_past covers w h z g
      by (no g) =
          let n = clamp_is (greatest_of ys +ℤ pos 1) h past e in
          let b : (greatest_of ys +ℤ pos 1) ≤ℤ pos z = (n.1 z (omega arith)).0 (omega arith) in
          row_below z (omega (arith, zord, of+ (greatest_of ys) (pos 1)))

  -- a row of zeros
  zeros : (z : ℕ) → (left_at blank z ≡ 0) × (right_at blank z ≡ 0)
  unfolding blank
  zeros z = (zero_at 512 (z * 2), zero_at 512 (z * 2 + 1))

  -- the rows of the box are their runs, and the others are blank
  module _ (first past : ℕ) (closed : List ℕ) where
    pub fill_done : h ≤ 256 → ClampI64Says (least_of ys) h first → ClampI64Says (greatest_of ys +ℤ pos 1) h past → Rows (Done xs ys w) first past blank closed → FillRunsSays xs ys w h closed
    fill_done l d e g = runs_of-rows covers w h closed g.room.size (λ y k. by y k (dec_le first y) (dec_le past y))
      where
        by : (y : ℕ) → y < 256 → Dec (first ≤ y) → Dec (past ≤ y) → row_run covers w h y ≡ left_at closed y ∷ right_at closed y ∷ []
        by y k (no a) b =
            let r = g.above y (omega arith) in
            rw (r.0, r.1, (zeros y).0, (zeros y).1) (rows_above first y l d (omega arith))
        by y k (yes a) (yes b) =
            let r = g.below y a b in
            rw (r.0, r.1, (zeros y).0, (zeros y).1) (rows_below past y e b)
        by y k (yes a) (no b) =
            let r = g.each y a (omega arith) in
            row_ends covers w h y _ _ (omega (arith, (clamp_is (greatest_of ys +ℤ pos 1) h past e).0)) r.first r.past
