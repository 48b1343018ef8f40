-- Laws: the tests of a polygon by place: the edge at place i goes from corner i to the next; and a row by them.
use Rattle.std.specs.Prelude.{◌≡◌, refl, Bool, List, [], ◌∷◌, ◌++◌, ℕ, zero, suc, ◌+◌, ◌≤◌, ◌<◌, length, get_or, ℤ, pos}
use Rattle.std.proofs.Common.{sym, ◌∙◌, ap, ap₂, subst, inl, inr, arith}
use Rattle.std.proofs.Math.Bool.{true}
use Rattle.std.proofs.Math.Decide.{dec_le, ℕ_discrete}
use Rattle.std.proofs.Math.ListN.{get_or-append}
use Rattle.laws.specs.Bools.{and_right, and_both}
use Rattle.laws.specs.Runs.{all_hold}
use Rattle.laws.specs.EndsLaws.{RunOf, run_ends}
use Rattle.laws.specs.Holds.{hold_at, all_hold_lem}
use Rattle.polygon.specs.Polygon.{Point, at, area2, area_test, edge_test, edges_to, round, polygon_tests, polygon, corners, polygon_pixel}
use Rattle.polygon.specs.Steps.{sign_of, next_of, Kept, corner, InnerAt, First, Closed, Signed, RowRun}
use Rattle.polygon.specs.Sides.{edge_inner, inner_edge}
use Rattle.polygon.specs.StepLaws.{next_in, next-out}

-- ---- one test for each corner, that of the edge to the next
module _ (t : Point → Point → Bool) (d : Point) (b : Bool) where
  edges_length : (first : Point) (l : List Point) → length (edges_to t first l) ≡ length l
  edges_length first [] = refl
  edges_length first (i ∷ []) = refl
  edges_length first (i ∷ j ∷ r) = ap suc (edges_length first (j ∷ r))

  edges_at : (first : Point) (l : List Point) (i : ℕ) → i < length l → get_or (edges_to t first l) i b ≡ t (get_or l i d) (get_or (l ++ first ∷ []) (suc i) d)
  edges_at first [] i h = absurd (omega arith)
  edges_at first (a ∷ []) zero h = refl
  edges_at first (a ∷ []) (suc i) h = absurd (omega arith)
  edges_at first (a ∷ c ∷ r) zero h = refl
  edges_at first (a ∷ c ∷ r) (suc i) h = edges_at first (c ∷ r) i (omega arith)

  pub round-length : (l : List Point) → length (round t l) ≡ length l
  round-length [] = refl
  round-length (i ∷ r) = edges_length i (i ∷ r)

  at-end : (l : List Point) (a : Point) → get_or (l ++ a ∷ []) (length l) d ≡ a
  at-end [] a = refl
  at-end (i ∷ r) a = at-end r a

  closing : (a : Point) (r : List Point) (i : ℕ) → i < length (a ∷ r) → get_or ((a ∷ r) ++ a ∷ []) (suc i) d ≡ get_or (a ∷ r) (next_of (length (a ∷ r)) i) d
  closing a r i h = by (dec_le (length (a ∷ r)) (i + 1))
    where
      by : Dec (length (a ∷ r) ≤ i + 1) → get_or ((a ∷ r) ++ a ∷ []) (suc i) d ≡ get_or (a ∷ r) (next_of (length (a ∷ r)) i) d
      by (yes g) =
          let e : suc i ≡ length (a ∷ r) = omega arith in
          ap (λ (n : ℕ). get_or ((a ∷ r) ++ a ∷ []) n d) e ∙ at-end (a ∷ r) a ∙ ap (λ (n : ℕ). get_or (a ∷ r) n d) (next-out (length (a ∷ r)) i g)
      by (no g) =
          let e : suc i ≡ i + 1 = omega arith in
          get_or-append (a ∷ r) (a ∷ []) d (suc i) (omega arith) ∙ ap (λ (n : ℕ). get_or (a ∷ r) n d) (e ∙ next_in (length (a ∷ r)) i (omega arith))

  pub round-at : (l : List Point) (i : ℕ) → i < length l → get_or (round t l) i b ≡ t (get_or l i d) (get_or l (next_of (length l) i) d)
  round-at [] i h = absurd (omega arith)
  round-at (a ∷ r) i h = edges_at a (a ∷ r) i h ∙ ap (t (get_or (a ∷ r) i d)) (closing a r i h)

-- ---- corners by place
pub corners-length : (xs ys : List ℤ) → length ys ≡ length xs → length (corners xs ys) ≡ length xs
corners-length [] ys e = refl
corners-length (x ∷ xs) [] e = absurd (omega arith)
corners-length (x ∷ xs) (y ∷ ys) e = ap suc (corners-length xs ys (omega arith))

pub corners-at : (xs ys : List ℤ) (i : ℕ) → length ys ≡ length xs → get_or (corners xs ys) i (at (pos 0) (pos 0)) ≡ at (get_or xs i (pos 0)) (get_or ys i (pos 0))
corners-at [] [] i e = refl
corners-at [] (y ∷ ys) i e = absurd (omega arith)
corners-at (x ∷ xs) [] i e = absurd (omega arith)
corners-at (x ∷ xs) (y ∷ ys) zero e = refl
corners-at (x ∷ xs) (y ∷ ys) (suc i) e = corners-at xs ys i (omega arith)

-- ---- a row by the edges
module _ (xs ys : List ℤ) (same : length ys ≡ length xs) where
  edge_at : (t : Point → Point → Bool) (i : ℕ) → i < length xs → get_or (round t (corners xs ys)) i true ≡ t (corner xs ys i) (corner xs ys (next_of (length xs) i))
  edge_at t i h =
      let e = corners-length xs ys same in
      round-at t (at (pos 0) (pos 0)) true (corners xs ys) i (omega arith)
      ∙ ap₂ t (corners-at xs ys i same) (ap (λ (n : ℕ). get_or (corners xs ys) (next_of n i) (at (pos 0) (pos 0))) e ∙ corners-at xs ys (next_of (length xs) i) same)

  module _ (y : ℤ) (x : ℕ) where
    pub inside-all : polygon (corners xs ys) (at (pos x) y) ≡ true → (i : ℕ) → i < length xs → InnerAt xs ys (sign_of (area2 (corners xs ys))) y x i
    unfolding polygon polygon_tests
    inside-all h i l =
        let t = edge_test (area2 (corners xs ys)) (at (pos x) y) in
        let e = round-length t (at (pos 0) (pos 0)) true (corners xs ys) ∙ corners-length xs ys same in
        edge_inner (area2 (corners xs ys)) (at (pos x) y) (corner xs ys i) (corner xs ys (next_of (length xs) i))
        (sym (edge_at t i l) ∙ hold_at (round t (corners xs ys)) (and_right (area_test (area2 (corners xs ys))) _ h) i true (omega arith))

    pub all-inside : area_test (area2 (corners xs ys)) ≡ true → ((i : ℕ) → i < length xs → InnerAt xs ys (sign_of (area2 (corners xs ys))) y x i) → polygon (corners xs ys) (at (pos x) y) ≡ true
    unfolding polygon polygon_tests
    all-inside a f =
        let t = edge_test (area2 (corners xs ys)) (at (pos x) y) in
        let e = round-length t (at (pos 0) (pos 0)) true (corners xs ys) ∙ corners-length xs ys same in
        and_both (area_test (area2 (corners xs ys))) (all_hold (round t (corners xs ys))) a
        (all_hold_lem (round t (corners xs ys)) true
        (λ i l. edge_at t i (omega arith) ∙ inner_edge (area2 (corners xs ys)) (at (pos x) y) (corner xs ys i) (corner xs ys (next_of (length xs) i)) (f i (omega arith))))

  -- ---- edge after edge: of the columns lo up to hi, those that are inside of the first m
  pub first_none : (sign y : ℤ) (lo hi : ℕ) → Kept (First xs ys sign y 0) lo hi lo hi
  first_none sign y lo hi = record {
    within = omega arith;
    to = λ x p q. (p, λ i l. absurd (omega arith));
    from = λ x p q f. (p, q);
  }

  pub first_more : (sign y : ℤ) (m lo hi u v left right : ℕ) → Kept (First xs ys sign y m) lo hi u v → Kept (λ x. InnerAt xs ys sign y x m) u v left right
      → Kept (First xs ys sign y (m + 1)) lo hi left right
  first_more sign y m lo hi u v left right f g = record {
    within = omega (arith, f.within, g.within);
    to = λ x p q. ((f.to x (g.to x p q).0 (omega (arith, g.within))).0, λ i l. each x p q i l (ℕ_discrete i m));
    from = λ x p q h. both x h (f.from x p q (λ i l. h i (omega arith)));
  }
    where
      each : (x : ℕ) → left ≤ x → x < right → (i : ℕ) → i < m + 1 → Dec (i ≡ m) → InnerAt xs ys sign y x i
      each x p q i l (yes e) = subst (λ (n : ℕ). InnerAt xs ys sign y x n) (sym e) (g.to x p q).1
      each x p q i l (no e) = (f.to x (g.to x p q).0 (omega (arith, g.within))).1 i (omega arith)

      both : (x : ℕ) → ((i : ℕ) → i < m + 1 → InnerAt xs ys sign y x i) → (u ≤ x) × (x < v) → (left ≤ x) × (x < right)
      both x h r = g.from x r.0 r.1 (h m (omega arith))

  -- ---- the row
  module _ (sign : ℤ) (g : Signed xs ys sign) (y w : ℕ) where
    -- what was worked out for a row's pixels is its run
    run : (left right : ℕ) → RunOf (λ x. polygon_pixel (corners xs ys) x y) w left right → RowRun xs ys w y left right
    run left right r = let e = run_ends (λ x. polygon_pixel (corners xs ys) x y) w left right r in record { first = e.0; past = e.1 }

    -- a covered column is inside of every edge
    covered : (x : ℕ) → polygon_pixel (corners xs ys) x y ≡ true → First xs ys sign (pos y) (length xs) x
    covered x h i l = subst (λ (z : ℤ). InnerAt xs ys z (pos y) x i) (sym g.is) (inside-all (pos y) x h i l)

    -- some are left
    row_whole : (left right : ℕ) → left < right → Kept (First xs ys sign (pos y) (length xs)) 0 w left right → RowRun xs ys w y left right
    row_whole left right l f = run left right (record {
      high = f.within;
      empty = inl l;
      into = λ x h p q. all-inside (pos y) x g.some (λ i k. subst (λ (z : ℤ). InnerAt xs ys z (pos y) x i) g.is ((f.to x p q).1 i k));
      back = λ x h c. f.from x (omega arith) h (covered x c);
    })

    -- none is
    row_empty : (left right : ℕ) → right ≤ left → Kept (First xs ys sign (pos y) (length xs)) 0 w left right → RowRun xs ys w y 0 0
    row_empty left right l f = run 0 0 (record {
      high = omega arith;
      empty = inr (refl, refl);
      into = λ x h p q. absurd (omega arith);
      back = λ x h c. absurd (omega (arith, f.from x (omega arith) h (covered x c)));
    })

    -- all edges were met
    pub row_closed : (lo hi left right : ℕ) → Kept (First xs ys sign (pos y) (length xs)) 0 w lo hi → Closed lo hi left right → RowRun xs ys w y left right
    row_closed lo hi left right f c = by (dec_le hi lo)
      where
        by : Dec (hi ≤ lo) → RowRun xs ys w y left right
        by (yes l) = rw ((c.none l).0, (c.none l).1) (row_empty lo hi l f)
        by (no l) = let k : lo < hi = omega arith in rw ((c.some k).0, (c.some k).1) (row_whole lo hi k f)
