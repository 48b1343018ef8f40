-- Laws: a quotient by a product and a shift; the columns that an edge cuts off; an edge's numbers, by the sign of its slope.
use Rattle.std.specs.Prelude.{◌≡◌, refl, Bool, true, false, cond, ◌↔◌, ℕ, zero, suc, ◌+◌, ◌-◌, ◌*◌, ◌/◌, ◌^◌, ◌≤◌, ◌<◌, min, max, ltb, ℤ, pos, negsuc, ◌+ℤ◌, ◌-ℤ◌, ◌*ℤ◌, nat_abs, ◌≤ℤ◌, ◌<ℤ◌}
use Rattle.std.proofs.Common.{sym, ◌∙◌, ap, subst, arith, div-le_self, div-mul-le_self, mul-le-mul, mul-le-mul_left, mul-le-mul_right, lt-ltb, le-ltb}
use Rattle.std.proofs.Math.Decide.{dec_le, dec_lt}
use Rattle.std.proofs.Math.Nat.{lt-div-mul-add, div-eq_of_lt-le}
use Rattle.std.specs.Int.Signed.{lt_z}
use Rattle.laws.specs.Parts.{P, N, zord, of-, one_zero}
use Rattle.laws.specs.Rep.{v, k, km, ◌⊕◌, ◌⊖◌, ◌⊗◌, rep_eq, rep_le, rep_lt, le_rep, lt_rep}
use Rattle.laws.specs.Order.{*ℤ-cancel≤}
use Rattle.laws.specs.Bound.{Bounded}
use Rattle.laws.specs.Bounds.{w-, w*, wle, weq, wpos}
use Rattle.laws.specs.Fit.{no_both, lt_true, lt_false, of_abs}
use Rattle.whole.specs.Whole.{ClampI64Says}
use Rattle.whole.specs.WholeLaws.{clamp_is}
use Rattle.polygon.specs.declared.edges.Edge.{Edge}
use Rattle.polygon.specs.Polygon.{Point, at, side}
use Rattle.polygon.specs.Sides.{line, line-from}
use Rattle.polygon.specs.Steps.{Kept, HalfPlane, Level, InnerOf, Cuts, turn_of, digits_of}

-- ---- n / d without a division: a power / d, rounded down and one more, is near enough where n / d is at most 257
module _ (n d power : ℕ) (some : 0 < d) (exact : 258 * (d * d) ≤ power) (most : n ≤ d * 257) where
  abbrev times : ℕ
  times = power / d + 1

  abbrev quotient : ℕ
  quotient = n / d

  -- times * d is above the power, and by d at most
  over : power < times * d
  over = omega (arith, lt-div-mul-add {a = power} some)

  under : times * d ≤ power + d
  under = omega (arith, div-mul-le_self power d)

  -- so it is large
  large : 258 * d < times
  large = by (dec_le times (258 * d))
    where
      by : Dec (times ≤ 258 * d) → 258 * d < times
      by (yes h) = absurd (omega (arith, over, exact, mul-le-mul_right d h))
      by (no h) = omega arith

  low : quotient * power ≤ n * times
  low = omega (arith, mul-le-mul_left quotient over, mul-le-mul_right times (div-mul-le_self n d))

  next : n + 1 ≤ quotient * d + d
  next = omega (arith, lt-div-mul-add {a = n} some)

  high : n * times < (quotient + 1) * power
  high = omega (arith, mul-le-mul_right times next, mul-le-mul_left (quotient + 1) under, div-mul-le_self n d, large)

  pub reciprocal : (n * times) / power ≡ quotient
  reciprocal = div-eq_of_lt-le power low high

-- the power by the height: exact, and `times` has 32 digits
pub digits_few : (d : ℕ) → digits_of d ≤ 37
digits_few d = by (ltb d 64)
  where
    by : (b : Bool) → cond b 31 37 ≤ 37
    by true = omega arith
    by false = omega arith

module _ (d : ℕ) (some : 0 < d) (few : d ≤ 16382) where
  pub digits_exact : 258 * (d * d) ≤ 2 ^ digits_of d
  digits_exact = by (dec_lt d 64)
    where
      by : Dec (d < 64) → 258 * (d * d) ≤ 2 ^ digits_of d
      by (yes h) = let l : d ≤ 63 = omega arith in rw (lt-ltb d 64 h) (omega (arith, mul-le-mul l l))
      by (no h) = rw (le-ltb d 64 (omega arith)) (omega (arith, mul-le-mul few few))

  pub times_slim : 2 ^ digits_of d / d + 1 < 4294967296
  times_slim = by (dec_lt d 64)
    where
      by : Dec (d < 64) → 2 ^ digits_of d / d + 1 < 4294967296
      by (yes h) = rw (lt-ltb d 64 h) (omega (arith, div-le_self (2 ^ 31) d))
      by (no h) =
          let l : 64 ≤ d = omega arith in
          rw (le-ltb d 64 l) (omega (arith, div-mul-le_self (2 ^ 37) d, mul-le-mul_left (2 ^ 37 / d) l))

-- ---- the column of an edge in a row
-- the quotient of the number is at or before column x where the number is below (x + 1) * d
at-or-before : (n d x : ℕ) → 0 < d → (n / d ≤ x) ↔ (n < (x + 1) * d)
at-or-before n d x h = (
  (λ l. omega (arith, lt-div-mul-add {a = n} h, mul-le-mul_right d l)),
  (λ l. by (dec_le (n / d) x) l),
)
  where
    by : Dec (n / d ≤ x) → n < (x + 1) * d → n / d ≤ x
    by (yes p) l = p
    by (no p) l = let g : x + 1 ≤ n / d = omega arith in absurd (omega (arith, div-mul-le_self n d, mul-le-mul_right d g))

module _ (t : ℤ) (d n : ℕ) (some : 0 < d) (held : ClampI64Says t (d * 257) n) where
  -- what is brought into the range is on the same side of a column
  same_side : (x : ℕ) → x < 257 → (n < (x + 1) * d) ↔ (t <ℤ pos ((x + 1) * d))
  same_side x l =
      let g : x + 1 ≤ 257 = omega arith in
      let p : 1 * d ≤ (x + 1) * d = mul-le-mul_right d (omega arith) in
      let e = (clamp_is t (d * 257) n held).1 ((x + 1) * d - 1) (omega (arith, mul-le-mul_right d g)) in
      ((λ h. let r = e.0 (omega arith) in omega (arith, zord)), (λ h. let r = e.1 (omega (arith, zord)) in omega arith))

  column-at : (x : ℕ) → x < 257 → (n / d ≤ x) ↔ (t <ℤ pos ((x + 1) * d))
  column-at x l =
      let a = at-or-before n d x some in
      let b = same_side x l in
      ((λ h. b.0 (a.0 h)), (λ h. a.1 (b.1 h)))

-- a quotient of a number in its range
pub quotient_few : (n d : ℕ) → 0 < d → n ≤ d * 257 → n / d ≤ 257
quotient_few n d h l = (at-or-before n d 257 h).1 (omega arith)

-- what a row keeps, from the column of the edge
module _ (R : ℕ → Type 0) (t : ℤ) (d n lo hi : ℕ) (some : 0 < d) (held : ClampI64Says t (d * 257) n) (columns : hi ≤ 256) where
  pub keeps_from : ((x : ℕ) → x < 257 → (t <ℤ pos ((x + 1) * d)) ↔ R x) → Kept R lo hi (max lo (n / d)) hi
  keeps_from f = record {
    within = omega arith;
    to = λ x p q. (omega arith, (f x (omega arith)).0 ((column-at t d n some held x (omega arith)).0 (omega arith)));
    from = λ x p q r. (omega (arith, (column-at t d n some held x (omega arith)).1 ((f x (omega arith)).1 r)), q);
  }

  pub keeps_to : ((x : ℕ) → x < 257 → (pos ((x + 1) * d) ≤ℤ t) ↔ R x) → Kept R lo hi lo (min (n / d) hi)
  keeps_to f = record {
    within = omega arith;
    to = λ x p q. (p, (f x (omega arith)).0 (past x (omega arith) (omega arith)));
    from = λ x p q r. (p, before x q ((f x (omega arith)).1 r));
  }
    where
      past : (x : ℕ) → x < 257 → x < n / d → pos ((x + 1) * d) ≤ℤ t
      past x l h = by (dec_le (P t + 0) (N t + ((x + 1) * d - 1)))
        where
          by : Dec (P t + 0 ≤ N t + ((x + 1) * d - 1)) → pos ((x + 1) * d) ≤ℤ t
          by (yes g) =
              let p : 1 * d ≤ (x + 1) * d = mul-le-mul_right d (omega arith) in
              let r = (column-at t d n some held x l).1 (omega (arith, zord)) in
              absurd (omega arith)
          by (no g) = omega (arith, zord)

      before : (x : ℕ) → x < hi → pos ((x + 1) * d) ≤ℤ t → x < min (n / d) hi
      before x l h = by (dec_le (n / d) x)
        where
          by : Dec (n / d ≤ x) → x < min (n / d) hi
          by (yes g) = let r = (column-at t d n some held x (omega arith)).0 g in absurd (omega (arith, zord))
          by (no g) = omega arith

pub abs-some : (z : ℤ) → (z ≡ pos 0 → ⊥) → 0 < nat_abs z
abs-some (pos zero) h = absurd (h refl)
abs-some (pos (suc n)) h = omega arith
abs-some (negsuc n) h = omega arith

-- ---- an edge's number, by the sign of its slope
module _ (a c s : ℤ) (y x : ℕ) where
  -- a > 0: from a column on
  pub rising : (d : ℕ) → pos d ≡ a → (((a -ℤ pos 1 -ℤ c) +ℤ (pos 0 -ℤ s) *ℤ pos y) <ℤ pos ((x + 1) * d)) ↔ HalfPlane a c s y x
  rising d e = rw (← e) (
    (λ h. rep_le (k 0) (k d ⊗ k x ⊕ (v c ⊕ v s ⊗ k y)) (omega (arith, lt_rep ((k d ⊖ k 1 ⊖ v c) ⊕ (k 0 ⊖ v s) ⊗ k y) (k ((x + 1) * d)) h))),
    (λ h. rep_lt ((k d ⊖ k 1 ⊖ v c) ⊕ (k 0 ⊖ v s) ⊗ k y) (k ((x + 1) * d)) (omega (arith, le_rep (k 0) (k d ⊗ k x ⊕ (v c ⊕ v s ⊗ k y)) h))),
  )

  -- a < 0: up to one
  pub falling : (d : ℕ) → pos d ≡ pos 0 -ℤ a → (pos ((x + 1) * d) ≤ℤ ((c -ℤ a) +ℤ s *ℤ pos y)) ↔ HalfPlane a c s y x
  falling d e =
      let f : P a + d ≡ N a = omega (arith, zord, of- (pos 0) a, e) in (
        (λ h. rep_le (k 0) (v a ⊗ k x ⊕ (v c ⊕ v s ⊗ k y)) (omega (arith, ap (λ (t : ℕ). t * x) f, f, le_rep (k ((x + 1) * d)) ((v c ⊖ v a) ⊕ v s ⊗ k y) h))),
        (λ h. rep_le (k ((x + 1) * d)) ((v c ⊖ v a) ⊕ v s ⊗ k y) (omega (arith, ap (λ (t : ℕ). t * x) f, f, le_rep (k 0) (v a ⊗ k x ⊕ (v c ⊕ v s ⊗ k y)) h))),
      )

-- along the rows: all columns or none
turned : (s z : ℤ) → (pos 0 ≤ℤ (turn_of s *ℤ z)) ↔ (pos 0 ≤ℤ (s *ℤ z))
turned (pos zero) z = ((λ h. h), (λ h. h))
turned (pos (suc n)) z = (
  (λ h. rep_le (k 0) (k (suc n) ⊗ v z) (omega (arith, mul-le-mul_left (suc n) (le_rep (k 0) (k 1 ⊗ v z) h)))),
  (λ h. *ℤ-cancel≤ (pos (suc n)) (omega (arith, zord)) (rep_le (k 0 ⊗ k (suc n)) ((k 1 ⊗ v z) ⊗ k (suc n)) (omega (arith, le_rep (k 0) (k (suc n) ⊗ v z) h)))),
)
turned (negsuc n) z = (
  (λ h. rep_le (k 0) (km n ⊗ v z) (omega (arith, mul-le-mul_left (suc n) (le_rep (k 0) (km 0 ⊗ v z) h)))),
  (λ h. *ℤ-cancel≤ (pos (suc n)) (omega (arith, zord)) (rep_le (k 0 ⊗ k (suc n)) ((km 0 ⊗ v z) ⊗ k (suc n)) (omega (arith, le_rep (k 0) (km n ⊗ v z) h)))),
)

pub turn_below : (s : ℤ) → s <ℤ pos 0 → negsuc 0 ≡ turn_of s
turn_below (pos n) h = absurd (omega (arith, zord))
turn_below (negsuc n) h = refl

pub turn-above : (s : ℤ) → pos 0 <ℤ s → pos 1 ≡ turn_of s
turn-above (pos zero) h = absurd (omega (arith, zord))
turn-above (pos (suc n)) h = refl
turn-above (negsuc n) h = absurd (omega (arith, zord))

pub turn-none : (s : ℤ) → pos 0 ≤ℤ s → s ≤ℤ pos 0 → pos 0 ≡ turn_of s
turn-none (pos zero) h l = refl
turn-none (pos (suc n)) h l = absurd (omega (arith, zord))
turn-none (negsuc n) h l = absurd (omega (arith, zord))

pub turn_bounded : (s : ℤ) → Bounded 1 (turn_of s)
turn_bounded (pos zero) = record { within = omega arith }
turn_bounded (pos (suc n)) = record { within = omega arith }
turn_bounded (negsuc n) = record { within = omega arith }

module _ (s yi : ℤ) (y x : ℕ) (column : x < 257) where
  abbrev t : ℤ
  t = turn_of s

  side_of : (pos ((x + 1) * 1) ≤ℤ ((pos 1 -ℤ t *ℤ yi) *ℤ pos 257 +ℤ (t *ℤ pos 257) *ℤ pos y)) ↔ (pos 0 ≤ℤ (t *ℤ (pos y -ℤ yi)))
  side_of = (
    (λ h. rep_le (k 0) (v t ⊗ (k y ⊖ v yi)) (omega (arith, le_rep (k ((x + 1) * 1)) ((k 1 ⊖ v t ⊗ v yi) ⊗ k 257 ⊕ (v t ⊗ k 257) ⊗ k y) h))),
    (λ h. rep_le (k ((x + 1) * 1)) ((k 1 ⊖ v t ⊗ v yi) ⊗ k 257 ⊕ (v t ⊗ k 257) ⊗ k y) (omega (arith, le_rep (k 0) (v t ⊗ (k y ⊖ v yi)) h))),
  )

  pub level : (pos ((x + 1) * 1) ≤ℤ ((pos 1 -ℤ t *ℤ yi) *ℤ pos 257 +ℤ (t *ℤ pos 257) *ℤ pos y)) ↔ Level s yi y x
  level = let f = turned s (pos y -ℤ yi) in ((λ h. f.0 (side_of.0 h)), (λ h. side_of.1 (f.1 h)))

-- ---- an edge of two corners
module _ (s : ℤ) (i j : Point) (e : Edge) where
  abbrev slope : ℤ
  slope = s *ℤ (i.py -ℤ j.py)

  abbrev fall : ℤ
  fall = s *ℤ (j.px -ℤ i.px)

  abbrev base : ℤ
  base = s *ℤ ((j.py -ℤ i.py) *ℤ i.px -ℤ (j.px -ℤ i.px) *ℤ i.py)

  -- what cuts by one property cuts by the same in other words
  cuts_as : {R Q : ℕ → ℕ → Type 0} → ((y x : ℕ) → R y x ↔ Q y x) → Cuts R e → Cuts Q e
  cuts_as g f = record {
    height = f.height;
    some = f.some;
    few = f.few;
    digits = f.digits;
    exact = f.exact;
    times = f.times;
    slim = f.slim;
    most = f.most;
    start = f.start;
    step = f.step;
    first = λ b y x l. let h = f.first b y x l in ((λ p. (g y x).0 (h.0 p)), (λ p. h.1 ((g y x).1 p)));
    last = λ b y x l. let h = f.last b y x l in ((λ p. (g y x).0 (h.0 p)), (λ p. h.1 ((g y x).1 p)));
  }

  pub cuts_sloped : Cuts (HalfPlane slope base fall) e → Cuts (InnerOf s i j) e
  cuts_sloped =
      cuts_as
      (λ y x. ((λ h. subst (λ (z : ℤ). pos 0 ≤ℤ z) (sym (line s i j (at (pos x) (pos y)))) h), (λ h. subst (λ (z : ℤ). pos 0 ≤ℤ z) (line s i j (at (pos x) (pos y))) h)))

  pub cuts_along : slope ≡ pos 0 → Cuts (Level fall i.py) e → Cuts (InnerOf s i j) e
  cuts_along z = cuts_as (λ y x. ((λ h. subst (λ (t : ℤ). pos 0 ≤ℤ t) (sym (same y x)) h), (λ h. subst (λ (t : ℤ). pos 0 ≤ℤ t) (same y x) h)))
    where
      same : (y x : ℕ) → s *ℤ side i j (at (pos x) (pos y)) ≡ fall *ℤ (pos y -ℤ i.py)
      same y x =
          line-from s i j (at (pos x) (pos y))
          ∙ ap (λ (t : ℤ). t *ℤ (pos x -ℤ i.px) +ℤ fall *ℤ (pos y -ℤ i.py)) z
          ∙ rep_eq (k 0 ⊗ (k x ⊖ v i.px) ⊕ v (fall *ℤ (pos y -ℤ i.py))) (v (fall *ℤ (pos y -ℤ i.py))) (omega arith)

-- ---- the three edges that there are
pub cuts_level : (s yi : ℤ) (e : Edge) → Bounded 8191 yi → e.start ≡ (pos 1 -ℤ turn_of s *ℤ yi) *ℤ pos 257 → e.step ≡ turn_of s *ℤ pos 257
    → e.times ≡ 2147483649 → e.most ≡ 257 → e.digits ≡ 31 → e.begins ≡ false → Cuts (Level s yi) e
cuts_level s yi e h p q t m d b = record {
  height = 1;
  some = omega arith;
  few = omega arith;
  digits = omega (arith, d);
  exact = rw d (omega arith);
  times = rw d t;
  slim = omega (arith, t);
  most = m;
  start = weq p (wle tt (w* (w- (wpos 1 1 (omega arith)) (w* (turn_bounded s) h)) (wpos 257 257 (omega arith))));
  step = weq q (wle tt (w* (turn_bounded s) (wpos 257 257 (omega arith))));
  first = λ g y x l. no_both g b;
  last = λ g y x l. rw (p, q) (level s yi y x l);
}

module _ (a c s : ℤ) (e : Edge) (nonzero : a ≡ pos 0 → ⊥) (slope : Bounded 16382 a) (offset : Bounded 300000000 c) (fall : Bounded 16382 s) where
  abbrev tall : ℕ
  tall = nat_abs a

  -- what the sign decides: b is whether a is above 0
  pub cuts_half : (b : Bool) → lt_z (pos 0) a ≡ b → e.start ≡ cond b (a -ℤ pos 1 -ℤ c) (c -ℤ a) → e.step ≡ cond b (pos 0 -ℤ s) s → e.begins ≡ b
      → e.digits ≡ digits_of tall → e.times ≡ 2 ^ digits_of tall / tall + 1 → e.most ≡ tall * 257 → Cuts (HalfPlane a c s) e
  cuts_half b z p q g d t m = by b z p q g
    where
      above : 0 < tall
      above = abs-some a nonzero

      few : tall ≤ 16382
      few = slope.within

      by : (b : Bool) → lt_z (pos 0) a ≡ b → e.start ≡ cond b (a -ℤ pos 1 -ℤ c) (c -ℤ a) → e.step ≡ cond b (pos 0 -ℤ s) s → e.begins ≡ b → Cuts (HalfPlane a c s) e
      by true z p q g =
          let h : pos 0 <ℤ a = lt_true (pos 0) a z in record {
            height = tall;
            some = above;
            few = few;
            digits = omega (arith, d, digits_few tall);
            exact = rw d (digits_exact tall above few);
            times = rw d t;
            slim = omega (arith, t, times_slim tall above few);
            most = m;
            start = weq p (wle tt (w- (w- slope (wpos 1 1 (omega arith))) offset));
            step = weq q (wle tt (w- (wpos 0 0 (omega arith)) fall));
            first = λ _ y x l. rw (p, q) (rising a c s y x tall (omega (arith, zord, of_abs a, one_zero a)));
            last = λ n y x l. no_both g n;
          }
      by false z p q g =
          let h : a ≤ℤ pos 0 = lt_false (pos 0) a z in record {
            height = tall;
            some = above;
            few = few;
            digits = omega (arith, d, digits_few tall);
            exact = rw d (digits_exact tall above few);
            times = rw d t;
            slim = omega (arith, t, times_slim tall above few);
            most = m;
            start = weq p (wle tt (w- offset slope));
            step = weq q (wle tt fall);
            first = λ n y x l. no_both n g;
            last = λ _ y x l. rw (p, q) (falling a c s y x tall (omega (arith, zord, of_abs a, one_zero a, of- (pos 0) a)));
          }
