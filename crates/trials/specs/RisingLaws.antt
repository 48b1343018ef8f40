-- Laws: sums of squares keep their order when the same numbers are added to both, since rounding keeps it. So a total that is not lower at some place is not lower at the end.
-- This is so for any bits: a sum that is no number stays none, and is not lower than anything.
use Rattle.std.specs.Prelude.{◌≡◌, refl, Bool, true, false, not, cond, T, ltb, Float}
use Rattle.std.proofs.Common.{sym, subst, true≢false, add-mul, mul-pos, mul_right_comm, mul_assoc, mul-le-mul_right, arith, nltb→le}
use Prim.Native.Nat.{ℕ, zero, suc, ◌+◌, ◌*◌, ◌^◌, ◌≤◌}
use Rattle.std.proofs.Math.Nat.{mul-mul-mul_comm}
use Rattle.std.specs.Float.{nan, inf, fin, Format}
use Rattle.std.specs.Float.Ieee.{binary64, prec, emax, low, up, down, odd, units, round, sum, add, mul, lt, le, fits, is_nan}
use Rattle.std.specs.Float.Ieee.Exact.{HasValue, odd_sign}
use Rattle.std.specs.Float.Ieee.Fits.{round_is, add-fits, down_pos}
use Rattle.std.specs.Float.Ieee.Order.{round_mono}
use Rattle.laws.specs.Before.{before}
use Rattle.laws.specs.Bools.{true_is}
use Rattle.laws.specs.F64.{◌⊕◌}
use Rattle.float.specs.Within.{nought, number}
use Rattle.float.specs.OrderLaws.{le_is, le_numbers, lt_numbers, lt_skip, lt_asym}
use Rattle.float.specs.Held.{round_own}
use Rattle.traces.specs.Refinement.{margin, lower}

-- not below zero, or no number
abbrev pub upward : Float → Bool
upward nan = true
upward (inf s) = not s
upward (fin s m e) = not s

-- ---- rounded fractions, squares and sums are such
of_value : (x : Float) (a c : ℕ) → HasValue x false a c → T (upward x)
of_value nan a c h = tt
of_value (inf s) a c h = absurd h
of_value (fin true m e) a c h = absurd (true≢false h.0)
of_value (fin false m e) a c h = tt

units_upward : (f : Format) (q k : ℕ) → T (upward (units f false q k))
unfolding units
units_upward f q k = go (ltb (q * 2 ^ k) (2 ^ (low f + suc (emax f))))
  where
    go : (b : Bool) → T (upward (cond b (odd (suc (prec f)) false q k (low f)) (inf false)))
    go true = of_value (odd (suc (prec f)) false q k (low f)) (q * 2 ^ k) (2 ^ low f) (odd_sign (suc (prec f)) false q k (low f))
    go false = tt

round-upward : (f : Format) (a c : ℕ) → T (upward (round f false a c))
round-upward f a c = subst (λ (z : Float). T (upward z)) (sym (round_is f false a c)) (units_upward f _ _)

pub square-upward : (f : Format) (x : Float) → T (upward (mul f x x))
unfolding mul
square-upward f nan = tt
square-upward f (inf true) = tt
square-upward f (inf false) = tt
square-upward f (fin true m e) = round-upward f _ _
square-upward f (fin false m e) = round-upward f _ _

add-upward : (f : Format) (x y : Float) → T (upward x) → T (upward y) → T (upward (add f x y))
unfolding add sum
add-upward f nan y p q = tt
add-upward f (inf true) y p q = absurd p
add-upward f (inf false) nan p q = tt
add-upward f (inf false) (inf true) p q = absurd q
add-upward f (inf false) (inf false) p q = tt
add-upward f (inf false) (fin t n d) p q = tt
add-upward f (fin true m e) y p q = absurd p
add-upward f (fin false m e) nan p q = tt
add-upward f (fin false m e) (inf t) p q = q
add-upward f (fin false m e) (fin true n d) p q = absurd q
add-upward f (fin false m e) (fin false n d) p q = round-upward f _ _

-- ---- the order
nothing_below : (x : Float) → T (not (lt x nan))
unfolding lt
nothing_below nan = tt
nothing_below (inf s) = tt
nothing_below (fin s m e) = tt

highest : (x : Float) → T (not (lt (inf false) x))
unfolding lt
highest nan = tt
highest (inf t) = tt
highest (fin t n d) = tt

pub not-lt : (x y : Float) → T (le x y) → T (not (lt y x))
not-lt x y h = let n = le_numbers x y h in subst T (le_is x y n.0 n.1) h

-- M / E ≤ N / D, and K / G added to both
spread : (M E N D K G : ℕ) → M * D ≤ N * E → (M * G + K * E) * (D * G) ≤ (N * G + K * D) * (E * G)
spread M E N D K G h =
    omega (
      arith,
      mul-le-mul_right (G * G) h,
      add-mul (M * G) (K * E) (D * G),
      add-mul (N * G) (K * D) (E * G),
      mul-mul-mul_comm M G D G,
      mul-mul-mul_comm N G E G,
      mul-mul-mul_comm K E D G,
    )

-- t is not below s, and x is added to both
pub add_keeps : (f : Format) (s t x : Float) → T (upward s) → T (upward t) → T (upward x) → T (not (lt t s)) → T (not (lt (add f t x) (add f s x)))
unfolding add sum lt
add_keeps f s nan x p q r h = tt
add_keeps f s (inf true) x p q r h = absurd q
add_keeps f s (inf false) nan p q r h = tt
add_keeps f s (inf false) (inf true) p q r h = absurd r
add_keeps f s (inf false) (inf false) p q r h = highest (add f s (inf false))
add_keeps f s (inf false) (fin u k g) p q r h = highest (add f s (fin u k g))
add_keeps f s (fin true n d) x p q r h = absurd q
add_keeps f s (fin false n d) nan p q r h = tt
add_keeps f s (fin false n d) (inf true) p q r h = absurd r
add_keeps f s (fin false n d) (inf false) p q r h = highest (add f s (inf false))
add_keeps f s (fin false n d) (fin true k g) p q r h = absurd r
add_keeps f nan (fin false n d) (fin false k g) p q r h = nothing_below (add f (fin false n d) (fin false k g))
add_keeps f (inf true) (fin false n d) (fin false k g) p q r h = absurd p
add_keeps f (inf false) (fin false n d) (fin false k g) p q r h = absurd h
add_keeps f (fin true m e) (fin false n d) (fin false k g) p q r h = absurd p
add_keeps f (fin false m e) (fin false n d) (fin false k g) p q r h =
    not-lt (round f false (m * up e * down g + k * up g * down e) (down e * down g)) (round f false (n * up d * down g + k * up g * down d) (down d * down g))
    (round_mono f (m * up e * down g + k * up g * down e) (down e * down g) (n * up d * down g + k * up g * down d) (down d * down g)
    (mul-pos (down_pos e) (down_pos g)) (mul-pos (down_pos d) (down_pos g))
    (spread (m * up e) (down e) (n * up d) (down d) (k * up g) (down g) (nltb→le (n * up d * down e) (m * up e * down d) h)))

-- what a format holds does not fall when something is added
pub add_rises : (f : Format) (x z : Float) → T (fits f x) → T (upward x) → T (upward z) → T (not (lt (add f x z) x))
unfolding add sum lt
add_rises f nan z i p q = tt
add_rises f (inf true) z i p q = absurd p
add_rises f (inf false) nan i p q = tt
add_rises f (inf false) (inf true) i p q = absurd q
add_rises f (inf false) (inf false) i p q = tt
add_rises f (inf false) (fin t n d) i p q = tt
add_rises f (fin true m e) z i p q = absurd p
add_rises f (fin false m e) nan i p q = tt
add_rises f (fin false m e) (inf true) i p q = absurd q
add_rises f (fin false m e) (inf false) i p q = tt
add_rises f (fin false m e) (fin true k g) i p q = absurd q
add_rises f (fin false m e) (fin false k g) i p q =
    let M = m * up e in
    let E = down e in
    let K = k * up g in
    let G = down g in
    not-lt (fin false m e) (round f false (M * G + K * E) (E * G))
    (subst (λ (y : Float). T (le y (round f false (M * G + K * E) (E * G)))) (round_own f false m e i)
    (round_mono f M E (M * G + K * E) (E * G) (down_pos e) (mul-pos (down_pos e) (down_pos g))
    (omega (arith, add-mul (M * G) (K * E) E, sym (mul_assoc M E G), mul_right_comm M E G))))

-- ---- ordered sums
module _ (term : ℕ → Float) (all : (i : ℕ) → T (upward (term i))) where
  pub before-upward : (s : Float) → T (upward s) → (n : ℕ) → T (upward (before s ◌⊕◌ term n))
  unfolding before
  before-upward s p zero = p
  before-upward s p (suc n) = add-upward binary64 (before s ◌⊕◌ term n) (term n) (before-upward s p n) (all n)

  pub before_keeps : (s t : Float) → T (upward s) → T (upward t) → T (not (lt t s)) → (n : ℕ) → T (not (lt (before t ◌⊕◌ term n) (before s ◌⊕◌ term n)))
  unfolding before
  before_keeps s t p q h zero = h
  before_keeps s t p q h (suc n) =
      add_keeps binary64 (before s ◌⊕◌ term n) (before t ◌⊕◌ term n) (term n) (before-upward s p n) (before-upward t q n) (all n) (before_keeps s t p q h n)

pub before-fits : (term : ℕ → Float) (n : ℕ) → T (fits binary64 (before nought ◌⊕◌ term n))
unfolding before fits
before-fits term zero = tt
before-fits term (suc n) = add-fits binary64 (before nought ◌⊕◌ term n) (term n)

fits_on : (term : ℕ → Float) (s : Float) → T (fits binary64 s) → (n : ℕ) → T (fits binary64 (before s ◌⊕◌ term n))
unfolding before
fits_on term s i zero = i
fits_on term s i (suc n) = add-fits binary64 (before s ◌⊕◌ term n) (term n)

-- ---- not lower
first-number : (f : Format) (x z : Float) → T (number (add f x z)) → T (number x)
unfolding add is_nan
first-number f nan z h = absurd h
first-number f (inf s) z h = tt
first-number f (fin s m e) z h = tt

both_no : (b : Bool) → T b → T (not b) → ⊥
both_no true p q = q
both_no false p q = p

-- new is not below old: nor is it with something added
pub add_stays : (old new z : Float) → T (fits binary64 new) → T (upward new) → T (upward z) → T (not (lt new old)) → lt (add binary64 new z) old ≡ false
add_stays old new z i p q h = by (lt (add binary64 new z) old) refl
  where
    falls : T (lt (add binary64 new z) old) → T (lt (add binary64 new z) new)
    falls k = lt_skip (add binary64 new z) old new (first-number binary64 new z (lt_numbers (add binary64 new z) old k).0) k h

    by : (b : Bool) → lt (add binary64 new z) old ≡ b → b ≡ false
    by true e = absurd (both_no (lt (add binary64 new z) new) (falls (true_is _ e)) (add_rises binary64 new z i p q))
    by false e = refl

-- then it is not lower
pub never_lower : (old new : Float) → T (fits binary64 new) → T (upward new) → T (not (lt new old)) → lower new old ≡ false
unfolding lower
never_lower old new i p h = add_stays old new margin i p (round-upward binary64 1 1000000000) h

-- and more of a sum leaves it so
pub before_stays : (term : ℕ → Float) → ((i : ℕ) → T (upward (term i))) → (old s : Float) → T (fits binary64 s) → T (upward s) → T (not (lt s old)) → (n : ℕ) → T (not (lt (before s ◌⊕◌ term n) old))
unfolding before
before_stays term all old s i p h zero = h
before_stays term all old s i p h (suc n) =
    subst (λ (b : Bool). T (not b)) (sym (add_stays old (before s ◌⊕◌ term n) (term n) (fits_on term s i n) (before-upward term all s p n) (all n) (before_stays term all old s i p h n))) tt

-- nothing is lower than itself
not_below_itself : (x : Float) → T (not (lt x x))
not_below_itself x = by (lt x x) refl
  where
    by : (b : Bool) → lt x x ≡ b → T (not b)
    by true e = subst (λ (b : Bool). T (not b)) e (lt_asym x x (true_is _ e))
    by false e = tt

pub itself_not_lower : (x : Float) → T (fits binary64 x) → T (upward x) → lower x x ≡ false
itself_not_lower x i p = never_lower x x i p (not_below_itself x)
