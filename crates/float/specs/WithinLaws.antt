-- Laws: what `within` says of a value; products, 1 - a, sums and narrowings of values within 0..1; lists of them.
use Rattle.std.specs.Prelude.{◌≡◌, ℕ, ◌+◌, ◌-◌, ◌*◌, ◌<◌, ◌≤◌, Bool, true, false, cond, not, ◌&&◌, ◌||◌, T, List, ℤ, pos, ◌==◌, ◌≢◌, nat_lt, refl, Float}
use Rattle.std.proofs.Common.{sym, ◌∙◌, subst, zero-le, mul_right_comm, mul_assoc, mul-le-mul_right, add-mul, not-le_of_lt, le_of_lt, le_trans, le_of_eq, mul-le-mul, mul-one, mul-zero, mul_comm, arith, ltb→lt, nltb→le, eqb→eq, lit<}
use Rattle.std.proofs.Math.Path.{ap}
use Rattle.std.proofs.Math.Nat.{mul-pos, zero-mul}
use Rattle.std.specs.Float.Ieee.{nan, up, down, unlike, round, add, sub, mul, sum, lt, eq, le, fits, is_nan}
use Rattle.std.specs.Float.{inf, fin, Format, binary32, binary64}
use Rattle.std.specs.Float.Ieee.Fits.{and_i, and_l, and_r, down_pos, fits_widens}
use Rattle.std.specs.Float.Ieee.Scale.{round_same}
use Rattle.std.specs.Float.Ieee.Order.{round_mono}
use Rattle.laws.specs.EveryLaws.{every_weaker}
use Rattle.float.specs.Narrowed.{narrowed}
use Rattle.float.specs.Within.{nought, one, within, number, all_within, all_numbers, WithinSays, AllWithinSays, AllNumbersSays}

pub WithinSays-unique : (x : Float) (r s : Bool) → WithinSays x r → WithinSays x s → r ≡ s
WithinSays-unique x r s p q = p ∙ sym q

pub AllWithinSays-unique : (xs : List Float) (r s : Bool) → AllWithinSays xs r → AllWithinSays xs s → r ≡ s
AllWithinSays-unique xs r s p q = p ∙ sym q

pub AllNumbersSays-unique : (xs : List Float) (r s : Bool) → AllNumbersSays xs r → AllNumbersSays xs s → r ≡ s
AllNumbersSays-unique xs r s p q = p ∙ sym q

-- what `within` says: the fraction is at most 1, and a negative one is 0
abbrev pub Says : Float → Type 0
Says nan = ⊥
Says (inf s) = ⊥
Says (fin s m e) = (m * up e ≤ down e) × (T s → m * up e ≡ 0)

pub or-le : (a b : ℕ) (c : Bool) → T (nat_lt a b || (a == b && c)) → a ≤ b
or-le a b c h = go (nat_lt a b) (ltb→lt a b) h
  where
    go : (l : Bool) → (T l → a < b) → T (l || (a == b && c)) → a ≤ b
    go true f t = le_of_lt (f tt)
    go false f t = le_of_eq (eqb→eq a b (and_l (a == b) c t))

pub says : (x : Float) → T (within x) → Says x
unfolding within le lt eq
says nan h = absurd h
says (inf true) h = absurd h
says (inf false) h = absurd h
says (fin false m e) h =
    let k = or-le (m * up e * 1) (1 * 1 * down e) true (and_r (le nought (fin false m e)) (le (fin false m e) one) h) in
    (omega arith, λ z. absurd z)
says (fin true m e) h =
    let z = eqb→eq (0 * 1 * down e) (m * up e * 1) (and_l (0 * 1 * down e == m * up e * 1) _ (and_l (le nought (fin true m e)) (le (fin true m e) one) h)) in
    let y : m * up e ≡ 0 = sym (mul-one (m * up e)) ∙ sym z ∙ zero-mul (down e) in
    (omega arith, λ t. y)

-- within is a number, and so the cast to f64 is defined
pub within-number : (x : Float) → T (within x) → T (number x)
unfolding is_nan
within-number x h = go x (says x h)
  where
    go : (x : Float) → Says x → T (number x)
    go nan p = p
    go (inf s) p = tt
    go (fin s m e) p = tt

pub all_within_numbers : (xs : List Float) → T (all_within xs) → T (all_numbers xs)
all_within_numbers xs h = every_weaker within number within-number xs h

pub widens : (x : Float) → T (fits binary32 x) → T (number x) → T (fits binary64 x && not (is_nan x))
widens x f n = and_i (fits binary64 x) (not (is_nan x)) (fits_widens x f) n

-- ---- a fraction from 0 to 1, rounded
zero_is : (f : Format) → round f false 0 1 ≡ nought
unfolding round
zero_is binary32 = refl
zero_is binary64 = refl

pub one-is : (f : Format) → round f false 1 1 ≡ one
unfolding round
one-is binary32 = refl
one-is binary64 = refl

minus_zero : (f : Format) → T (within (round f true 0 1))
unfolding round within le lt eq
minus_zero binary32 = tt
minus_zero binary64 = tt

pub round-within : (f : Format) (s : Bool) (a c : ℕ) → 0 < c → a ≤ c → (T s → a ≡ 0) → T (within (round f s a c))
unfolding within
round-within f false a c C h z =
    and_i (le nought (round f false a c)) (le (round f false a c) one)
    (subst (λ (w : Float). T (le w (round f false a c))) (zero_is f) (round_mono f 0 1 a c (lit< tt) C (le_trans (le_of_eq (zero-mul c)) zero-le)))
    (subst (λ (w : Float). T (le (round f false a c) w)) (one-is f) (round_mono f a c 1 1 C (lit< tt) (omega arith)))
round-within f true a c C h z = subst (λ (w : Float). T (within w)) (sym (round_same f true a c 0 1 C (lit< tt) (ap (λ (k : ℕ). k * 1) (z tt) ∙ sym (zero-mul c)))) (minus_zero f)

-- ---- a product, in either format
pub nothing : (s t : Bool) (a b : ℕ) → (T s → a ≡ 0) → (T t → b ≡ 0) → T (unlike s t) → a * b ≡ 0
nothing true true a b p q u = absurd u
nothing true false a b p q u = ap (λ (z : ℕ). z * b) (p tt) ∙ zero-mul b
nothing false true a b p q u = ap (λ (z : ℕ). a * z) (q tt) ∙ mul-zero a
nothing false false a b p q u = absurd u

pub mul-within : (f : Format) (x y : Float) → T (within x) → T (within y) → T (within (mul f x y))
unfolding mul
mul-within f x y h k = go x y (says x h) (says y k)
  where
    go : (x y : Float) → Says x → Says y → T (within (mul f x y))
    go nan y p q = absurd p
    go (inf s) y p q = absurd p
    go (fin s m e) nan p q = absurd q
    go (fin s m e) (inf t) p q = absurd q
    go (fin s m e) (fin t n d) p q =
        round-within f (unlike s t) (m * up e * (n * up d)) (down e * down d) (mul-pos (down_pos e) (down_pos d)) (mul-le-mul p.0 q.0) (nothing s t (m * up e) (n * up d) p.1 q.1)

-- ---- 1 - a
pub sub_within : (f : Format) (x : Float) → T (within x) → T (within (sub f one x))
unfolding sub sum
sub_within f x h = go x (says x h)
  where
    less : (b : Bool) (n d : ℕ) → 0 < d → n ≤ d → (T b → 1 * 1 * d < n * 1) → T (within (cond b (round f true (n * 1 - 1 * 1 * d) (1 * d)) (round f (false && nat_lt (n * 1) (1 * 1 * d)) (1 * 1 * d - n * 1) (1 * d))))
    less true n d D k g = absurd (not-le_of_lt (g tt) (omega arith))
    less false n d D k g = round-within f false (1 * 1 * d - n * 1) (1 * d) (omega arith) (omega arith) (λ z. absurd z)

    go : (x : Float) → Says x → T (within (sub f one x))
    go nan p = absurd p
    go (inf s) p = absurd p
    go (fin false m e) p = less (nat_lt (1 * 1 * down e) (m * up e * 1)) (m * up e) (down e) (down_pos e) p.0 (ltb→lt (1 * 1 * down e) (m * up e * 1))
    go (fin true m e) p = round-within f false (1 * 1 * down e + m * up e * 1) (1 * down e) (mul-pos (lit< tt) (down_pos e)) (let z = p.1 tt in omega arith) (λ z. absurd z)

-- ---- sums. `Small x u v`: x is from 0 to u / v, a negative one being 0
abbrev pub Small : Float → ℕ → ℕ → Type 0
Small nan u v = ⊥
Small (inf s) u v = ⊥
Small (fin s m e) u v = (m * up e * v ≤ u * down e) × (T s → m * up e ≡ 0)

pick : (P : Float → Type 0) (b : Bool) (x y : Float) → (T b → P x) → (T (not b) → P y) → P (cond b x y)
pick P true x y f g = f tt
pick P false x y f g = g tt

-- how a sum of two such is rounded: as a + b over c, negative only where both are
add_as : (f : Format) (P : Float → Type 0) (s t : Bool) (a b c : ℕ) → (T s → a ≡ 0) → (T t → b ≡ 0) → (T (s && t) → P (round f true (a + b) c)) → P (round f false (a + b) c) → P (sum f s a t b c)
unfolding sum
add_as f P true true a b c y z g h = g tt
add_as f P false false a b c y z g h = h
add_as f P false true a b c y z g h =
    let e = z tt in
    pick P (nat_lt a b) (round f true (b - a) c) (round f false (a - b) c)
    (λ (t : T (nat_lt a b)). let l = ltb→lt a b t in absurd (none a b l e))
    (λ t. subst (λ (w : ℕ). P (round f false w c)) (omega arith) h)
  where
    none : (a b : ℕ) → a < b → b ≢ 0
    none a b l e = omega arith
add_as f P true false a b c y z g h =
    let e = y tt in
    pick P (nat_lt a b) (round f false (b - a) c) (round f (nat_lt b a) (a - b) c)
    (λ t. subst (λ (w : ℕ). P (round f false w c)) (omega arith) h)
    (λ t. pick_false (nat_lt b a) (λ (u : T (nat_lt b a)). none b a (ltb→lt b a u) e) (let l = nltb→le a b t in subst (λ (w : ℕ). P (round f false w c)) (omega arith) h))
  where
    none : (a b : ℕ) → a < b → b ≢ 0
    none a b l e = omega arith

    pick_false : (k : Bool) → (T k → ⊥) → P (round f false (a - b) c) → P (round f k (a - b) c)
    pick_false true n p = absurd (n tt)
    pick_false false n p = p

pub minus-nought : (f : Format) → round f true 0 1 ≡ fin true 0 (pos 0)
unfolding round
minus-nought binary32 = refl
minus-nought binary64 = refl

cross_sum : (a b de dd p q v u : ℕ) → a * v ≤ p * de → b * v ≤ q * dd → p + q ≤ u → (a * dd + b * de) * v ≤ u * (de * dd)
cross_sum a b de dd p q v u g h k =
    let l : a * dd * v ≤ p * (de * dd) = le_trans (le_of_eq (mul_right_comm a dd v)) (le_trans (mul-le-mul_right dd g) (le_of_eq (mul_assoc p de dd))) in
    let r : b * de * v ≤ q * (de * dd) = le_trans (le_of_eq (mul_right_comm b de v)) (le_trans (mul-le-mul_right de h) (le_of_eq (mul_assoc q dd de ∙ ap (λ (z : ℕ). q * z) (mul_comm dd de)))) in
    let t : (p + q) * (de * dd) ≤ u * (de * dd) = mul-le-mul_right (de * dd) k in
    omega (arith, add-mul (a * dd) (b * de) v, add-mul p q (de * dd))

-- from 0 to top, where u / v rounds to top
abbrev pub Upto : Float → Float → Type 0
Upto top x = T (le nought x && le x top)

module _ (f : Format) (u v : ℕ) (vp : 0 < v) (top : Float) (is : round f false u v ≡ top) (neg-le : Upto top (fin true 0 (pos 0))) where
  pub upto_pos : (a c : ℕ) → 0 < c → a * v ≤ u * c → Upto top (round f false a c)
  upto_pos a c C h =
      and_i (le nought (round f false a c)) (le (round f false a c) top)
      (subst (λ (w : Float). T (le w (round f false a c))) (zero_is f) (round_mono f 0 1 a c (lit< tt) C (le_trans (le_of_eq (zero-mul c)) zero-le)))
      (subst (λ (w : Float). T (le (round f false a c) w)) is (round_mono f a c u v C vp h))

  pub upto_neg : (a c : ℕ) → 0 < c → a ≡ 0 → Upto top (round f true a c)
  upto_neg a c C z = subst (Upto top) (sym (round_same f true a c 0 1 C (lit< tt) (ap (λ (k : ℕ). k * 1) z ∙ sym (zero-mul c)) ∙ minus-nought f)) neg-le

  -- the sum of two fractions that are at most p / v and q / v, with p + q ≤ u
  pub add_upto : (x y : Float) (p q : ℕ) → Small x p v → Small y q v → p + q ≤ u → Upto top (add f x y)
  unfolding add
  add_upto nan y p q X Y h = absurd X
  add_upto (inf s) y p q X Y h = absurd X
  add_upto (fin s m e) nan p q X Y h = absurd Y
  add_upto (fin s m e) (inf t) p q X Y h = absurd Y
  add_upto (fin s m e) (fin t n d) p q X Y h =
      let a = m * up e in
      let b = n * up d in
      let D : 0 < down e * down d = mul-pos (down_pos e) (down_pos d) in
      add_as f (Upto top) s t (a * down d) (b * down e) (down e * down d) (λ k. ap (λ (z : ℕ). z * down d) (X.1 k) ∙ zero-mul (down d)) (λ k. ap (λ (z : ℕ). z * down e) (Y.1 k) ∙ zero-mul (down e))
      (λ k. upto_neg (a * down d + b * down e) (down e * down d) D
      (ap (λ (z : ℕ). z * down d + b * down e) (X.1 (and_l s t k)) ∙ ap (λ (z : ℕ). 0 * down d + z * down e) (Y.1 (and_r s t k)) ∙ omega (arith, zero-mul (down d), zero-mul (down e))))
      (upto_pos (a * down d + b * down e) (down e * down d) D (cross_sum a b (down e) (down d) p q v u X.0 Y.0 h))

-- ---- narrowed
at_fin : (s : Bool) (m : ℕ) (e : ℤ) → narrowed (fin s m e) ≡ round binary32 s (m * up e) (down e)
unfolding narrowed
at_fin s m e = refl

pub narrowed-within : (x : Float) → T (within x) → T (within (narrowed x))
narrowed-within x h = go x (says x h)
  where
    go : (x : Float) → Says x → T (within (narrowed x))
    go nan p = absurd p
    go (inf s) p = absurd p
    go (fin s m e) p = subst (λ (w : Float). T (within w)) (sym (at_fin s m e)) (round-within binary32 s (m * up e) (down e) (down_pos e) p.0 p.1)
