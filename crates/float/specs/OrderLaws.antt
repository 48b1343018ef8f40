-- Laws: the order of floats. Of two numbers the one is at most the other exactly if the other is not below it; below and at most go on from one to the next.
-- A finite float is a fraction with a sign. As the difference of two natural numbers, P - N, its comparisons are those of sums, whatever the signs.
use Rattle.std.specs.Prelude.{◌≡◌, ℕ, ◌+◌, ◌*◌, ◌<◌, ◌≤◌, Bool, true, false, not, ◌&&◌, ◌||◌, T, ltb, ◌==◌, nat_lt, refl, Float}
use Rattle.std.proofs.Common.{sym, ap, ◌∙◌, subst, add-zero, zero-add, add_comm, zero-mul, add-mul, mul_right_comm, mul-le-mul_right, mul-lt-mul_of_pos_right, lt_of_mul-lt-mul_right, arith, eqb→eq, ltb→lt, lt→ltb, nltb→le, lt-ltb, le-ltb, eq-eqb, ne_eqb}
use Rattle.std.proofs.Math.Decide.{dec_le}
use Rattle.std.specs.Float.{nan, inf, fin}
use Rattle.std.specs.Float.Ieee.{up, down, below, level, lt, eq, le, is_nan}
use Rattle.std.specs.Float.Ieee.Fits.{and_i, and_l, and_r, eq→eqb, down_pos}
use Rattle.float.specs.Within.{number}

-- what is above 0, and what is below
abbrev P : Bool → ℕ → ℕ
P true a = 0
P false a = a

abbrev N : Bool → ℕ → ℕ
N true a = a
N false a = 0

below_is : (s t : Bool) (a b : ℕ) → below s a t b ≡ nat_lt (P s a + N t b) (P t b + N s a)
below_is false false a b = rw (add-zero a, add-zero b) refl
below_is false true a b = sym (le-ltb (a + b) 0 (omega arith))
below_is true false a b = ap (ltb 0) (add_comm a b)
below_is true true a b = rw (zero-add a, zero-add b) refl

alike : (x y : Bool) → (T x → T y) → (T y → T x) → x ≡ y
alike true true f g = refl
alike true false f g = absurd (f tt)
alike false true f g = absurd (g tt)
alike false false f g = refl

and_true : (x : Bool) → x && true ≡ x
and_true true = refl
and_true false = refl

-- a ≡ b, and both 0
both : (a b c d : ℕ) → (a ≡ b → a ≡ 0 → c ≡ d) → (c ≡ d → (a ≡ b) × (a ≡ 0)) → (a == b) && (a == 0) ≡ (c == d)
both a b c d f g =
    alike (a == b && a == 0) (c == d)
    (λ h. eq→eqb (f (eqb→eq a b (and_l (a == b) (a == 0) h)) (eqb→eq a 0 (and_r (a == b) (a == 0) h))))
    (λ h. let e = g (eqb→eq c d h) in and_i (a == b) (a == 0) (eq→eqb e.0) (eq→eqb e.1))

level-is : (s t : Bool) (a b : ℕ) → level s a t b ≡ (P s a + N t b == P t b + N s a)
level-is false false a b = rw (add-zero a, add-zero b) (and_true (a == b))
level-is false true a b = both a b (a + b) 0 (λ e z. omega arith) (λ e. (omega arith, omega arith))
level-is true false a b = both a b 0 (b + a) (λ e z. omega arith) (λ e. (omega arith, omega arith))
level-is true true a b =
    rw (zero-add a, zero-add b)
    (and_true (a == b) ∙ alike (a == b) (b == a) (λ h. eq→eqb (sym (eqb→eq a b h))) (λ h. eq→eqb (sym (eqb→eq b a h))))

-- ---- at most is not above
trichotomy : (a b : ℕ) → Dec (a ≤ b) → Dec (b ≤ a) → nat_lt a b || (a == b) ≡ not (nat_lt b a)
trichotomy a b (yes p) (yes q) =
    let e : a ≡ b = omega arith in
    rw (le-ltb a b q, le-ltb b a p, eq-eqb a b e) refl
trichotomy a b (yes p) (no q) = rw (lt-ltb a b (omega arith), le-ltb b a p) refl
trichotomy a b (no p) (yes q) = rw (le-ltb a b q, lt-ltb b a (omega arith), ne_eqb a b (λ e. p (omega arith))) refl
trichotomy a b (no p) (no q) = absurd (omega arith)

pub le_is : (x y : Float) → T (number x) → T (number y) → le x y ≡ not (lt y x)
unfolding le lt eq is_nan
le_is nan y p q = absurd p
le_is (inf s) nan p q = absurd q
le_is (inf true) (inf true) p q = refl
le_is (inf true) (inf false) p q = refl
le_is (inf false) (inf true) p q = refl
le_is (inf false) (inf false) p q = refl
le_is (inf true) (fin t n d) p q = refl
le_is (inf false) (fin t n d) p q = refl
le_is (fin s m e) nan p q = absurd q
le_is (fin s m e) (inf true) p q = refl
le_is (fin s m e) (inf false) p q = refl
le_is (fin s m e) (fin t n d) p q =
    let a = m * up e * down d in
    let b = n * up d * down e in
    let x = P s a + N t b in
    let y = P t b + N s a in
    ap (λ (z : Bool). z || level s a t b) (below_is s t a b)
    ∙ ap (λ (z : Bool). nat_lt x y || z) (level-is s t a b)
    ∙ trichotomy x y (dec_le x y) (dec_le y x)
    ∙ ap not (sym (below_is t s b a))

-- ---- from one to the next
scale-P : (s : Bool) (a k : ℕ) → P s (a * k) ≡ P s a * k
scale-P true a k = sym (zero-mul k)
scale-P false a k = refl

scale-N : (s : Bool) (a k : ℕ) → N s (a * k) ≡ N s a * k
scale-N true a k = refl
scale-N false a k = sym (zero-mul k)

-- (p - n) / d, three of them
through : (px nx dx py ny dy pz nz dz : ℕ) → 0 < dz → px * dy + ny * dx < py * dx + nx * dy → py * dz + nz * dy ≤ pz * dy + ny * dz
    → px * dz + nz * dx < pz * dx + nx * dz
through px nx dx py ny dy pz nz dz z h k =
    let h' : (px * dy + ny * dx) * dz < (py * dx + nx * dy) * dz = mul-lt-mul_of_pos_right h z in
    let k' : (py * dz + nz * dy) * dx ≤ (pz * dy + ny * dz) * dx = mul-le-mul_right dx k in
    lt_of_mul-lt-mul_right dy
    (omega (
      arith,
      add-mul (px * dy) (ny * dx) dz,
      add-mul (py * dx) (nx * dy) dz,
      add-mul (py * dz) (nz * dy) dx,
      add-mul (pz * dy) (ny * dz) dx,
      add-mul (px * dz) (nz * dx) dy,
      add-mul (pz * dx) (nx * dz) dy,
      mul_right_comm px dy dz,
      mul_right_comm ny dx dz,
      mul_right_comm py dx dz,
      mul_right_comm nx dy dz,
      mul_right_comm nz dy dx,
      mul_right_comm pz dy dx,
    ))

-- ±a / da < ±b / db, crosswise
cross : (s t : Bool) (a da b db : ℕ) → below s (a * db) t (b * da) ≡ nat_lt (P s a * db + N t b * da) (P t b * da + N s a * db)
cross s t a da b db = below_is s t (a * db) (b * da) ∙ rw (scale-P s a db, scale-N t b da, scale-P t b da, scale-N s a db) refl

finite : (s t u : Bool) (a da b db c dc : ℕ) → 0 < dc → T (below s (a * db) t (b * da)) → T (not (below u (c * db) t (b * dc))) → T (below s (a * dc) u (c * da))
finite s t u a da b db c dc z h k =
    subst T (sym (cross s u a da c dc))
    (lt→ltb (P s a * dc + N u c * da) (P u c * da + N s a * dc)
    (through (P s a) (N s a) da (P t b) (N t b) db (P u c) (N u c) dc z
    (ltb→lt (P s a * db + N t b * da) (P t b * da + N s a * db) (subst T (cross s t a da b db) h))
    (nltb→le (P u c * db + N t b * dc) (P t b * dc + N u c * db) (subst (λ (x : Bool). T (not x)) (cross u t c dc b db) k))))

-- x below y, and z not below y: x is below z, if z is a number
pub lt_skip : (x y z : Float) → T (number z) → T (lt x y) → T (not (lt z y)) → T (lt x z)
unfolding lt is_nan
lt_skip nan y z n h k = absurd h
lt_skip (inf s) nan z n h k = absurd h
lt_skip (fin s m e) nan z n h k = absurd h
lt_skip (inf s) (inf t) nan n h k = absurd n
lt_skip (inf s) (fin t b d) nan n h k = absurd n
lt_skip (fin s m e) (inf t) nan n h k = absurd n
lt_skip (fin s m e) (fin t b d) nan n h k = absurd n
lt_skip (inf true) (inf false) (inf false) n h k = tt
lt_skip (inf true) (inf false) (inf true) n h k = absurd k
lt_skip (inf true) (inf true) (inf u) n h k = absurd h
lt_skip (inf false) (inf t) (inf u) n h k = absurd h
lt_skip (inf s) (inf t) (fin u c g) n h k = and_l s (not t) h
lt_skip (inf s) (fin t b d) (inf u) n h k = and_i s (not u) h k
lt_skip (inf s) (fin t b d) (fin u c g) n h k = h
lt_skip (fin s m e) (inf false) (inf false) n h k = tt
lt_skip (fin s m e) (inf false) (inf true) n h k = absurd k
lt_skip (fin s m e) (inf true) (inf u) n h k = absurd h
lt_skip (fin s m e) (inf false) (fin u c g) n h k = absurd k
lt_skip (fin s m e) (inf true) (fin u c g) n h k = absurd h
lt_skip (fin s m e) (fin t b d) (inf u) n h k = k
lt_skip (fin s m e) (fin t b d) (fin u c g) n h k = finite s t u (m * up e) (down e) (b * up d) (down d) (c * up g) (down g) (down_pos g) h k

or_left : (a b : Bool) → T a → T (a || b)
or_left true b t = tt
or_left false b t = absurd t

pub lt-le : (x y : Float) → T (lt x y) → T (le x y)
unfolding le
lt-le x y h = or_left (lt x y) (eq x y) h

pub le_numbers : (x y : Float) → T (le x y) → T (number x) × T (number y)
unfolding le lt eq is_nan
le_numbers nan y h = absurd h
le_numbers (inf s) nan h = absurd h
le_numbers (inf s) (inf t) h = (tt, tt)
le_numbers (inf s) (fin t n d) h = (tt, tt)
le_numbers (fin s m e) nan h = absurd h
le_numbers (fin s m e) (inf t) h = (tt, tt)
le_numbers (fin s m e) (fin t n d) h = (tt, tt)

pub lt_numbers : (x y : Float) → T (lt x y) → T (number x) × T (number y)
lt_numbers x y h = le_numbers x y (lt-le x y h)

pub lt_asym : (x y : Float) → T (lt x y) → T (not (lt y x))
lt_asym x y h = let n = lt_numbers x y h in subst T (le_is x y n.0 n.1) (lt-le x y h)

pub lt_trans : (x y z : Float) → T (lt x y) → T (lt y z) → T (lt x z)
lt_trans x y z h k = lt_skip x y z (lt_numbers y z k).1 h (lt_asym y z k)
