-- Laws: document 01's paint, (1 - a) * old + a * colour with each operation rounded to f32, is within 0..1 where a, old and colour are.
use Rattle.std.specs.Prelude.{◌≡◌, ℕ, suc, ◌+◌, ◌-◌, ◌*◌, ◌/◌, ◌%◌, ◌^◌, ◌<◌, ◌≤◌, Bool, true, false, cond, T, pos, nat_lt, refl, Float}
use Rattle.std.proofs.Math.Path.{sym, subst}
use Rattle.std.proofs.Common.{ap, ◌∙◌, add_comm, le-add_left, add-le-add, div-lt_iff_lt-mul, mul-lt-mul_of_pos_right, le_refl, le_trans, le_of_eq, lt_of_le_of_lt, mul-pos, mul-le-mul, mul-le-mul_left, mul-le-mul_right, le_of_mul-le-mul_right, one-mul, zero-mul, mul_comm, mul_right_comm, suc-mul, add-mul, div-add-mod', sub-le, arith, true≢false, ltb→lt, lit<, pow_pos, pow_mono}
use Prim.Native.Nat.{zero-le, compare, Ordering}
use Rattle.std.proofs.Math.Nat.{eq_of_mul-eq-mul_right, mul_assoc}
use Rattle.std.proofs.Math.Dec.{not_T}
use Rattle.std.specs.Float.Ieee.{nan, binary32, up, down, unlike, size, nearest, round, add, sub, mul, sum, lt, eq, le, fits}
use Rattle.std.specs.Float.{inf, fin}
use Rattle.std.specs.Float.Ieee.Digits.{size-le}
use Rattle.std.specs.Float.Ieee.Fits.{down_pos, sub-fits}
use Rattle.std.specs.Float.Ieee.Bits.{is_false}
use Rattle.std.specs.Float.Ieee.Exact.{HasValue, round_exact}
use Rattle.std.specs.Float.Ieee.Nearest.{closest}
use Rattle.std.specs.Float.Ieee.Order.{round_mono, kept, drop}
use Rattle.std.specs.Float.Ieee.Scale.{round_same, grid, round_val}
use Rattle.std.specs.Float.Ieee.Positive.{num, den, den_pos, value→cross}
use Rattle.float.specs.Within.{one, within}
use Rattle.float.specs.Rounding.{Cmp, cmp}
use Rattle.float.specs.Held.{placed}
use Rattle.float.specs.WithinLaws.{Says, says, Small, or-le, round-within, sub_within, minus-nought, Upto, add_upto, nothing}

abbrev U : ℕ
U = 2 ^ 149

-- ---- rounding adds at most half a unit
half_up : (a b : ℕ) → 0 < b → closest a b * b * 2 ≤ a * 2 + b
half_up a b p = go (a / b) (a % b) (compare (a % b * 2) b) (cmp (a % b * 2) b) (div-add-mod' a b)
  where
    go : (w r : ℕ) (o : Ordering) → Cmp o (r * 2) b → w * b + r ≡ a → nearest w o * b * 2 ≤ a * 2 + b
    go w r Ordering.lt c e = omega arith
    go w r Ordering.eq c e =
        let l : (w + w % 2) * b ≤ suc w * b = mul-le-mul_right b (omega arith) in
        omega (arith, suc-mul w b)
    go w r Ordering.gt c e = omega (arith, suc-mul w b)

-- ---- a value of binary32 in units of 2 ^ -149
unit_of : (x : Float) → T (fits binary32 x) → Says x → (q : ℕ) × (j : ℕ) × (q < 0x100_0000) × (num x * U ≡ q * 2 ^ j * den x)
unit_of nan h p = absurd p
unit_of (inf s) h p = absurd p
unit_of (fin s m e) h p = let i = placed binary32 s m e h in (i.q, i.j, i.few, i.same)

-- ---- a value that is at most another
le-small : (r top : Float) (a u : ℕ) → 0 < u → Says r → T (le r top) → HasValue top false a u → Small r a u
unfolding le lt eq
le-small nan top a u p r h v = absurd r
le-small (inf s) top a u p r h v = absurd r
le-small (fin true m e) top a u p r h v = (le_trans (le_of_eq (ap (λ (z : ℕ). z * u) (r.1 tt) ∙ zero-mul u)) zero-le, r.1)
le-small (fin false m e) nan a u p r h v = absurd v
le-small (fin false m e) (inf t) a u p r h v = absurd v
le-small (fin false m e) (fin true n d) a u p r h v = absurd (true≢false v.0)
le-small (fin false m e) (fin false n d) a u p r h v =
    let k : m * up e * down d ≤ n * up d * down e = or-le (m * up e * down d) (n * up d * down e) true h in (
      le_of_mul-le-mul_right
          (le_trans (le_of_eq (mul_right_comm (m * up e) u (down d)))
          (le_trans (mul-le-mul_right u k)
          (le_of_eq (mul_right_comm (n * up d) (down e) u ∙ ap (λ (z : ℕ). z * down e) v.1 ∙ mul_right_comm a (down d) (down e)))))
          (down_pos d),
      r.1,
    )

-- ---- a * x is at most a
module _ (q j : ℕ) (Q : q < 0x100_0000) (K : q * 2 ^ j ≤ U) where
  self : HasValue (round binary32 false (q * 2 ^ j) U) false (q * 2 ^ j) U
  self = round_exact binary32 false (q * 2 ^ j) U q j (pow_pos 149) Q (lt_of_le_of_lt K (lit< tt)) refl

  bound : (a x : Float) → num a * U ≡ q * 2 ^ j * den a → Says a → Says x → Small (mul binary32 a x) (q * 2 ^ j) U
  unfolding mul
  bound nan x v p r = absurd p
  bound (inf s) x v p r = absurd p
  bound (fin s m e) nan v p r = absurd r
  bound (fin s m e) (inf t) v p r = absurd r
  bound (fin s m e) (fin t n d) v p r = go (unlike s t) (nothing s t (m * up e) (n * up d) p.1 r.1)
    where
      go : (b : Bool) → (T b → m * up e * (n * up d) ≡ 0) → Small (round binary32 b (m * up e * (n * up d)) (down e * down d)) (q * 2 ^ j) U
      go true z =
          subst (λ (w : Float). Small w (q * 2 ^ j) U)
          (sym (round_same binary32 true (m * up e * (n * up d)) (down e * down d) 0 1 (mul-pos (down_pos e) (down_pos d)) (lit< tt) (ap (λ (k : ℕ). k * 1) (z tt) ∙ sym (zero-mul (down e * down d))) ∙ minus-nought binary32))
          (zero-le, λ t. refl)
      go false z =
          le-small (round binary32 false (m * up e * (n * up d)) (down e * down d)) (round binary32 false (q * 2 ^ j) U) (q * 2 ^ j) U (pow_pos 149)
          (says (round binary32 false (m * up e * (n * up d)) (down e * down d)) (round-within binary32 false (m * up e * (n * up d)) (down e * down d) (mul-pos (down_pos e) (down_pos d)) (mul-le-mul p.0 r.0) (λ t. absurd t)))
          (round_mono binary32 (m * up e * (n * up d)) (down e * down d) (q * 2 ^ j) U (mul-pos (down_pos e) (down_pos d)) (pow_pos 149)
          (le_trans (le_of_eq (mul_right_comm (m * up e) (n * up d) U)) (le_trans (mul-le-mul_left (m * up e * U) r.0) (le_of_eq (ap (λ (k : ℕ). k * down d) v ∙ mul_assoc (q * 2 ^ j) (down e) (down d))))))
          self

-- ---- 1 - a
sub_is : (x : Float) → Says x → sub binary32 one x ≡ round binary32 false (den x - num x) (den x)
unfolding sub sum
sub_is nan p = absurd p
sub_is (inf s) p = absurd p
sub_is (fin true m e) p = let z = p.1 tt in ap (λ (k : ℕ). round binary32 false k (1 * down e)) (omega arith) ∙ ap (λ (k : ℕ). round binary32 false (down e - m * up e) k) (one-mul (down e))
sub_is (fin false m e) p =
    let z = p.0 in
    ap (λ (b : Bool). cond b (round binary32 true (m * up e * 1 - 1 * 1 * down e) (1 * down e)) (round binary32 false (1 * 1 * down e - m * up e * 1) (1 * down e)))
    (is_false (nat_lt (1 * 1 * down e) (m * up e * 1)) (not_T (nat_lt (1 * 1 * down e) (m * up e * 1)) (λ (t : T (nat_lt (1 * 1 * down e) (m * up e * 1))). over (down e) (m * up e) z (ltb→lt (1 * 1 * down e) (m * up e * 1) t))))
    ∙ ap (λ (k : ℕ). round binary32 false k (1 * down e)) (omega arith)
    ∙ ap (λ (k : ℕ). round binary32 false (down e - m * up e) k) (one-mul (down e))
  where
    over : (d n : ℕ) → n ≤ d → 1 * 1 * d < n * 1 → ⊥
    over d n h l = omega arith

-- ---- a and 1 - a, in units: together at most half a last digit above 1
total : (N M D A G c u w : ℕ) → D ≡ N + M → N * u ≡ A * D → c * (D * w) * 2 ≤ M * u * 2 + D * w → G ≡ c * w → (A + G) * 2 * D ≤ (u * 2 + w) * D
total N M D A G c u w d v h g =
    let e1 : (A + G) * 2 * D ≡ (A + G) * D * 2 = mul_right_comm (A + G) 2 D in
    let e2 : (A + G) * D ≡ A * D + G * D = add-mul A G D in
    let e3 : G * D ≡ c * (D * w) = ap (λ (z : ℕ). z * D) g ∙ mul_assoc c w D ∙ ap (λ (z : ℕ). c * z) (mul_comm w D) in
    let e4 : (u * 2 + w) * D ≡ u * 2 * D + w * D = add-mul (u * 2) w D in
    let e5 : u * 2 * D ≡ u * D * 2 = mul_right_comm u 2 D in
    let e6 : u * D ≡ N * u + M * u = mul_comm u D ∙ ap (λ (z : ℕ). z * u) d ∙ add-mul N M u in
    let e7 : w * D ≡ D * w = mul_comm w D in
    omega arith

half_of : (s u w : ℕ) → s * 2 ≤ u * 2 + w * 2 → s ≤ u + w
half_of s u w h = omega arith

split : (N D : ℕ) → N ≤ D → D ≡ N + (D - N)
split N D h = omega arith

room : (N D A : ℕ) → 0 < D → N ≤ D → N * U ≡ A * D → A + grid binary32 (D - N) D ≤ U + 2 ^ 125
room N D A p h v =
    let n = (D - N) * U in
    let k = drop 24 n D in
    let few : k ≤ 126 =
    sub_few (size (n / D)) (size-le (n / D) 150 ((div-lt_iff_lt-mul p).1 (lt_of_le_of_lt (le_trans (mul-le-mul_right U (sub-le D N)) (le_of_eq (mul_comm D U))) (mul-lt-mul_of_pos_right (lit< {m = U} {n = 2 ^ 150} tt) p)))) in
    let t = total N (D - N) D A (grid binary32 (D - N) D) (kept 24 n D) U (2 ^ k) (split N D h) v (half_up n (D * 2 ^ k) (mul-pos p (pow_pos k))) refl in
    half_of (A + grid binary32 (D - N) D) U (2 ^ 125) (le_trans (le_of_mul-le-mul_right t p) (add-le-add (le_refl (U * 2)) (pow_mono few)))
  where
    sub_few : (z : ℕ) → z ≤ 150 → z - 24 ≤ 126
    sub_few z h = omega arith

at_most : (N D A : ℕ) → 0 < D → N ≤ D → N * U ≡ A * D → A ≤ U
at_most N D A p h v = le_of_mul-le-mul_right (le_trans (le_of_eq (sym v)) (le_trans (mul-le-mul_right U h) (le_of_eq (mul_comm D U)))) p

frac : (x : Float) → Says x → num x ≤ den x
frac nan p = absurd p
frac (inf s) p = absurd p
frac (fin s m e) p = p.0

-- 1 and half a last digit rounds to 1: the tie goes to the even one
one_and_half : round binary32 false (U + 2 ^ 125) U ≡ one
unfolding round
one_and_half = refl

minus_one : Upto one (fin true 0 (pos 0))
unfolding le lt eq
minus_one = tt

-- document 01's paint: m * old + a * colour, m = 1 - a
pub paint-within : (a old colour : Float) → T (fits binary32 a) → T (within a) → T (within old) → T (within colour)
    → T (within (add binary32 (mul binary32 (sub binary32 one a) old) (mul binary32 a colour)))
unfolding within
paint-within a old colour F ha ho hc =
    let p = says a ha in
    let i = unit_of a F p in
    let A = i.0 * 2 ^ i.1 in
    let m = sub binary32 one a in
    let pm = says m (sub_within binary32 a ha) in
    let k = unit_of m (sub-fits binary32 one a) pm in
    let B = k.0 * 2 ^ k.1 in
    let G = grid binary32 (den a - num a) (den a) in
    let r : A + G ≤ U + 2 ^ 125 = room (num a) (den a) A (den_pos a) (frac a p) i.3 in
    let v : HasValue m false G U =
    subst (λ (w : Float). HasValue w false G U) (sym (sub_is a p)) (round_val binary32 (den a - num a) (den a) (lt_of_le_of_lt (le_trans (le-add_left G A) r) (lit< tt))) in
    let same : B ≡ G = eq_of_mul-eq-mul_right (den m) (den_pos m) B G (sym k.3 ∙ value→cross m G U v) in
    let s : B + A ≤ U + 2 ^ 125 = le_trans (le_of_eq (add_comm B A)) (subst (λ (z : ℕ). A + z ≤ U + 2 ^ 125) (sym same) r) in
    add_upto binary32 (U + 2 ^ 125) U (pow_pos 149) one one_and_half minus_one (mul binary32 m old) (mul binary32 a colour) B A
    (bound k.0 k.1 k.2 (at_most (num m) (den m) B (den_pos m) (frac m pm) k.3) m old k.3 pm (says old ho))
    (bound i.0 i.1 i.2 (at_most (num a) (den a) A (den_pos a) (frac a p) i.3) a colour i.3 p (says colour hc))
    s
