-- Laws: what a format holds, as a whole number of its smallest units: rounding leaves it as it is, and two such values are equal where they are the same number.
use Rattle.std.specs.Prelude.{◌≡◌, ℕ, zero, suc, ◌+◌, ◌-◌, ◌*◌, ◌%◌, ◌^◌, ◌<◌, ◌≤◌, Bool, ◌&&◌, T, ℤ, pos, negsuc, from_bits, nat_eq, nat_le, nat_lt, refl, Float}
use Rattle.std.proofs.Math.Path.{sym, ap}
use Rattle.std.proofs.Common.{◌∙◌, le_of_suc-le-suc, lt_irrefl, lt_of_not-le, lt_of_le_of_lt, lt_of_lt_of_le, le_of_eq, lt_of_mul-lt-mul_right, mul_assoc, mul-one, mul_right_comm, mul-lt-mul_of_pos_right, add_comm, leb→le, ltb→lt, pow-add}
use Rattle.std.proofs.Math.Nat.{eq_of_mul-eq-mul_right, zero-mul}
use Rattle.std.proofs.Math.Pow.{pow-lt, pow_pos}
use Rattle.std.specs.Float.{nan, inf, fin, Format}
use Rattle.std.specs.Float.Ieee.{prec, emax, low, up, down, round, fits}
use Rattle.std.specs.Float.Ieee.Bits.{of_bits-to_bits}
use Rattle.std.specs.Float.Ieee.Digits.{back}
use Rattle.std.specs.Float.Ieee.Exact.{HasValue, round_exact}
use Rattle.std.specs.Float.Ieee.Fits.{and_l, and_r, down_pos, round-fits}
use Rattle.float.specs.Rounding.{to_bits-value}

pub value_unique : (f : Format) (x y : Float) (s : Bool) (a : ℕ) → T (fits f x) → T (fits f y) → HasValue x s a (2 ^ low f) → HasValue y s a (2 ^ low f) → x ≡ y
value_unique f x y s a p q h k = sym (of_bits-to_bits f x p) ∙ ap (from_bits f) (to_bits-value f x s a h ∙ sym (to_bits-value f y s a k)) ∙ of_bits-to_bits f y q

pow_back : (a l : ℕ) → 2 ^ a ≤ 2 ^ l → a ≤ l
pow_back a l h = le_of_suc-le-suc (lt_of_not-le (λ (g : suc l ≤ a). lt_irrefl (2 ^ l) (lt_of_lt_of_le (pow-lt g) h)))

module _ (f : Format) where
  -- m * 2 ^ e is q * 2 ^ j units, q a significand's digits, and below the infinity
  pub record Placed (m : ℕ) (e : ℤ) : Type 0 where
    pub q : ℕ
    pub j : ℕ
    pub few : q < 2 ^ prec f
    pub same : m * up e * 2 ^ low f ≡ q * 2 ^ j * down e
    pub under : q * 2 ^ j < 2 ^ (low f + suc (emax f))

  under_of : (m : ℕ) (e : ℤ) (n : ℕ) → m * up e * 2 ^ low f ≡ n * down e → m * up e < 2 ^ suc (emax f) * down e → n < 2 ^ (low f + suc (emax f))
  under_of m e n v l =
      lt_of_lt_of_le
      (lt_of_mul-lt-mul_right (down e)
      (lt_of_le_of_lt (le_of_eq (sym v)) (lt_of_lt_of_le (mul-lt-mul_of_pos_right l (pow_pos (low f))) (le_of_eq (mul_right_comm (2 ^ suc (emax f)) (down e) (2 ^ low f))))))
      (le_of_eq (sym (pow-add 2 (suc (emax f)) (low f)) ∙ ap (λ (z : ℕ). 2 ^ z) (add_comm (suc (emax f)) (low f))))

  shifted : (m k : ℕ) → m * 2 ^ k * 2 ^ low f ≡ m * 2 ^ (k + low f) * 1
  shifted m k = mul_assoc m (2 ^ k) (2 ^ low f) ∙ ap (λ (z : ℕ). m * z) (sym (pow-add 2 k (low f))) ∙ sym (mul-one (m * 2 ^ (k + low f)))

  shifted_down : (m k : ℕ) → suc k ≤ low f → m * 1 * 2 ^ low f ≡ m * 2 ^ (low f - suc k) * 2 ^ suc k
  shifted_down m k l =
      ap (λ (z : ℕ). z * 2 ^ low f) (mul-one m)
      ∙ ap (λ (z : ℕ). m * z) (ap (λ (z : ℕ). 2 ^ z) (sym (back (low f) (suc k) l)) ∙ pow-add 2 (low f - suc k) (suc k))
      ∙ sym (mul_assoc m (2 ^ (low f - suc k)) (2 ^ suc k))

  at : (m : ℕ) (e : ℤ) → m < 2 ^ prec f → down e ≤ 2 ^ low f → m * up e < 2 ^ suc (emax f) * down e → Placed m e
  at m (pos k) b h l = record { q = m; j = k + low f; few = b; same = shifted m k; under = under_of m (pos k) (m * 2 ^ (k + low f)) (shifted m k) l }
  at m (negsuc k) b h l =
      let d : suc k ≤ low f = pow_back (suc k) (low f) h in
      record { q = m; j = low f - suc k; few = b; same = shifted_down m k d; under = under_of m (negsuc k) (m * 2 ^ (low f - suc k)) (shifted_down m k d) l }

  pub placed : (s : Bool) (m : ℕ) (e : ℤ) → T (fits f (fin s m e)) → Placed m e
  unfolding fits
  placed s zero e h =
      record { q = 0; j = 0; few = pow_pos (prec f); same = ap (λ (z : ℕ). z * 2 ^ low f) (zero-mul (up e)) ∙ zero-mul (2 ^ low f) ∙ sym (zero-mul (down e)); under = pow_pos (low f + suc (emax f)) }
  placed s (suc m) e h =
      let A = nat_eq (suc m % 2) 1 in
      let B = nat_lt (suc m) (2 ^ prec f) in
      let C = nat_le (down e) (2 ^ low f) in
      let D = nat_lt (suc m * up e) (2 ^ suc (emax f) * down e) in
      at (suc m) e
      (ltb→lt (suc m) (2 ^ prec f) (and_r A B (and_l (A && B) C (and_l (A && B && C) D h))))
      (leb→le (down e) (2 ^ low f) (and_r (A && B) C (and_l (A && B && C) D h)))
      (ltb→lt (suc m * up e) (2 ^ suc (emax f) * down e) (and_r (A && B && C) D h))

  -- a value of other units
  rescaled : (x : Float) (s : Bool) (m : ℕ) (e : ℤ) (n : ℕ) → m * up e * 2 ^ low f ≡ n * down e → HasValue x s (m * up e) (down e) → HasValue x s n (2 ^ low f)
  rescaled nan s m e n v w = w
  rescaled (inf t) s m e n v w = w
  rescaled (fin t k d) s m e n v w = (
    w.0,
    eq_of_mul-eq-mul_right (down e) (down_pos e) (k * up d * 2 ^ low f) (n * down d)
        (mul_right_comm (k * up d) (2 ^ low f) (down e)
        ∙ ap (λ (z : ℕ). z * 2 ^ low f) w.1
        ∙ mul_right_comm (m * up e) (down d) (2 ^ low f)
        ∙ ap (λ (z : ℕ). z * down d) v
        ∙ mul_right_comm n (down e) (down d)),
  )

  -- what the format holds is its own rounding
  pub round_own : (s : Bool) (m : ℕ) (e : ℤ) → T (fits f (fin s m e)) → round f s (m * up e) (down e) ≡ fin s m e
  round_own s m e h =
      let p = placed s m e h in
      let r = round f s (m * up e) (down e) in
      value_unique f r (fin s m e) s (p.q * 2 ^ p.j) (round-fits f s (m * up e) (down e)) h
      (rescaled r s m e (p.q * 2 ^ p.j) p.same (round_exact f s (m * up e) (down e) p.q p.j (down_pos e) p.few p.under p.same))
      (refl, p.same)
