-- Laws: division rounded down (`floor_z`) and up (`ceil_z`), with the laws that pin them, and how they come from `/` and `%` (`quot_z`, `rem_z`).
use Rattle.std.specs.Prelude.{◌≡◌, refl, ◌⊎◌, ℕ, zero, suc, pred, ◌+◌, ◌*◌, ◌-◌, ◌/◌, ◌%◌, ◌^◌, ◌≤◌, ◌<◌, ℤ, pos, negsuc, neg_ℤ, ◌+ℤ◌, ◌-ℤ◌, ◌*ℤ◌, nat_abs, ◌≤ℤ◌, ◌<ℤ◌}
use Rattle.std.proofs.Common.{sym, ◌∙◌, ap, subst, inl, inr, ⊎_elim, zero-le, arith, div-add-mod', mod-lt, div-mul-le_self, div-le_self, lt_of_le_of_lt, lt_of_lt_of_le, le_refl, le_of_lt, le_of_suc-le-suc}
use Rattle.std.proofs.Math.Nat.{lt-div-mul-add, div-eq_of_lt-le, zero-div, zero-mod}
use Rattle.std.specs.Int.Signed.{mag, quot_z, rem_z, shr_z, <ℤ-≤ℤ_trans}
use Rattle.std.specs.Int.{Width, w32, w64}
use mir.Val.{SFits, hbits}
use Rattle.laws.specs.Quotient.{floor_z, ceil_z}
use Rattle.laws.specs.Parts.{P, N, zord, le→, lt→, eq→, le←, lt←, eq←, of+, of-, of*, one_zero, P-neg, N-neg}
use Rattle.laws.specs.Rep.{Rep, v, k, km, ◌⊕◌, ◌⊖◌, ◌⊗◌, ⊝, rep_eq, rep_le, rep_lt, eq_rep, le_rep, lt_rep}
use Rattle.laws.specs.Order.{*ℤ-cancel<, ≤ℤ-<ℤ-trans, ≤ℤ-antisym}
use Rattle.laws.specs.Fit.{of_mag, of_abs, fits-abs}

-- ---- the law of the shift: q * b ≤ a < (q + 1) * b
shr_lo : (a : ℤ) (b : ℕ) → 0 < b → (shr_z a b *ℤ pos b) ≤ℤ a
shr_lo (pos a) b h = rep_le (k (a / b) ⊗ k b) (k a) (omega (arith, div-mul-le_self a b))
shr_lo (negsuc a) b h = rep_le (km (a / b) ⊗ k b) (km a) (omega (arith, lt-div-mul-add {a = a} h))

shr_hi : (a : ℤ) (b : ℕ) → 0 < b → a <ℤ ((shr_z a b +ℤ pos 1) *ℤ pos b)
shr_hi (pos a) b h = rep_lt (k a) ((k (a / b) ⊕ k 1) ⊗ k b) (omega (arith, lt-div-mul-add {a = a} h))
shr_hi (negsuc a) b h = rep_lt (km a) ((km (a / b) ⊕ k 1) ⊗ k b) (omega (arith, div-mul-le_self a b))

-- q is a / b rounded down, b positive
pub record Floor (a b q : ℤ) : Type 0 where
  pub lo : (q *ℤ b) ≤ℤ a
  pub hi : a <ℤ ((q +ℤ pos 1) *ℤ b)

-- q is a / b rounded down, b negative
pub record Floor⁻ (a b q : ℤ) : Type 0 where
  pub hi : a ≤ℤ (q *ℤ b)
  pub lo : ((q +ℤ pos 1) *ℤ b) <ℤ a

pub floor_is : (a b : ℤ) → pos 0 <ℤ b → Floor a b (floor_z a b)
floor_is a (pos b) h = record { lo = shr_lo a b (omega (arith, zord)); hi = shr_hi a b (omega (arith, zord)) }
floor_is a (negsuc b) h = absurd h.lt

pub floor_unique : (a b q r : ℤ) → pos 0 <ℤ b → Floor a b q → Floor a b r → q ≡ r
floor_unique a b q r h f g =
    let u : q <ℤ (r +ℤ pos 1) = *ℤ-cancel< b h (≤ℤ-<ℤ-trans f.lo g.hi) in
    let w : r <ℤ (q +ℤ pos 1) = *ℤ-cancel< b h (≤ℤ-<ℤ-trans g.lo f.hi) in
    omega (arith, zord, of+ r (pos 1), of+ q (pos 1))

pub is_floor : (a b q : ℤ) → pos 0 <ℤ b → Floor a b q → q ≡ floor_z a b
is_floor a b q h f = floor_unique a b q (floor_z a b) h f (floor_is a b h)

-- b negative: a / b is (−a) / (−b)
turn : (a q : ℤ) (b : ℕ) → Floor (neg_ℤ a) (pos (suc b)) q → Floor⁻ a (negsuc b) q
turn a q b f = record {
  hi = rep_le (v a) (v q ⊗ km b) (omega (arith, le_rep (v q ⊗ k (suc b)) (⊝ (v a)) f.lo));
  lo = rep_lt ((v q ⊕ k 1) ⊗ km b) (v a) (omega (arith, lt_rep (⊝ (v a)) ((v q ⊕ k 1) ⊗ k (suc b)) f.hi));
}

unturn : (a q : ℤ) (b : ℕ) → Floor⁻ a (negsuc b) q → Floor (neg_ℤ a) (pos (suc b)) q
unturn a q b f = record {
  lo = rep_le (v q ⊗ k (suc b)) (⊝ (v a)) (omega (arith, le_rep (v a) (v q ⊗ km b) f.hi));
  hi = rep_lt (⊝ (v a)) ((v q ⊕ k 1) ⊗ k (suc b)) (omega (arith, lt_rep ((v q ⊕ k 1) ⊗ km b) (v a) f.lo));
}

pub floor_is⁻ : (a b : ℤ) → b <ℤ pos 0 → Floor⁻ a b (floor_z a b)
floor_is⁻ a (pos b) h = absurd (omega (arith, zord))
floor_is⁻ a (negsuc b) h = turn a (floor_z a (negsuc b)) b (floor_is (neg_ℤ a) (pos (suc b)) (omega (arith, zord)))

pub is_floor⁻ : (a b q : ℤ) → b <ℤ pos 0 → Floor⁻ a b q → q ≡ floor_z a b
is_floor⁻ a (pos b) q h f = absurd (omega (arith, zord))
is_floor⁻ a (negsuc b) q h f = is_floor (neg_ℤ a) (pos (suc b)) q (omega (arith, zord)) (unturn a q b f)

-- ---- the quotient and the remainder that the machine has
-- a + 1 is no multiple of b: the quotient of a is the same
same_quot : (a b : ℕ) → 0 < b → 0 < suc a % b → suc a / b ≡ a / b
same_quot a b h r = sym (div-eq_of_lt-le b (omega (arith, div-add-mod' (suc a) b)) (omega (arith, div-add-mod' (suc a) b, mod-lt (suc a) h)))

-- it is one: one less
less_quot : (a b : ℕ) → 0 < b → suc a % b ≡ 0 → suc a / b ≡ suc (a / b)
less_quot a b h r = by (suc a / b) refl
  where
    by : (q : ℕ) → suc a / b ≡ q → suc a / b ≡ suc (a / b)
    by zero e = absurd (omega (arith, div-add-mod' (suc a) b, ap (λ (t : ℕ). t * b) e))
    by (suc q) e = e ∙ ap suc (sym (div-eq_of_lt-le b (omega (arith, div-add-mod' (suc a) b, ap (λ (t : ℕ). t * b) e)) (omega (arith, div-add-mod' (suc a) b, ap (λ (t : ℕ). t * b) e))))

L0 : (a b : ℕ) → 0 < b → suc a % b ≡ 0 → neg_ℤ (pos (suc a / b)) ≡ negsuc (a / b)
L0 a b h e = ap (λ (t : ℕ). neg_ℤ (pos t)) (less_quot a b h e)

L1 : (a b : ℕ) → 0 < b → 0 < suc a % b → neg_ℤ (pos (suc a / b)) -ℤ pos 1 ≡ negsuc (a / b)
L1 a b h r = ap (λ (t : ℕ). neg_ℤ (pos t) -ℤ pos 1) (same_quot a b h r) ∙ rep_eq (⊝ (k (a / b)) ⊖ k 1) (km (a / b)) (omega arith)

-- what `div_floor` does with the quotient and the remainder
pub floor_exact : (a b : ℤ) → (b ≡ pos 0 → ⊥) → rem_z a b ≡ pos 0 → quot_z a b ≡ floor_z a b
floor_exact (pos a) (pos b) h e = refl
floor_exact (pos zero) (negsuc b) h e = ap (λ (t : ℕ). neg_ℤ (pos t)) (z b) ∙ ap pos (sym (z b))
  where
    z : (b : ℕ) → zero / suc b ≡ 0
    z b = zero-div (suc b)
floor_exact (pos (suc a)) (negsuc b) h e = L0 a (suc b) (omega arith) (omega (arith, zord, e))
floor_exact (negsuc a) (pos b) h e = L0 a b (nz b h) (rem0 (suc a % b) e)
  where
    nz : (b : ℕ) → (pos b ≡ pos 0 → ⊥) → 0 < b
    nz zero h = absurd (h refl)
    nz (suc b) h = omega arith

    rem0 : (n : ℕ) → neg_ℤ (pos n) ≡ pos 0 → n ≡ 0
    rem0 n e = omega (arith, zord, P-neg (pos n), N-neg (pos n))
floor_exact (negsuc a) (negsuc b) h e = refl

pub floor_same : (a b : ℤ) → rem_z a b <ℤ pos 0 → b <ℤ pos 0 → quot_z a b ≡ floor_z a b
floor_same (pos a) b h l = absurd (omega (arith, zord))
floor_same (negsuc a) (pos b) h l = absurd (omega (arith, zord))
floor_same (negsuc a) (negsuc b) h l = refl

pub floor_same⁺ : (a b : ℤ) → (rem_z a b ≡ pos 0 → ⊥) → pos 0 ≤ℤ rem_z a b → pos 0 ≤ℤ b → quot_z a b ≡ floor_z a b
floor_same⁺ (pos a) (pos b) n h l = refl
floor_same⁺ (pos a) (negsuc b) n h l = absurd l.le
floor_same⁺ (negsuc a) b n h l = absurd (n (omega (arith, zord, P-neg (pos (suc a % nat_abs b)), N-neg (pos (suc a % nat_abs b)))))

pub floor_less : (a b : ℤ) → (b ≡ pos 0 → ⊥) → rem_z a b <ℤ pos 0 → pos 0 ≤ℤ b → quot_z a b -ℤ pos 1 ≡ floor_z a b
floor_less (pos a) b n h l = absurd (omega (arith, zord))
floor_less (negsuc a) (pos zero) n h l = absurd (n refl)
floor_less (negsuc a) (pos (suc b)) n h l = L1 a (suc b) (omega arith) (omega (arith, zord, P-neg (pos (suc a % suc b)), N-neg (pos (suc a % suc b))))
floor_less (negsuc a) (negsuc b) n h l = absurd l.le

pub floor_less⁺ : (a b : ℤ) → (rem_z a b ≡ pos 0 → ⊥) → pos 0 ≤ℤ rem_z a b → b <ℤ pos 0 → quot_z a b -ℤ pos 1 ≡ floor_z a b
floor_less⁺ (pos zero) (negsuc b) n h l = absurd (n (ap pos (zero-mod (suc b))))
floor_less⁺ (pos (suc a)) (negsuc b) n h l = L1 a (suc b) (omega arith) (by (suc a % suc b) n)
  where
    by : (m : ℕ) → (pos m ≡ pos 0 → ⊥) → 0 < m
    by zero h = absurd (h refl)
    by (suc m) h = omega arith
floor_less⁺ (pos a) (pos b) n h l = absurd (omega (arith, zord))
floor_less⁺ (negsuc a) b n h l = absurd (n (omega (arith, zord, P-neg (pos (suc a % nat_abs b)), N-neg (pos (suc a % nat_abs b)))))

-- the floor fits where the quotient does
pub floor_fits : {w : Width} (a b : ℤ) → SFits w a → SFits w (quot_z a b) → SFits w (floor_z a b)
floor_fits (pos a) (pos b) f g = g
floor_fits (pos zero) (negsuc b) f g = record { sfits = lt_of_le_of_lt (div-le_self zero (suc b)) f.sfits }
floor_fits (pos (suc a)) (negsuc b) f g = record { sfits = lt_of_le_of_lt (div-le_self a (suc b)) (lt_of_lt_of_le (lt_of_lt_of_le (omega arith) (le_refl (suc a))) (le_of_lt f.sfits)) }
floor_fits (negsuc a) (pos b) f g = record { sfits = lt_of_le_of_lt (div-le_self a b) f.sfits }
floor_fits (negsuc a) (negsuc b) f g = g

-- and the quotient does, but for the least number by −1
pub quot_fits : {w : Width} (a b : ℤ) → SFits w a → pos 0 ≤ℤ b → SFits w (quot_z a b)
quot_fits (pos a) (pos b) f h = record { sfits = lt_of_le_of_lt (div-le_self a b) f.sfits }
quot_fits a (negsuc b) f h = absurd h.le
quot_fits {w} (negsuc a) (pos b) f h = record { sfits = by (suc a / b) (div-le_self (suc a) b) }
  where
    by : (q : ℕ) → q ≤ suc a → mag (neg_ℤ (pos q)) < 2 ^ hbits w
    by zero l = lt_of_le_of_lt zero-le f.sfits
    by (suc q) l = lt_of_le_of_lt (le_of_suc-le-suc l) f.sfits

-- at a wider type every quotient fits
pub quot_fits_wide : (a b : ℤ) → SFits w32 a → SFits w64 (quot_z a b)
quot_fits_wide a b f = fits-abs (quot_z a b) (lt_of_le_of_lt (abs_quot a b) (omega (arith, of_abs a, of_mag a)))
  where
    abs_neg : (n : ℕ) → nat_abs (neg_ℤ (pos n)) ≡ n
    abs_neg zero = refl
    abs_neg (suc n) = refl

    abs_quot : (a b : ℤ) → nat_abs (quot_z a b) ≤ nat_abs a
    abs_quot (pos a) (pos b) = div-le_self a b
    abs_quot (pos a) (negsuc b) = omega (arith, div-le_self a (suc b), abs_neg (a / suc b))
    abs_quot (negsuc a) (pos b) = omega (arith, div-le_self (suc a) b, abs_neg (suc a / b))
    abs_quot (negsuc a) (negsuc b) = div-le_self (suc a) (suc b)

-- ---- the ceiling
-- q is a / b rounded up, b positive
pub record Ceil (a b q : ℤ) : Type 0 where
  pub hi : a ≤ℤ (q *ℤ b)
  pub lo : ((q -ℤ pos 1) *ℤ b) <ℤ a

pub ceil_is : (a b : ℤ) → pos 0 <ℤ b → Ceil a b (ceil_z a b)
ceil_is a b h = let f = floor_is (neg_ℤ a) b h in let q = floor_z (neg_ℤ a) b in record {
  hi = rep_le (v a) (⊝ (v q) ⊗ v b) (omega (arith, le_rep (v q ⊗ v b) (⊝ (v a)) f.lo));
  lo = rep_lt ((⊝ (v q) ⊖ k 1) ⊗ v b) (v a) (omega (arith, lt_rep (⊝ (v a)) ((v q ⊕ k 1) ⊗ v b) f.hi));
}

pub is_ceil : (a b q : ℤ) → pos 0 <ℤ b → Ceil a b q → q ≡ ceil_z a b
is_ceil a b q h f =
    let g = ceil_is a b h in
    let r = ceil_z a b in
    let u : (q -ℤ pos 1) <ℤ r = *ℤ-cancel< b h (<ℤ-≤ℤ_trans f.lo g.hi) in
    let w : (r -ℤ pos 1) <ℤ q = *ℤ-cancel< b h (<ℤ-≤ℤ_trans g.lo f.hi) in
    eq← q r (omega (arith, lt→ (q -ℤ pos 1) r u, lt→ (r -ℤ pos 1) q w, of- r (pos 1), of- q (pos 1)))

-- q is a / b rounded up, b negative
pub record Ceil⁻ (a b q : ℤ) : Type 0 where
  pub lo : (q *ℤ b) ≤ℤ a
  pub hi : a <ℤ ((q -ℤ pos 1) *ℤ b)

pub ceil_is⁻ : (a b : ℤ) → b <ℤ pos 0 → Ceil⁻ a b (ceil_z a b)
ceil_is⁻ a b h = let f = floor_is⁻ (neg_ℤ a) b h in let q = floor_z (neg_ℤ a) b in record {
  lo = rep_le (⊝ (v q) ⊗ v b) (v a) (omega (arith, le_rep (⊝ (v a)) (v q ⊗ v b) f.hi));
  hi = rep_lt (v a) ((⊝ (v q) ⊖ k 1) ⊗ v b) (omega (arith, lt_rep ((v q ⊕ k 1) ⊗ v b) (⊝ (v a)) f.lo));
}

nz : (b : ℕ) → (pos b ≡ pos 0 → ⊥) → 0 < b
nz zero h = absurd (h refl)
nz (suc b) h = omega arith

rem0 : (n : ℕ) → neg_ℤ (pos n) ≡ pos 0 → n ≡ 0
rem0 n e = omega (arith, zord, P-neg (pos n), N-neg (pos n))

rem+ : (n : ℕ) → (neg_ℤ (pos n) ≡ pos 0 → ⊥) → 0 < n
rem+ zero h = absurd (h refl)
rem+ (suc n) h = omega arith

zero_quot : (b : ℕ) → pos (0 / b) ≡ neg_ℤ (pos (0 / b))
zero_quot b = ap pos (zero-div b) ∙ sym (ap (λ (t : ℕ). neg_ℤ (pos t)) (zero-div b))

pub ceil_exact : (a b : ℤ) → (b ≡ pos 0 → ⊥) → rem_z a b ≡ pos 0 → floor_z a b ≡ ceil_z a b
ceil_exact (pos zero) (pos b) h e = zero_quot b
ceil_exact (pos (suc a)) (pos b) h e = ap pos (less_quot a b (nz b h) (omega (arith, zord, e)))
ceil_exact (pos zero) (negsuc b) h e = zero_quot (suc b)
ceil_exact (pos (suc a)) (negsuc b) h e = sym (L0 a (suc b) (omega arith) (omega (arith, zord, e)))
ceil_exact (negsuc a) (pos b) h e = sym (L0 a b (nz b h) (rem0 (suc a % b) e))
ceil_exact (negsuc a) (negsuc b) h e = ap pos (less_quot a (suc b) (omega arith) (rem0 (suc a % suc b) e))

one_more : (q r : ℕ) → q ≡ r → pos q +ℤ pos 1 ≡ pos (suc r)
one_more q r e = ap pos (omega arith)

back : (a b : ℕ) → 0 < b → 0 < suc a % b → negsuc (a / b) +ℤ pos 1 ≡ neg_ℤ (pos (suc a / b))
back a b h r = ap (λ (z : ℤ). z +ℤ pos 1) (sym (L1 a b h r)) ∙ rep_eq ((⊝ (k (suc a / b)) ⊖ k 1) ⊕ k 1) (⊝ (k (suc a / b))) (omega arith)

pub ceil_more : (a b : ℤ) → (b ≡ pos 0 → ⊥) → (rem_z a b ≡ pos 0 → ⊥) → floor_z a b +ℤ pos 1 ≡ ceil_z a b
ceil_more (pos zero) (pos b) h n = absurd (n (ap pos (zero-mod b)))
ceil_more (pos (suc a)) (pos b) h n = one_more (suc a / b) (a / b) (same_quot a b (nz b h) (nz (suc a % b) n))
ceil_more (pos zero) (negsuc b) h n = absurd (n (ap pos (zero-mod (suc b))))
ceil_more (pos (suc a)) (negsuc b) h n = back a (suc b) (omega arith) (nz (suc a % suc b) n)
ceil_more (negsuc a) (pos b) h n = back a b (nz b h) (rem+ (suc a % b) n)
ceil_more (negsuc a) (negsuc b) h n = one_more (suc a / suc b) (a / suc b) (same_quot a (suc b) (omega arith) (rem+ (suc a % suc b) n))

-- a remainder, so |b| is 2 or more: the ceiling fits
pub ceil_fits : {w : Width} (a b : ℤ) → SFits w a → (b ≡ pos 0 → ⊥) → (rem_z a b ≡ pos 0 → ⊥) → 1 < 2 ^ hbits w → SFits w (ceil_z a b)
ceil_fits (pos zero) (pos b) f h n w = absurd (n (ap pos (zero-mod b)))
ceil_fits {w} (pos (suc a)) (pos b) f h n o = record { sfits = lt_of_le_of_lt (omega (arith, div-le_self a b)) f.sfits }
ceil_fits (pos zero) (negsuc b) f h n w = absurd (n (ap pos (zero-mod (suc b))))
ceil_fits (pos (suc a)) (negsuc b) f h n o = record { sfits = small (suc a / suc b) (div-le_self (suc a) (suc b)) f.sfits }
  where
    small : (q : ℕ) {m H : ℕ} → q ≤ m → m < H → mag (neg_ℤ (pos q)) < H
    small zero l g = omega arith
    small (suc q) l g = omega arith
ceil_fits (negsuc a) (pos b) f h n o = record { sfits = small (suc a / b) (div-le_self (suc a) b) f.sfits }
  where
    small : (q : ℕ) {m H : ℕ} → q ≤ suc m → m < H → mag (neg_ℤ (pos q)) < H
    small zero l g = omega arith
    small (suc q) l g = omega arith
ceil_fits {w} (negsuc a) (negsuc b) f h n o = record { sfits = big (a / suc b) (rem+ (suc a % suc b) n) (same_quot a (suc b) (omega arith) (rem+ (suc a % suc b) n)) }
  where
    big : (q : ℕ) → 0 < suc a % suc b → suc a / suc b ≡ q → suc q < 2 ^ hbits w
    big zero r e = o
    big (suc q) r e = omega (arith, f.sfits, div-add-mod' (suc a) (suc b), mod-lt (suc a) {m = suc b} (omega arith), ap (λ (t : ℕ). t * suc b) e, mul-pos q b (suc a % suc b) r (mod-lt (suc a) {m = suc b} (omega arith)))
      where
        mul-pos : (q b r : ℕ) → 0 < r → r < suc b → q + 1 ≤ suc q * b
        mul-pos q zero r h l = absurd (omega arith)
        mul-pos q (suc b) r h l = omega arith
