-- Laws: the steps over a number's digits, as a loop takes them, and over the digits of a test.
use Rattle.std.specs.Prelude.{◌≡◌, ℕ, zero, suc, ◌+◌, ◌-◌, ◌*◌, ◌/◌, ◌%◌, ◌^◌, ◌<◌, ◌≤◌, min, Bool, true, false, cond, ◌==◌, bit_and}
use Rattle.std.proofs.Math.Path.{refl, sym, ap, ap₂, subst}
use Rattle.std.proofs.Common.{◌∙◌, mul_comm, mul_assoc, shr-shr}
use Rattle.std.proofs.Math.Nat.{pow-suc, zero-div, div-div-eq-div-mul}
use native.Mathlib.Omega.{arith}
use Rattle.std.specs.Int.Bits.{and_step, and_self}
use Rattle.std.proofs.lemmas.Nat.{and_shr, and_mod, and_le_l}
use Rattle.std.specs.Int.Count.{count_trailing_zeros, under}
use Rattle.laws.specs.Ends.{bit}
use Rattle.laws.specs.RowFold.{rows_from}
use Rattle.laws.specs.RowFoldLaws.{rows_none}
use Rattle.stamp.specs.Stamp.{digits_from, stamp_of}
use Rattle.stamp.specs.Digits.{without_first, digit_steps, row_steps}
use Rattle.stamp.specs.StampLaws.{digits_below}

-- ---- the first digit that is 1, and the number without it
without-odd : (b : ℕ) → b % 2 ≡ 1 → without_first b ≡ b / 2 * 2
without-odd b e =
    let f : (b - 1) / 2 ≡ b / 2 = omega (arith, e) in
    let g : (b - 1) % 2 ≡ 0 = omega (arith, e) in
    let z : b / 2 * 2 + 0 ≡ b / 2 * 2 = omega arith in
    and_step b (b - 1)
    ∙ ap (λ (c : ℕ). bit_and (b / 2) c * 2 + min (b % 2) ((b - 1) % 2)) f
    ∙ ap₂ (λ (p q : ℕ). bit_and (b / 2) (b / 2) * 2 + min p q) e g
    ∙ ap (λ (c : ℕ). c * 2 + 0) (and_self (b / 2))
    ∙ z

without-even : (b : ℕ) → 0 < b → b % 2 ≡ 0 → without_first b ≡ without_first (b / 2) * 2
without-even b p e =
    let f : (b - 1) / 2 ≡ b / 2 - 1 = omega (arith, e) in
    let g : (b - 1) % 2 ≡ 1 = omega (arith, e) in
    let z : without_first (b / 2) * 2 + 0 ≡ without_first (b / 2) * 2 = omega arith in
    and_step b (b - 1)
    ∙ ap (λ (c : ℕ). bit_and (b / 2) c * 2 + min (b % 2) ((b - 1) % 2)) f
    ∙ ap₂ (λ (p q : ℕ). bit_and (b / 2) (b / 2 - 1) * 2 + min p q) e g
    ∙ z

-- its digits that are 1 are digits of b
pub without-digit : (b j : ℕ) → without_first b / 2 ^ j % 2 ≡ 1 → b / 2 ^ j % 2 ≡ 1
without-digit b j o =
    let e : without_first b / 2 ^ j % 2 ≡ bit_and (b / 2 ^ j % 2) ((b - 1) / 2 ^ j % 2) = ap (λ (c : ℕ). c % 2) (and_shr b (b - 1) j) ∙ and_mod (b / 2 ^ j) ((b - 1) / 2 ^ j) 1 in
    let l = and_le_l (b / 2 ^ j % 2) ((b - 1) / 2 ^ j % 2) in
    omega (arith, e, l, o)

twice_half : (c : ℕ) → c * 2 / 2 ≡ c
twice_half c = omega arith

twice_even : (c : ℕ) → c * 2 % 2 ≡ 0
twice_even c = omega arith

twice_zeros : (k c : ℕ) → count_trailing_zeros (suc k) (c * 2) ≡ suc (count_trailing_zeros k c)
unfolding count_trailing_zeros
twice_zeros k c = ap₂ (λ (d e : ℕ). under d (count_trailing_zeros k e)) (twice_even c) (twice_half c)

module _ {E : Type 0} (step : ℕ → E → E) where
  twice_steps : (i n c : ℕ) (s : E) → digit_steps step i (suc n) (c * 2) s ≡ digit_steps step (suc i) n c s
  unfolding digit_steps
  twice_steps i n c s = ap₂ (λ (d e : ℕ). digit_steps step (suc i) n e (cond (d == 1) (step i s) s)) (twice_even c) (twice_half c)

  -- digit z of b is the first that is 1; without it more zeros come first, and the steps are its step and the others
  pub record First (k n b i : ℕ) (s : E) (z : ℕ) : Type 0 where
    pub inside : z < n
    pub one : b / 2 ^ z % 2 ≡ 1
    pub later : suc z ≤ count_trailing_zeros k (without_first b)
    pub steps : digit_steps step i n b s ≡ digit_steps step i n (without_first b) (step (i + z) s)

  odd : (k n b i : ℕ) (s : E) → b % 2 ≡ 1 → First (suc k) (suc n) b i s 0
  unfolding digit_steps
  odd k n b i s e =
      let o : b / 2 ^ 0 ≡ b = omega arith in
      let j : i + 0 ≡ i = omega arith in record {
        inside = omega arith;
        one = rw o e;
        later = rw (without-odd b e, twice_zeros k (b / 2)) (omega arith);
        steps = rw (without-odd b e, twice_steps i n (b / 2) (step (i + 0) s), j, e) refl;
      }

  even : (k n b i : ℕ) (s : E) (z : ℕ) → 0 < b → b % 2 ≡ 0 → First k n (b / 2) (suc i) s z → First (suc k) (suc n) b i s (suc z)
  unfolding digit_steps
  even k n b i s z p e t =
      let q : suc z ≡ 1 + z = omega arith in
      let o : b / 2 ^ suc z ≡ b / 2 / 2 ^ z = ap (λ (k : ℕ). b / 2 ^ k) q ∙ sym (shr-shr b 1 z) in
      let j : i + suc z ≡ suc i + z = omega arith in record {
        inside = omega (arith, t.inside);
        one = rw o t.one;
        later = rw (without-even b p e, twice_zeros k (without_first (b / 2))) (omega (arith, t.later));
        steps = rw (without-even b p e, twice_steps i n (without_first (b / 2)) (step (i + suc z) s), j, e) t.steps;
      }

  pub first : (k n b i : ℕ) (s : E) → n ≤ k → b < 2 ^ n → 0 < b → First k n b i s (count_trailing_zeros k b)
  unfolding count_trailing_zeros
  first k zero b i s l h p = absurd (omega arith)
  first zero (suc n) b i s l h p = absurd (omega arith)
  first (suc k) (suc n) b i s l h p =
      let q = pow-suc 2 n in
      by (λ f. first k n (b / 2) (suc i) s (omega arith) (omega (arith, q)) f) (b % 2) refl
    where
      by : (0 < b / 2 → First k n (b / 2) (suc i) s (count_trailing_zeros k (b / 2))) → (d : ℕ) → b % 2 ≡ d → First (suc k) (suc n) b i s (under (b % 2) (count_trailing_zeros k (b / 2)))
      by rest zero e =
          subst (λ (d : ℕ). First (suc k) (suc n) b i s (under d (count_trailing_zeros k (b / 2)))) (sym e) (even k n b i s (count_trailing_zeros k (b / 2)) p e (rest (omega (arith, e, p))))
      by rest (suc zero) e = subst (λ (d : ℕ). First (suc k) (suc n) b i s (under d (count_trailing_zeros k (b / 2)))) (sym e) (odd k n b i s e)
      by rest (suc (suc d)) e = absurd (omega (arith, e))

  -- no digit is left
  pub steps_none : (i n : ℕ) (s : E) → digit_steps step i n 0 s ≡ s
  unfolding digit_steps
  steps_none i zero s = refl
  steps_none i (suc n) s = steps_none (suc i) n s

-- ---- the digits of a test
pub digits_even : (q : ℕ → Bool) (i n : ℕ) → digits_from q i (suc n) % 2 ≡ bit (q i)
unfolding digits_from
digits_even q i n = by (q i)
  where
    by : (b : Bool) → (bit b + 2 * digits_from q (suc i) n) % 2 ≡ bit b
    by true = omega arith
    by false = omega arith

pub digits_half : (q : ℕ → Bool) (i n : ℕ) → digits_from q i (suc n) / 2 ≡ digits_from q (suc i) n
unfolding digits_from
digits_half q i n = by (q i)
  where
    by : (b : Bool) → (bit b + 2 * digits_from q (suc i) n) / 2 ≡ digits_from q (suc i) n
    by true = omega arith
    by false = omega arith

-- the first of more steps
rows-first : {E : Type 0} (f : ℕ → E → E) (a k : ℕ) (s : E) → rows_from f (suc a) k (f a s) ≡ rows_from f a (suc k) s
unfolding rows_from
rows-first f a zero s = let e : a + 0 ≡ a = omega arith in rw e refl
rows-first f a (suc k) s = let e : suc a + k ≡ a + suc k = omega arith in rw e (ap (f (a + suc k)) (rows-first f a k s))

-- a step for each place at which the test holds
pub steps_test : {E : Type 0} (step : ℕ → E → E) (q : ℕ → Bool) (i n : ℕ) (s : E)
    → digit_steps step i n (digits_from q i n) s ≡ rows_from (λ j u. cond (q j) (step j u) u) i n s
unfolding digit_steps
steps_test step q i zero s = sym (rows_none (λ j u. cond (q j) (step j u) u) i s)
steps_test {E} step q i (suc n) s =
    ap₂ (λ (b d : ℕ). digit_steps step (suc i) n b (cond (d == 1) (step i s) s)) (digits_half q i n) (digits_even q i n)
    ∙ ap (digit_steps step (suc i) n (digits_from q (suc i) n)) (by (q i))
    ∙ steps_test step q (suc i) n (cond (q i) (step i s) s)
    ∙ rows-first (λ j u. cond (q j) (step j u) u) i n s
  where
    by : (b : Bool) → cond (bit b == 1) (step i s) s ≡ cond b (step i s) s
    by true = refl
    by false = refl

-- a digit that is 1 is a place at which the test holds
pub digit-test : (q : ℕ → Bool) (i n j : ℕ) → digits_from q i n / 2 ^ j % 2 ≡ 1 → (j < n) × (q (i + j) ≡ true)
unfolding digits_from
digit-test q i zero j e = let z = zero-div (2 ^ j) in absurd (omega (arith, z))
digit-test q i (suc n) zero e =
    let f : i + 0 ≡ i = omega arith in
    let g : digits_from q i (suc n) / 2 ^ 0 ≡ digits_from q i (suc n) = omega arith in
    (omega arith, ap q f ∙ by (q i) (sym (digits_even q i n) ∙ ap (λ (b : ℕ). b % 2) (sym g) ∙ e))
  where
    by : (b : Bool) → bit b ≡ 1 → b ≡ true
    by true e = refl
    by false e = absurd (omega arith)
digit-test q i (suc n) (suc j) e =
    let p : suc j ≡ 1 + j = omega arith in
    let o : digits_from q i (suc n) / 2 ^ suc j ≡ digits_from q (suc i) n / 2 ^ j =
    ap (λ (k : ℕ). digits_from q i (suc n) / 2 ^ k) p ∙ sym (shr-shr (digits_from q i (suc n)) 1 j) ∙ ap (λ (b : ℕ). b / 2 ^ j) (digits_half q i n) in
    let r = digit-test q (suc i) n j (sym (ap (λ (b : ℕ). b % 2) o) ∙ e) in
    let f : i + suc j ≡ suc i + j = omega arith in
    (omega (arith, r.0), ap q f ∙ r.1)

pub digit_is_lem : (q : ℕ → Bool) (i n j : ℕ) → j < n → digits_from q i n / 2 ^ j % 2 ≡ bit (q (i + j))
digit_is_lem q i zero j l = absurd (omega arith)
digit_is_lem q i (suc n) zero l =
    let f : i ≡ i + 0 = omega arith in
    let g : digits_from q i (suc n) / 2 ^ 0 ≡ digits_from q i (suc n) = omega arith in
    ap (λ (b : ℕ). b % 2) g ∙ digits_even q i n ∙ ap (λ (k : ℕ). bit (q k)) f
digit_is_lem q i (suc n) (suc j) l =
    let p : suc j ≡ 1 + j = omega arith in
    let f : suc i + j ≡ i + suc j = omega arith in
    ap (λ (k : ℕ). digits_from q i (suc n) / 2 ^ k % 2) p
    ∙ ap (λ (b : ℕ). b % 2) (sym (shr-shr (digits_from q i (suc n)) 1 j))
    ∙ ap (λ (b : ℕ). b / 2 ^ j % 2) (digits_half q i n)
    ∙ digit_is_lem q (suc i) n j (omega arith)
    ∙ ap (λ (k : ℕ). bit (q k)) f

-- some digits, and more behind them
pub digits_split : (q : ℕ → Bool) (i m n : ℕ) → digits_from q i (m + n) ≡ digits_from q i m + 2 ^ m * digits_from q (i + m) n
unfolding digits_from
digits_split q i zero n =
    let e : 0 + n ≡ n = omega arith in
    let f : i + 0 ≡ i = omega arith in
    rw (e, f) (omega arith)
digits_split q i (suc m) n =
    let e : suc m + n ≡ suc (m + n) = omega arith in
    let f : suc i + m ≡ i + suc m = omega arith in
    let g : 2 ^ suc m ≡ 2 * 2 ^ m = pow-suc 2 m ∙ mul_comm (2 ^ m) 2 in
    let o : 2 * 2 ^ m * digits_from q (i + suc m) n ≡ 2 * (2 ^ m * digits_from q (i + suc m) n) = mul_assoc 2 (2 ^ m) (digits_from q (i + suc m) n) in
    ap (digits_from q i) e
    ∙ ap (λ (b : ℕ). bit (q i) + 2 * b) (digits_split q (suc i) m n ∙ ap (λ (k : ℕ). digits_from q (suc i) m + 2 ^ m * digits_from q k n) f)
    ∙ rw (g, o) (omega arith)

-- a row of eight
pub digits_row : (q : ℕ → Bool) (i n : ℕ) → digits_from q i (8 + n) % 256 ≡ digits_from q i 8
digits_row q i n = let e = digits_split q i 8 n in let l : digits_from q i 8 < 256 = digits_below q i 8 in omega arith

pub digits_rows : (q : ℕ → Bool) (i n : ℕ) → digits_from q i (8 + n) / 256 ≡ digits_from q (i + 8) n
digits_rows q i n = let e = digits_split q i 8 n in let l : digits_from q i 8 < 256 = digits_below q i 8 in omega arith

-- row k of some
pub digits_row_at : (q : ℕ → Bool) (i n k : ℕ) → k < n → digits_from q i (n * 8) / 256 ^ k % 256 ≡ digits_from q (i + k * 8) 8
digits_row_at q i zero k l = absurd (omega arith)
digits_row_at q i (suc n) zero l =
    let e : suc n * 8 ≡ 8 + n * 8 = omega arith in
    let f : i ≡ i + 0 * 8 = omega arith in
    let g : digits_from q i (suc n * 8) / 256 ^ 0 ≡ digits_from q i (suc n * 8) = omega arith in
    ap (λ (b : ℕ). b % 256) (g ∙ ap (digits_from q i) e) ∙ digits_row q i (n * 8) ∙ ap (λ (j : ℕ). digits_from q j 8) f
digits_row_at q i (suc n) (suc k) l =
    let e : suc n * 8 ≡ 8 + n * 8 = omega arith in
    let f : i + 8 + k * 8 ≡ i + suc k * 8 = omega arith in
    let g : digits_from q i (suc n * 8) / 256 ^ suc k ≡ digits_from q (i + 8) (n * 8) / 256 ^ k =
    ap (λ (d : ℕ). digits_from q i (suc n * 8) / d) (pow-suc 256 k ∙ mul_comm (256 ^ k) 256) ∙ sym (div-div-eq-div-mul (digits_from q i (suc n * 8)) 256 (256 ^ k))
    ∙ ap (λ (b : ℕ). b / 256 ^ k) (ap (λ (m : ℕ). digits_from q i m / 256) e ∙ digits_rows q i (n * 8)) in
    ap (λ (b : ℕ). b % 256) g ∙ digits_row_at q (i + 8) n k (omega arith) ∙ ap (λ (j : ℕ). digits_from q j 8) f

-- no row is left
pub row_steps-none : {E : Type 0} (step : ℕ → ℕ → E → E) (y n : ℕ) (s : E) → ((z : ℕ) (t : E) → step z 0 t ≡ t) → row_steps step y n 0 s ≡ s
unfolding row_steps
row_steps-none step y zero s h = refl
row_steps-none step y (suc n) s h = row_steps-none step (suc y) n (step y 0 s) h ∙ h y s

-- a step for each row of the test's digits
pub row_steps-test : {E : Type 0} (step : ℕ → ℕ → E → E) (q : ℕ → Bool) (top k n : ℕ) (s : E)
    → row_steps step (top + k) n (digits_from q (k * 8) (n * 8)) s ≡ rows_from (λ j. step (top + j) (digits_from q (j * 8) 8)) k n s
unfolding row_steps
row_steps-test step q top k zero s = sym (rows_none (λ j. step (top + j) (digits_from q (j * 8) 8)) k s)
row_steps-test step q top k (suc n) s =
    let e : suc n * 8 ≡ 8 + n * 8 = omega arith in
    let f : k * 8 + 8 ≡ suc k * 8 = omega arith in
    let g : suc (top + k) ≡ top + suc k = omega arith in
    ap₂ (λ (b r : ℕ). row_steps step (suc (top + k)) n b (step (top + k) r s))
    (ap (λ (m : ℕ). digits_from q (k * 8) m / 256) e ∙ digits_rows q (k * 8) (n * 8) ∙ ap (λ (i : ℕ). digits_from q i (n * 8)) f)
    (ap (λ (m : ℕ). digits_from q (k * 8) m % 256) e ∙ digits_row q (k * 8) (n * 8))
    ∙ ap (λ (y : ℕ). row_steps step y n (digits_from q (suc k * 8) (n * 8)) (step (top + k) (digits_from q (k * 8) 8) s)) g
    ∙ row_steps-test step q top (suc k) n (step (top + k) (digits_from q (k * 8) 8) s)
    ∙ rows-first (λ j. step (top + j) (digits_from q (j * 8) 8)) k n s

-- tests that agree have the same digits
digits_same : (p q : ℕ → Bool) (i n : ℕ) → ((k : ℕ) → p k ≡ q k) → digits_from p i n ≡ digits_from q i n
unfolding digits_from
digits_same p q i zero h = refl
digits_same p q i (suc n) h = ap₂ (λ (b : Bool) (d : ℕ). bit b + 2 * d) (h i) (digits_same p q (suc i) n h)

-- a stamp of a test that was moved
pub stamp_moved : (p q : ℕ → ℕ → Bool) (left top : ℕ) → ((x y : ℕ) → p x y ≡ q (left + x) (top + y)) → stamp_of p 0 0 ≡ stamp_of q left top
stamp_moved p q left top h =
    digits_same (λ i. p (0 + i % 8) (0 + i / 8)) (λ i. q (left + i % 8) (top + i / 8)) 0 64
    (λ i. let a : 0 + i % 8 ≡ i % 8 = omega arith in let b : 0 + i / 8 ≡ i / 8 = omega arith in ap₂ p a b ∙ h (i % 8) (i / 8))

-- stamps of tests that agree
pub stamp_same : (p q : ℕ → ℕ → Bool) (left top : ℕ) → ((x y : ℕ) → p x y ≡ q x y) → stamp_of p left top ≡ stamp_of q left top
stamp_same p q left top h = digits_same (λ i. p (left + i % 8) (top + i / 8)) (λ i. q (left + i % 8) (top + i / 8)) 0 64 (λ i. h (left + i % 8) (top + i / 8))
