-- Laws: bytes side by side: sums and products without a carry, `&` byte by byte; the bytes of a line and what their top digits say.
use Rattle.std.specs.Prelude.{◌≡◌, ℕ, zero, suc, ◌+◌, ◌-◌, ◌*◌, ◌/◌, ◌%◌, ◌^◌, ◌<◌, Bool, true, false, ◌&&◌, ℤ, pos, ◌+ℤ◌, bit_and, int_le, unsigned_abs, refl}
use Rattle.std.proofs.Common.{sym, ◌∙◌, ap, ap₂, arith, mul-div_cancel, mul_comm}
use Rattle.std.proofs.lemmas.Nat.{and_block}
use Rattle.std.proofs.lemmas.Nat.Bits.{and_high}
use Rattle.laws.specs.Bound.{Bounded}
use Rattle.laws.specs.Parts.{zord, of+, one_zero}
use Rattle.laws.specs.Fit.{of_abs, le_true, le_false}
use Rattle.laws.specs.Ends.{bit}
use Rattle.stamp.specs.Lanes.{lanes_of}

-- ---- bytes side by side
pub lanes_none : lanes_of (λ k. 0) 8 ≡ 0
unfolding lanes_of
lanes_none = refl

pub lanes_agree : (f g : ℕ → ℕ) (n : ℕ) → ((k : ℕ) → k < n → f k ≡ g k) → lanes_of f n ≡ lanes_of g n
unfolding lanes_of
lanes_agree f g zero h = refl
lanes_agree f g (suc n) h =
    ap₂ (λ (a b : ℕ). a + 256 * b) (h 0 (omega arith)) (lanes_agree (λ k. f (suc k)) (λ k. g (suc k)) n (λ k l. h (suc k) (omega arith)))

pub lanes_plus : (f g : ℕ → ℕ) (n : ℕ) → lanes_of (λ k. f k + g k) n ≡ lanes_of f n + lanes_of g n
unfolding lanes_of
lanes_plus f g zero = refl
lanes_plus f g (suc n) = omega (arith, lanes_plus (λ k. f (suc k)) (λ k. g (suc k)) n)

pub lanes_times : (c : ℕ) (f : ℕ → ℕ) (n : ℕ) → lanes_of (λ k. c * f k) n ≡ c * lanes_of f n
unfolding lanes_of
lanes_times c f zero = omega arith
lanes_times c f (suc n) = omega (arith, ap (λ (t : ℕ). 256 * t) (lanes_times c (λ k. f (suc k)) n))

pub lanes_below : (f : ℕ → ℕ) (n : ℕ) → ((k : ℕ) → k < n → f k < 256) → lanes_of f n < 256 ^ n
unfolding lanes_of
lanes_below f zero h = omega arith
lanes_below f (suc n) h = omega (arith, h 0 (omega arith), lanes_below (λ k. f (suc k)) n (λ k l. h (suc k) (omega arith)))

pub lanes_and : (f g : ℕ → ℕ) (n : ℕ) → ((k : ℕ) → k < n → f k < 256) → ((k : ℕ) → k < n → g k < 256)
    → bit_and (lanes_of f n) (lanes_of g n) ≡ lanes_of (λ k. bit_and (f k) (g k)) n
unfolding lanes_of
lanes_and f g zero h l = refl
lanes_and f g (suc n) h l =
    let a = lanes_of (λ k. f (suc k)) n in
    let b = lanes_of (λ k. g (suc k)) n in
    ap₂ bit_and (flip (f 0) a) (flip (g 0) b)
    ∙ and_block 8 a b (f 0) (g 0) (h 0 (omega arith)) (l 0 (omega arith))
    ∙ sym (flip (bit_and (f 0) (g 0)) (bit_and a b))
    ∙ ap (λ (t : ℕ). bit_and (f 0) (g 0) + 256 * t) (lanes_and (λ k. f (suc k)) (λ k. g (suc k)) n (λ k m. h (suc k) (omega arith)) (λ k m. l (suc k) (omega arith)))
  where
    flip : (r a : ℕ) → r + 256 * a ≡ a * 256 + r
    flip r a = omega arith

-- ---- the bytes of a line: the constants of `lanes`
pub lanes_rise : (a b : ℕ) → a * 0x0101_0101_0101_0101 + b * 0x0706_0504_0302_0100 ≡ lanes_of (λ k. a + b * k) 8
unfolding lanes_of
lanes_rise a b = omega arith

pub lanes_fall : (a b : ℕ) → a * 0x0101_0101_0101_0101 + b * 0x0001_0203_0405_0607 ≡ lanes_of (λ k. a + b * (7 - k)) 8
unfolding lanes_of
lanes_fall a b = omega arith

pub lanes_same : (a : ℕ) → a * 0x0101_0101_0101_0101 ≡ lanes_of (λ k. a) 8
unfolding lanes_of
lanes_same a = omega arith

pub tops : 0x8080_8080_8080_8080 ≡ lanes_of (λ k. 128) 8
unfolding lanes_of
tops = refl

-- a sum and a difference that wrap, and end where no byte leaves its place
pub wrapped : (a b more less r : ℕ) → b + 0x8080_8080_8080_8080 ≡ a + more → (less + 0x8080_8080_8080_8080) % 2 ^ 64 ≡ more → r ≡ (a + less) % 2 ^ 64
    → b < 2 ^ 64 → r ≡ b
wrapped a b more less r e f g l = omega (arith, e, f, g, l)

-- ---- the top digit of a byte
pub lane-top : (z : ℤ) → Bounded 127 z → bit_and (unsigned_abs (pos 128 +ℤ z)) 128 ≡ 128 * bit (int_le (pos 0) z)
lane-top z b = and_high (unsigned_abs (pos 128 +ℤ z)) 1 7 ∙ by (int_le (pos 0) z) refl
  where
    n : ℕ
    n = unsigned_abs (pos 128 +ℤ z)

    by : (t : Bool) → int_le (pos 0) z ≡ t → (n / 128 % 2) * 128 ≡ 128 * bit t
    by true e = omega (arith, zord, le_true (pos 0) z e, b.within, of_abs z, of_abs (pos 128 +ℤ z), of+ (pos 128) z, one_zero (pos 128 +ℤ z))
    by false e = omega (arith, zord, le_false (pos 0) z e, b.within, of_abs z, of_abs (pos 128 +ℤ z), of+ (pos 128) z, one_zero (pos 128 +ℤ z))

pub top_below : (a : Bool) → 128 * bit a < 256
top_below true = omega arith
top_below false = omega arith

top-and : (a b : Bool) → bit_and (128 * bit a) (128 * bit b) ≡ 128 * bit (a && b)
top-and true true = refl
top-and true false = refl
top-and false b = refl

-- two tests of each row
pub lanes_both : (s t : ℕ → Bool) (n : ℕ) → bit_and (lanes_of (λ k. 128 * bit (s k)) n) (lanes_of (λ k. 128 * bit (t k)) n) ≡ lanes_of (λ k. 128 * bit (s k && t k)) n
lanes_both s t n =
    lanes_and (λ k. 128 * bit (s k)) (λ k. 128 * bit (t k)) n (λ k l. top_below (s k)) (λ k l. top_below (t k))
    ∙ lanes_agree (λ k. bit_and (128 * bit (s k)) (128 * bit (t k))) (λ k. 128 * bit (s k && t k)) n (λ k l. top-and (s k) (t k))

-- from the top digit to the lowest
pub lanes_low : (f : ℕ → ℕ) (n : ℕ) → lanes_of (λ k. 128 * f k) n / 128 ≡ lanes_of f n
lanes_low f n = ap (λ (t : ℕ). t / 128) (lanes_times 128 f n ∙ mul_comm 128 (lanes_of f n)) ∙ mul-div_cancel (lanes_of f n) (omega arith)
