-- Rules: where a stamp lies, and what a loop over its pixels does: a step for each digit that is 1, or for each row of eight digits. Over any state.
use Rattle.std.specs.Prelude.{◌≡◌, ℕ, zero, suc, ◌+◌, ◌-◌, ◌/◌, ◌%◌, ◌^◌, ◌<◌, ◌≤◌, Bool, true, cond, ◌==◌, bit_and}
use Rattle.laws.specs.Ends.{Ends, none, ends, ends_of}

-- every pixel at which the test holds lies in the window of eight rows of eight pixels, and in the picture
pub record InWindow (p : ℕ → ℕ → Bool) (left top w h : ℕ) : Type 0 where
  pub columns : (x y : ℕ) → p x y ≡ true → (left ≤ x) × (x < left + 8) × (x < w)
  pub rows : (x y : ℕ) → p x y ≡ true → (top ≤ y) × (y < top + 8) × (y < h)

-- digit i of b is 1
abbrev pub digit_is : ℕ → ℕ → Bool
digit_is b i = b / 2 ^ i % 2 == 1

-- b without its first digit that is 1
abbrev pub without_first : ℕ → ℕ
without_first b = bit_and b (b - 1)

-- the first and the last digit of a row of eight that is 1, as columns from left on
abbrev pub moved : ℕ → Ends → Ends
moved left none = none
moved left (ends l r) = ends (left + l) (left + r)

abbrev pub row_ends : ℕ → ℕ → Ends
row_ends left row = moved left (ends_of (digit_is row) 8)

-- every digit of b that is 1 has the property
abbrev pub Digits : (ℕ → Type 0) → ℕ → Type 0
Digits P b = (i : ℕ) → b / 2 ^ i % 2 ≡ 1 → P i

-- n digits of b, the first of them digit i
module _ {E : Type 0} (step : ℕ → E → E) where
  unfoldable pub digit_steps : ℕ → ℕ → ℕ → E → E
  digit_steps i zero b s = s
  digit_steps i (suc n) b s = digit_steps (suc i) n (b / 2) (cond (b % 2 == 1) (step i s) s)

-- n rows of eight digits each, the first of them row y
module _ {E : Type 0} (step : ℕ → ℕ → E → E) where
  unfoldable pub row_steps : ℕ → ℕ → ℕ → E → E
  row_steps y zero b s = s
  row_steps y (suc n) b s = row_steps (suc y) n (b / 256) (step y (b % 256) s)
