-- Rules: what the functions inside the crate promise one another about digits.
use Rattle.std.specs.Prelude.{◌≡◌, Bool, true, false, Option, Some, List, map, ℕ, ◌<◌, length, get_or}
use Rattle.lines.specs.Hex.{digit, capital, hex_of}

-- the value of a digit in either case
pub record DigitOf (c : ℕ) (r : Option ℕ) : Type 0 where
  pub value : (d : ℕ) → r ≡ Some d → (d < 16) × (capital c ≡ digit d)
  pub only : (n : ℕ) → n < 16 → capital c ≡ digit n → r ≡ Some n

abbrev pub IsDigit : ℕ → Type 0
IsDigit c = (n : ℕ) × (n < 16) × (capital c ≡ digit n)

abbrev pub AllDigits : List ℕ → Type 0
AllDigits line = (k : ℕ) → k < length line → IsDigit (get_or line k 0)

-- whether every character of a line is a digit
pub record DigitsIn (line : List ℕ) (r : Bool) : Type 0 where
  pub yes : r ≡ true → AllDigits line
  pub no : r ≡ false → AllDigits line → ⊥

abbrev pub SpelledBy : List ℕ → List ℕ → Type 0
SpelledBy line bytes = map capital line ≡ hex_of bytes
