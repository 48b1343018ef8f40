-- Rules: document 01, "The program": bytes as hexadecimal digits, two a byte, capitals out and either case in.
use Rattle.std.specs.Prelude.{◌≡◌, ◌&&◌, cond, List, [], ◌∷◌, ◌++◌, map, ℕ, ◌+◌, ◌-◌, ◌/◌, ◌%◌, ◌<◌, ◌≤◌, ltb, leb, length, drop}
use Rattle.refusal.specs.declared.Refusal.TheVariants.{Malformed}
use Rattle.refusal.specs.Outcomes.{Outcome, Done, Refused, number}

-- the number of a malformed line
abbrev pub malformed : ℕ
malformed = number Malformed

-- a property of each element of a list
abbrev pub Each : {A : Type 0} → (A → Type 0) → List A → Type 0
Each P [] = Unit {0}
Each P (a ∷ rest) = P a × Each P rest

abbrev pub Byte : ℕ → Type 0
Byte b = b < 256

-- the digit of a number below 16: 0 is character 48, A character 65
unfoldable pub digit : ℕ → ℕ
digit n = cond (ltb n 10) (48 + n) (55 + n)

-- two digits a byte, the high one first
abbrev pub hex_of : List ℕ → List ℕ
hex_of [] = []
hex_of (b ∷ rest) = digit (b / 16) ∷ digit (b % 16) ∷ hex_of rest

-- a small letter as its capital, any other character as it is
unfoldable pub capital : ℕ → ℕ
capital c = cond (leb 97 c && leb c 122) (c - 32) c

-- the characters of a line, made capital, are the digits of the bytes, of which there is at least one
pub record Spells (line bytes : List ℕ) : Type 0 where
  pub some : 0 < length bytes
  pub each : Each Byte bytes
  pub digits : map capital line ≡ hex_of bytes

-- what stands at the front of a lent buffer is over what stood there
abbrev pub over : List ℕ → List ℕ → List ℕ
over old new = new ++ drop (length new) old

-- the bytes that a line spells, where the lent buffer has room for them; else the number of a malformed line, and nothing is written
pub data DecodeHexSays (line old : List ℕ) (r : Outcome ℕ) (after : List ℕ) : Type 0 where
  spelled : (bytes : List ℕ) → Spells line bytes → length bytes ≤ length old → r ≡ Done (length bytes)
      → after ≡ over old bytes → DecodeHexSays line old r after
  refused : ((bytes : List ℕ) → Spells line bytes → length bytes ≤ length old → ⊥) → r ≡ Refused malformed
      → after ≡ old → DecodeHexSays line old r after
