-- Rules: how a line of stored answers reads. Bytes are numbers: 32 is the space, 45 '-', 120 'x', 48 to 57 the digits, 65 to 70 A to F.
use Rattle.std.specs.Prelude.{◌≡◌, cond, List, [], ◌∷◌, Option, Some, None, ℕ, suc, min, ◌+◌, ◌-◌, ◌*◌, ◌^◌, eqb, ltb, length, drop, ℤ, pos, negsuc}

-- the number of a digit, 16 for what is none
unfoldable pub digit_of : ℕ → ℕ
digit_of b = cond (ltb b 48) 16 (cond (ltb b 58) (b - 48) (cond (ltb b 65) 16 (cond (ltb b 71) (b - 55) 16)))

-- digits to a base, after the number n that was read before them; a number of 2^60 or more takes no further digit
unfoldable pub digits_after : ℕ → ℕ → List ℕ → Option ℕ
digits_after base n [] = Some n
digits_after base n (b ∷ r) = cond (ltb (digit_of b) base) (cond (ltb n (2 ^ 60)) (digits_after base (n * base + digit_of b) r) None) None

unfoldable pub digits : ℕ → List ℕ → Option ℕ
digits base [] = None
digits base (b ∷ r) = digits_after base 0 (b ∷ r)

-- two's complement, down to -2^63
unfoldable pub negated : Option ℕ → Option ℕ
negated None = None
negated (Some n) = cond (eqb n 0) (Some 0) (cond (ltb (2 ^ 63) n) None (Some (2 ^ 64 - n)))

unfoldable pub value_of : List ℕ → Option ℕ
value_of [] = None
value_of (b ∷ r) = cond (eqb b 45) (negated (digits 10 r)) (cond (eqb b 120) (digits 16 r) (digits 10 (b ∷ r)))

abbrev pub ValueSays : List ℕ → Option ℕ → Type 0
ValueSays word r = r ≡ value_of word

-- a byte before the first of some words
unfoldable pub joined : ℕ → List (List ℕ) → List (List ℕ)
joined b [] = (b ∷ []) ∷ []
joined b (w ∷ ws) = (b ∷ w) ∷ ws

-- how many elements stand before the first that is b; all of them where none is
unfoldable pub index_of : ℕ → List ℕ → ℕ
index_of b [] = 0
index_of b (x ∷ r) = cond (eqb x b) 0 (suc (index_of b r))

abbrev pub FindSays : List ℕ → ℕ → ℕ → Option ℕ → Type 0
FindSays text from byte r = r ≡ cond (ltb (index_of byte (drop from text)) (length (drop from text))) (Some (from + index_of byte (drop from text))) None

-- each space ends a word
unfoldable pub words_of : List ℕ → List (List ℕ)
words_of [] = []
words_of (b ∷ r) = cond (eqb b 32) ([] ∷ words_of r) (joined b (words_of r))

-- the numbers before the first word that is none
unfoldable pub leading : Option ℕ → List ℕ → List ℕ
leading (Some n) ns = n ∷ ns
leading None ns = []

unfoldable pub numbers_of : List (List ℕ) → List ℕ
numbers_of [] = []
numbers_of (w ∷ ws) = leading (value_of w) (numbers_of ws)

-- a list over the start of another, as far as that goes
unfoldable pub over : List ℕ → List ℕ → List ℕ
over [] os = os
over (n ∷ ns) [] = []
over (n ∷ ns) (o ∷ os) = n ∷ over ns os

abbrev pub NumbersSays : List ℕ → List ℕ → ℕ → List ℕ → Type 0
NumbersSays text before r after = (r ≡ min (length (numbers_of (words_of text))) (length before)) × (after ≡ over (numbers_of (words_of text)) before)

abbrev pub SignedSays : ℕ → ℤ → Type 0
SignedSays bits r = r ≡ cond (ltb bits (2 ^ 63)) (pos bits) (negsuc (2 ^ 64 - 1 - bits))

-- 0 where no i32 holds the number
abbrev pub Signed32Says : ℕ → ℤ → Type 0
Signed32Says bits r = r ≡ cond (ltb bits (2 ^ 31)) (pos bits) (cond (ltb bits (2 ^ 64 - 2 ^ 31)) (pos 0) (negsuc (2 ^ 64 - 1 - bits)))
