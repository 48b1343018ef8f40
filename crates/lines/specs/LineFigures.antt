-- Laws: the rules of lines and digits computed at small inputs, by hand and by document 01's sentences.
use Rattle.std.specs.Prelude.{◌≡◌, refl, [], ◌∷◌, map}
use Rattle.lines.specs.Hex.{digit, capital, hex_of}
use Rattle.lines.specs.Lines.{split, told, whole, too_long, line_of}

-- no input, no line; "\n\n" has two empty ones; the last may lack its LF; none stands after a final LF
pub splits : (split [] ≡ [])
    × (split (10 ∷ 10 ∷ []) ≡ [] ∷ [] ∷ [])
    × (split (65 ∷ 10 ∷ 66 ∷ 67 ∷ []) ≡ (65 ∷ []) ∷ (66 ∷ 67 ∷ []) ∷ [])
    × (split (65 ∷ 10 ∷ []) ≡ (65 ∷ []) ∷ [])
    × (split (10 ∷ 65 ∷ []) ≡ [] ∷ (65 ∷ []) ∷ [])
unfolding split
splits = (refl, refl, refl, refl, refl)

-- CR is a byte of its line
pub carriage_return : split (65 ∷ 13 ∷ 10 ∷ []) ≡ (65 ∷ 13 ∷ []) ∷ []
unfolding split
carriage_return = refl

-- 3F A0 as characters, in capitals, with LF
pub capitals_out : line_of (0x3f ∷ 0xa0 ∷ []) ≡ 51 ∷ 70 ∷ 65 ∷ 48 ∷ 10 ∷ []
unfolding digit
capitals_out = refl

-- 3f, 3F and 9a, 9A
pub either_case_in : (map capital (51 ∷ 102 ∷ 57 ∷ 97 ∷ []) ≡ hex_of (0x3f ∷ 0x9a ∷ []))
    × (map capital (51 ∷ 70 ∷ 57 ∷ 65 ∷ []) ≡ hex_of (0x3f ∷ 0x9a ∷ []))
unfolding digit capital
either_case_in = (refl, refl)

-- a room of 3
pub room_of_three : (told 3 (1 ∷ 2 ∷ 3 ∷ []) ≡ whole (1 ∷ 2 ∷ 3 ∷ [])) × (told 3 (1 ∷ 2 ∷ 3 ∷ 4 ∷ []) ≡ too_long)
room_of_three = (refl, refl)
