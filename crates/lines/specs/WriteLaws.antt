-- Laws: how a line of digits is written, byte by byte.
use Rattle.std.specs.Prelude.{◌≡◌, List, [], ◌∷◌, ◌++◌, ℕ, ◌+◌, ◌/◌, ◌%◌, ◌<◌, ◌≤◌, length, take, drop, set, get_or}
use Rattle.std.proofs.Common.{sym, ap, ◌∙◌, add-one, arith, length-append, take-suc, take_all, length-take-le, le-leb}
use Rattle.std.proofs.lemmas.Bool.{lt-leb}
use Rattle.lines.specs.Hex.{digit, hex_of, over}
use Rattle.lines.specs.HexLaws.{hex_length, hex_append}
use Rattle.lines.specs.Lines.{lf, line_of, fitted, WriteLineSays}
use Rattle.lines.specs.PlaceLaws.{two-set, one_set}

pub WriteLineSays-unique : (bytes old : List ℕ) (r s : ℕ) (after after' : List ℕ) → WriteLineSays bytes old r after
    → WriteLineSays bytes old s after' → (r ≡ s) × (after ≡ after')
WriteLineSays-unique bytes old r s after after' p q = (p.count ∙ sym q.count, p.text ∙ sym q.text)

hex_front : (bytes : List ℕ) (i : ℕ) → i ≤ length bytes → length (hex_of (take i bytes)) ≡ i + i
hex_front bytes i h = hex_length (take i bytes) ∙ ap (λ m. m + m) (length-take-le i bytes h)

-- a byte more of the line
pub line_step : (bytes old out : List ℕ) (i : ℕ) → i < length bytes → i + i + 2 ≤ length old → out ≡ hex_of (take i bytes) ++ drop (i + i) old
    → set (set out (i + i) (digit (get_or bytes i 0 / 16))) (i + i + 1) (digit (get_or bytes i 0 % 16)) ≡ hex_of (take (i + 1) bytes) ++ drop (i + i + 2) old
line_step bytes old out i h l f =
    ap (λ (o : List ℕ). set (set o (i + i) (digit (get_or bytes i 0 / 16))) (i + i + 1) (digit (get_or bytes i 0 % 16))) f
    ∙ two-set (hex_of (take i bytes)) old (i + i) (digit (get_or bytes i 0 / 16)) (digit (get_or bytes i 0 % 16)) (hex_front bytes i (omega arith)) l
    ∙ ap (λ (o : List ℕ). o ++ drop (i + i + 2) old) (sym (hex_append (take i bytes) (get_or bytes i 0 ∷ [])) ∙ ap hex_of more)
  where
    more : take i bytes ++ get_or bytes i 0 ∷ [] ≡ take (i + 1) bytes
    more = sym (take-suc bytes i 0 h) ∙ ap (λ m. take m bytes) (sym (add-one i))

line-length : (bytes : List ℕ) → length (line_of bytes) ≡ length bytes + length bytes + 1
line-length bytes = length-append (hex_of bytes) (lf ∷ []) ∙ omega (arith, hex_length bytes)

fits : (line old : List ℕ) → length line ≤ length old → fitted old line ≡ line
unfolding fitted
fits line old h = simp (le-leb (length line) (length old) h)

no_room : (line old : List ℕ) → length old < length line → fitted old line ≡ []
unfolding fitted
no_room line old h = simp (lt-leb (length line) (length old) h)

-- and its LF
pub line-end : (bytes old out : List ℕ) (i : ℕ) → i ≡ length bytes → i + i < length old → out ≡ hex_of (take i bytes) ++ drop (i + i) old
    → WriteLineSays bytes old (length bytes + length bytes + 1) (set out (length bytes + length bytes) 10)
line-end bytes old out i h l f =
    let n = length bytes + length bytes in
    record {
      count = sym (ap length room ∙ line-length bytes);
      text =
          ap (λ (o : List ℕ). set o n 10) (f ∙ ap (λ m. hex_of (take m bytes) ++ drop (m + m) old) h ∙ ap (λ (o : List ℕ). hex_of o ++ drop n old) (take_all (length bytes) bytes (omega arith)))
          ∙ one_set (hex_of bytes) old n 10 (hex_length bytes) (omega (arith, h))
          ∙ ap (λ m. line_of bytes ++ drop m old) (sym (line-length bytes))
          ∙ ap (over old) (sym room);
    }
  where
    room : fitted old (line_of bytes) ≡ line_of bytes
    room = fits (line_of bytes) old (omega (arith, h, line-length bytes))

-- or there is no room for it
pub no_line : (bytes old : List ℕ) → length old < length bytes + length bytes + 1 → WriteLineSays bytes old 0 old
no_line bytes old h =
    let none : fitted old (line_of bytes) ≡ [] = no_room (line_of bytes) old (omega (arith, line-length bytes)) in
    record { count = sym (ap length none); text = ap (over old) (sym none) }
