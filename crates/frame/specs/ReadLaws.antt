-- Laws: a line asks for at most one request; reading it is decoding its digits and then its bytes.
use Rattle.std.specs.Prelude.{◌≡◌, refl, Ok, List, ◌++◌, ℕ, zero, suc, ◌-◌, ◌<◌, ◌≤◌, true, false, length, take, drop, replicate}
use Rattle.std.proofs.Common.{sym, ap, ◌∙◌, subst, ⊎_elim, arith, lt-ltb, le-ltb, le-leb, take_at}
use Rattle.std.proofs.lemmas.Bool.{lt-leb}
use Rattle.std.proofs.Math.Nat.{sub-zero}
use Rattle.cover.specs.declared.Kind.{Kind}
use Rattle.cover.specs.declared.Kind.TheVariants.{Circle, Triangle, Quad}
use Rattle.cover.specs.Cover.{places}
use Rattle.refusal.specs.Outcomes.{Outcome, Done, Refused}
use Rattle.frame.specs.declared.Request as code
use Rattle.frame.specs.declared.Read.{Read}
use Rattle.lines.specs.declared.Line.{Line}
use Rattle.lines.specs.Hex.{Spells, over, DecodeHexSays}
use Rattle.lines.specs.HexLaws.{below_or_not, spells_unique, spells-length}
use Rattle.lines.specs.Lines.{Told, whole, too_long, told, heard}
use Rattle.frame.specs.Frames.{Request, new, row, score, paint, frame, decoded, Fitting, LineAsks, DecodeSays, read_as, unread, ReadFrameSays, ReadsTold, ReadLineSays}
use Rattle.frame.specs.FrameLaws.{frame_injective, coordinates-length}

pub line_asks_unique : {line : List ℕ} {p q : Request} → LineAsks line p → LineAsks line q → p ≡ q
line_asks_unique {p = p} {q = q} a b = frame_injective p q a.fitting b.fitting (spells_unique a.spells b.spells)

pub ReadFrameSays-unique : (line : List ℕ) (r s : Read) → ReadFrameSays line r → ReadFrameSays line s → r ≡ s
ReadFrameSays-unique line r s (ReadFrameSays.asked p a e) (ReadFrameSays.asked q b f) = e ∙ ap read_as (line_asks_unique a b) ∙ sym f
ReadFrameSays-unique line r s (ReadFrameSays.asked p a e) (ReadFrameSays.refused n f) = absurd (n p a)
ReadFrameSays-unique line r s (ReadFrameSays.refused n e) (ReadFrameSays.asked q b f) = absurd (n q b)
ReadFrameSays-unique line r s (ReadFrameSays.refused n e) (ReadFrameSays.refused m f) = e ∙ sym f

-- ---- no frame is longer than 50 bytes
places_most : (k : Kind) → length (places k) ≤ 8
places_most (Circle cx cy r) = omega arith
places_most (Triangle x0 y0 x1 y1 x2 y2) = omega arith
places_most (Quad x0 y0 x1 y1 x2 y2 x3 y3) = omega arith

pub frame_most : (q : Request) → Fitting q → length (frame q) ≤ 50
frame_most (new w h r g b) f = omega arith
frame_most (row y pixels) f = omega (arith, f.1)
frame_most (score k o) f = omega (arith, places_most k, coordinates-length (places k))
frame_most (paint k o) f = omega (arith, places_most k, coordinates-length (places k))

-- ---- what an answer of `decode_hex` tells
pub record Spelled (line old after : List ℕ) (n : ℕ) : Type 0 where
  pub bytes : List ℕ
  pub spells : Spells line bytes
  pub count : length bytes ≡ n
  pub room : n ≤ length old
  pub text : after ≡ over old bytes

pub spelled : {line old after : List ℕ} {r : Outcome ℕ} (n : ℕ) → DecodeHexSays line old r after → r ≡ Done n → Spelled line old after n
spelled n (DecodeHexSays.spelled bytes s l e f) h =
    let p : length bytes ≡ n = cc in
    record { bytes = bytes; spells = s; count = p; room = omega arith; text = f }
spelled n (DecodeHexSays.refused none e f) h = let z : ◌≡◌ {A = ℕ} 0 1 = cc in absurd (omega arith)

pub not-spelled : {line old after : List ℕ} {r : Outcome ℕ} (k : ℕ) → DecodeHexSays line old r after → r ≡ Refused k
    → (bytes : List ℕ) → Spells line bytes → length bytes ≤ length old → ⊥
not-spelled k (DecodeHexSays.spelled bytes s l e f) h = let z : ◌≡◌ {A = ℕ} 0 1 = cc in absurd (omega arith)
not-spelled k (DecodeHexSays.refused none e f) h = none

-- ---- reading a line
pub read-not-spelled : (line : List ℕ) → ((bytes : List ℕ) → Spells line bytes → length bytes ≤ 50 → ⊥) → ReadFrameSays line unread
read-not-spelled line none = ReadFrameSays.refused (λ q a. none (frame q) a.spells (frame_most q a.fitting)) refl

abbrev zeros : ℕ → List ℕ
zeros n = replicate n 0

drop-zeros : (n m : ℕ) → n ≤ m → drop n (zeros m) ≡ zeros (m - n)
drop-zeros zero m h = ap zeros (sym (sub-zero m))
drop-zeros (suc n) zero h = absurd (omega arith)
drop-zeros (suc n) (suc m) h =
    let e : m - n ≡ suc m - suc n = omega arith in
    drop-zeros n m (omega arith) ∙ ap zeros e

module _ {line after : List ℕ} {n : ℕ} (s : Spelled line (replicate 50 0) after n) where
  -- the part of the buffer that is decoded
  pub spelled-part : take n after ≡ s.bytes
  spelled-part =
      ap (take n) s.text
      ∙ take_at s.bytes (drop (length s.bytes) (replicate 50 0)) n s.count

  pub read_asked : (f : code.Request) → DecodeSays (take n after) (Done f) → ReadFrameSays line (record { frame = Ok f; bytes = after })
  read_asked f (DecodeSays.refused none e) = let z : ◌≡◌ {A = ℕ} 0 1 = cc in absurd (omega arith)
  read_asked f (DecodeSays.asked q a e) =
      let g : f ≡ decoded q = cc in
      ReadFrameSays.asked q (record { fitting = a.fitting; spells = subst (Spells line) same s.spells }) (cc (g, text))
    where
      same : s.bytes ≡ frame q
      same = sym spelled-part ∙ a.same

      text : after ≡ frame q ++ zeros (50 - length (frame q))
      text =
          s.text
          ∙ ap (over (zeros 50)) same
          ∙ ap (λ (l : List ℕ). frame q ++ l) (drop-zeros (length (frame q)) 50 (frame_most q a.fitting))

  pub read-refused : (k : ℕ) → DecodeSays (take n after) (Refused k) → ReadFrameSays line unread
  read-refused k (DecodeSays.refused none e) =
      ReadFrameSays.refused (λ q a. none q (record { fitting = a.fitting; same = spelled-part ∙ spells_unique s.spells a.spells })) refl
  read-refused k (DecodeSays.asked q a e) = let z : ◌≡◌ {A = ℕ} 0 1 = cc in absurd (omega arith)

-- ---- the line that a reader holds
told_unique : (t : Told) (r s : Read) → ReadsTold t r → ReadsTold t s → r ≡ s
told_unique (whole line) r s p q = ReadFrameSays-unique line r s p q
told_unique too_long r s p q = p ∙ sym q

pub ReadLineSays-unique : (line : Line) (text : List ℕ) (r s : Read) → ReadLineSays line text r → ReadLineSays line text s → r ≡ s
ReadLineSays-unique line text r s p q = told_unique (heard line text) r s p q

pub read-over : (line : Line) (text : List ℕ) (r : Read) → line.over ≡ true → r ≡ unread → ReadLineSays line text r
unfolding heard
read-over line text r e f = simp e f

pub read_past : (line : Line) (text : List ℕ) (r : Read) → line.over ≡ false → length text < line.held → r ≡ unread → ReadLineSays line text r
unfolding heard
read_past line text r e h f = simp (e, lt-ltb (length text) line.held h) f

pub read_held : (line : Line) (text : List ℕ) (r : Read) → line.over ≡ false → line.held ≤ length text → ReadFrameSays (take line.held text) r
    → ReadLineSays line text r
unfolding heard
read_held line text r e h f = simp (e, le-ltb (length text) line.held h) f

-- with room for 100 digits, a line that is told is read as that line, too long or not
pub told_reads : (room : ℕ) (line : List ℕ) (r : Read) → 100 ≤ room → ReadsTold (told room line) r → ReadFrameSays line r
told_reads room line r h t =
    ⊎_elim
    (λ (l : room < length line).
    let e : r ≡ unread = simp (lt-leb (length line) room l) at t in
    ReadFrameSays.refused (λ q a. omega (arith, spells-length a.spells, frame_most q a.fitting)) e)
    (λ (l : length line ≤ room). simp (le-leb (length line) room l) at t)
    (below_or_not room (length line))
