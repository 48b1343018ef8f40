-- Rules: document 01, "The program": lines end in LF, which the last may lack. How a reader that is fed byte by byte finds them.
use Rattle.std.specs.Prelude.{◌≡◌, Bool, true, false, ◌&&◌, ◌||◌, not, cond, List, [], ◌∷◌, ◌++◌, ℕ, ◌+◌, eqb, ltb, leb, length, take, set}
use Rattle.lines.specs.declared.Line.{Line}
use Rattle.lines.specs.Hex.{hex_of, over}

abbrev pub lf : ℕ
lf = 10

-- a byte in front of the first line; where there is none, it is a line of its own
abbrev pub before : ℕ → List (List ℕ) → List (List ℕ)
before b [] = (b ∷ []) ∷ []
before b (line ∷ more) = (b ∷ line) ∷ more

-- the lines of an input. No line stands after a final LF, and an empty one between two
unfoldable pub split : List ℕ → List (List ℕ)
split [] = []
split (b ∷ rest) = cond (eqb b lf) ([] ∷ split rest) (before b (split rest))

-- ---- the reader: it holds the bytes of a line in a lent buffer, its room
-- what is handed on of a line: all of it, or that it was longer than the room
pub data Told : Type 0 where
  whole : List ℕ → Told
  too_long : Told

abbrev pub told : ℕ → List ℕ → Told
told room line = cond (leb (length line) room) (whole line) too_long

-- before the first byte of a line
abbrev pub fresh : Line
fresh = record { held = 0; over = false; ended = false }

-- an ended line makes room for the next
abbrev pub standing : Line → Line
standing s = cond s.ended fresh s

abbrev pub ending : Line → Line
ending s = record { held = s.held; over = s.over; ended = true }

-- a byte is held where there is room for it; where there is none the line is over-long
abbrev pub longer : ℕ → Line → Line
longer room s =
    cond (ltb s.held room) (record { held = s.held + 1; over = s.over; ended = false })
    (record { held = s.held; over = true; ended = false })

-- LF ends a line, any other byte makes it longer
unfoldable pub fed : ℕ → Line → ℕ → Line
fed room s b = cond (eqb b lf) (ending (standing s)) (longer room (standing s))

unfoldable pub stored : Line → ℕ → List ℕ → List ℕ
stored s b text = cond (eqb b lf) text (set text (standing s).held b)

-- what is handed on of the line that the reader holds
unfoldable pub heard : Line → List ℕ → Told
heard s text = cond (s.over || ltb (length text) s.held) too_long (whole (take s.held text))

-- at the end of the input: whether a line is left that has no LF
unfoldable pub unfinished : Line → Bool
unfinished s = not s.ended && (s.over || ltb 0 s.held)

abbrev pub StartSays : Line → Type 0
StartSays r = r ≡ fresh

abbrev pub FeedSays : Line → ℕ → List ℕ → Line → List ℕ → Type 0
FeedSays s b text r after = (r ≡ fed (length text) s b) × (after ≡ stored s b text)

abbrev pub LastSays : Line → Bool → Type 0
LastSays s r = r ≡ unfinished s

-- ---- a line written
-- digits and LF
abbrev pub line_of : List ℕ → List ℕ
line_of bytes = hex_of bytes ++ lf ∷ []

-- a line is written whole or, where the lent buffer has no room for it, not at all
unfoldable pub fitted : List ℕ → List ℕ → List ℕ
fitted old line = cond (leb (length line) (length old)) line []

-- the line stands at the front of the buffer, and what stood after it stays
pub record WriteLineSays (bytes old : List ℕ) (r : ℕ) (after : List ℕ) : Type 0 where
  pub count : r ≡ length (fitted old (line_of bytes))
  pub text : after ≡ over old (fitted old (line_of bytes))

-- ---- the reader at work, for anyone who answers lines: a state, and what a line makes of it
pub record Reading (S : Type 0) : Type 0 where
  pub line : Line
  pub text : List ℕ
  pub state : S

module _ {S : Type 0} (answer : S → Told → S) where
  abbrev pub answered : Bool → Line → List ℕ → S → S
  answered true line text state = answer state (heard line text)
  answered false line text state = state

  -- a byte is fed, and a line that it ended is answered at once
  abbrev pub taken : Reading S → ℕ → Reading S
  taken r b =
      let line : Line = fed (length r.text) r.line b in
      let text : List ℕ = stored r.line b r.text in
      record { line = line; text = text; state = answered line.ended line text r.state }

  abbrev pub all_taken : Reading S → List ℕ → Reading S
  all_taken r [] = r
  all_taken r (b ∷ rest) = all_taken (taken r b) rest

  -- the end of the input: a line without LF is answered too
  abbrev pub finished : Reading S → S
  finished r = answered (unfinished r.line) r.line r.text r.state

  -- what lines, answered in turn, make of a state
  abbrev pub in_turn : S → List Told → S
  in_turn state [] = state
  in_turn state (line ∷ more) = in_turn (answer state line) more
