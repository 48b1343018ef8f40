-- Rules: document 01, "The program": the frames of requests, and decoding as their inverse.
use Rattle.std.specs.Prelude.{◌≡◌, Ok, Err, List, [], ◌∷◌, ◌++◌, ℕ, zero, suc, ◌-◌, ◌/◌, ◌%◌, ◌^◌, ◌<◌, ◌≤◌, ℤ, pos, negsuc, length, replicate}
use Rattle.cover.specs.declared.Kind.{Kind}
use Rattle.cover.specs.declared.Kind.TheVariants.{Circle, Triangle, Quad}
use Rattle.cover.specs.Cover.{places}
use Rattle.refusal.specs.declared.Refusal.TheVariants.{Malformed}
use Rattle.refusal.specs.Outcomes.{Outcome, Done, Refused}
use Rattle.frame.specs.declared.Request as code
use Rattle.frame.specs.declared.Request.TheVariants.{New, Row, Score, Paint}
use Rattle.frame.specs.declared.Read.{Read}
use Rattle.lines.specs.declared.Line.{Line}
use Rattle.lines.specs.Hex.{malformed, Each, Byte, Spells}
use Rattle.lines.specs.Lines.{Told, whole, too_long, heard}

-- a number in n bytes, big-endian
abbrev pub big : ℕ → ℕ → List ℕ
big zero v = []
big (suc n) v = v / 256 ^ n % 256 ∷ big n v

-- a coordinate in two bytes, signed: -1 is 65535
abbrev pub twos : ℤ → ℕ
twos (pos n) = n
twos (negsuc n) = 65535 - n

abbrev pub coordinates : List ℤ → List ℕ
coordinates [] = []
coordinates (z ∷ rest) = big 2 (twos z) ++ coordinates rest

-- what two bytes hold: -32768 to 32767
abbrev pub Short : ℤ → Type 0
Short (pos n) = n < 32768
Short (negsuc n) = n < 32768

-- what a frame asks for. Opacities are the bits of an f32
pub data Request : Type 0 where
  new : (w h r g b : ℕ) → Request
  row : (y : ℕ) (pixels : List ℕ) → Request
  score : (kind : Kind) (opacity : ℕ) → Request
  paint : (kind : Kind) (opacity : ℕ) → Request

abbrev pub number : Kind → ℕ
number (Circle cx cy r) = 1
number (Triangle x0 y0 x1 y1 x2 y2) = 2
number (Quad x0 y0 x1 y1 x2 y2 x3 y3) = 3

abbrev pub shape : Kind → ℕ → List ℕ
shape kind opacity = number kind ∷ big 4 opacity ++ coordinates (places kind)

-- a request's frame
abbrev pub frame : Request → List ℕ
frame (new w h r g b) = 1 ∷ w ∷ h ∷ r ∷ g ∷ b ∷ []
frame (row y pixels) = 2 ∷ y ∷ pixels
frame (score kind opacity) = 3 ∷ shape kind opacity
frame (paint kind opacity) = 4 ∷ shape kind opacity

abbrev pub Shaped : Kind → ℕ → Type 0
Shaped kind opacity = (opacity < 2 ^ 32) × Each Short (places kind)

-- a request's numbers fit their places. A row is one of a picture up to 16 wide
abbrev pub Fitting : Request → Type 0
Fitting (new w h r g b) = Each Byte (w ∷ h ∷ r ∷ g ∷ b ∷ [])
Fitting (row y pixels) = Each Byte (y ∷ pixels) × (length pixels ≤ 48)
Fitting (score kind opacity) = Shaped kind opacity
Fitting (paint kind opacity) = Shaped kind opacity

-- bytes ask for a request if they are its frame, and a line does if it spells its frame
pub record Asks (bytes : List ℕ) (q : Request) : Type 0 where
  pub fitting : Fitting q
  pub same : bytes ≡ frame q

pub record LineAsks (line : List ℕ) (q : Request) : Type 0 where
  pub fitting : Fitting q
  pub spells : Spells line (frame q)

-- the decoded frame. The pixels of a row stay with the bytes, from the third on; it has their count
abbrev pub decoded : Request → code.Request
decoded (new w h r g b) = New w h r g b
decoded (row y pixels) = Row y (length pixels)
decoded (score kind opacity) = Score kind opacity
decoded (paint kind opacity) = Paint kind opacity

-- A frame gives a request or a refusal number, never both: the request that the bytes ask for, and the number exactly where they ask for none
pub data DecodeSays (bytes : List ℕ) (r : Outcome code.Request) : Type 0 where
  asked : (q : Request) → Asks bytes q → r ≡ Done (decoded q) → DecodeSays bytes r
  refused : ((q : Request) → Asks bytes q → ⊥) → r ≡ Refused malformed → DecodeSays bytes r

-- the same of a line, with the bytes beside the frame, and zeros after them up to the longest frame's 50
abbrev pub read_as : Request → Read
read_as q = record { frame = Ok (decoded q); bytes = frame q ++ replicate (50 - length (frame q)) 0 }

abbrev pub unread : Read
unread = record { frame = Err Malformed; bytes = replicate 50 0 }

pub data ReadFrameSays (line : List ℕ) (r : Read) : Type 0 where
  asked : (q : Request) → LineAsks line q → r ≡ read_as q → ReadFrameSays line r
  refused : ((q : Request) → LineAsks line q → ⊥) → r ≡ unread → ReadFrameSays line r

-- the line that a reader holds: one that was longer than its room is malformed
abbrev pub ReadsTold : Told → Read → Type 0
ReadsTold (whole line) r = ReadFrameSays line r
ReadsTold too_long r = r ≡ unread

abbrev pub ReadLineSays : Line → List ℕ → Read → Type 0
ReadLineSays line text r = ReadsTold (heard line text) r
