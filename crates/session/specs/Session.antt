-- Rules: document 01, "The program": the running state, what each request makes of it, and how it is answered.
use Rattle.std.specs.Prelude.{Bool, true, false, not, ◌||◌, cond, List, [], ◌∷◌, map, ℕ, ◌*◌, eqb, ltb, leb, pos, length, Float}
use Rattle.std.specs.Float.{binary32, binary64}
use Rattle.std.specs.Float.Ieee.{of_int, div, of_bits, to_bits}
use Rattle.laws.specs.Before.{before}
use Rattle.laws.specs.PixelSums.{span_sum}
use Rattle.laws.specs.Rows.{put_row}
use Rattle.refusal.specs.Refusals.{Test, lowest, size_if, place_if, opacity_if}
use Rattle.float.specs.Within.{nought, within}
use Rattle.cover.specs.declared.Kind.{Kind}
use Rattle.cover.specs.Cover.{covered, bad_places}
use Rattle.sums.specs.declared.ShapeSums.{ShapeSums}
use Rattle.sums.specs.Sums.{no_sums, plus, minus}
use Rattle.grade.specs.declared.Score.{Score}
use Rattle.grade.specs.Finalize.{finalized}
use Rattle.gather.specs.Gathered.{pixel_at}
use Rattle.tally.specs.Tally.{total_of}
use Rattle.picture.specs.Pixels.{filled}
use Rattle.picture.specs.Painting.{painted}
use Rattle.lines.specs.Hex.{malformed}
use Rattle.frame.specs.Frames.{Request, new, row, score, paint}
use Rattle.frame.specs.declared.Values.{Values}
use Rattle.frame.specs.declared.Answer.{Answer}
use Rattle.frame.specs.declared.Answer.TheVariants.{Made, Set, Scored, Painted, Refused}

-- nothing before the first 81; then the picture's sizes, whether an 84 was given since that 81, target and canvas
pub data Session : Type 0 where
  nothing : Session
  drawing : (w h : ℕ) (painted : Bool) (target canvas : List Float) → Session

-- byte/255 in f32: a division
unfoldable pub channel : ℕ → Float
channel b = div binary32 (of_int binary32 (pos b)) (of_int binary32 (pos 255))

-- ---- refusals
-- pictures up to 16 by 16
unfoldable pub bad_sides : ℕ → ℕ → Bool
bad_sides w h = ltb w 1 || ltb 16 w || ltb h 1 || ltb 16 h

-- what the running state does not take: anything but a 01 before the first 81; a row that has not 3w bytes, or y ≥ h, or comes after an 84
unfoldable pub misplaced : Session → Request → Bool
misplaced nothing (new w h r g b) = false
misplaced nothing (row y pixels) = true
misplaced nothing (score kind opacity) = true
misplaced nothing (paint kind opacity) = true
misplaced (drawing w h painted target canvas) (new w' h' r g b) = false
misplaced (drawing w h painted target canvas) (row y pixels) = not (eqb (length pixels) (w * 3)) || leb h y || painted
misplaced (drawing w h painted target canvas) (score kind opacity) = false
misplaced (drawing w h painted target canvas) (paint kind opacity) = false

abbrev pub shape_tests : Kind → ℕ → List Test
shape_tests kind opacity = place_if (bad_places kind) ∷ opacity_if (not (within (of_bits binary32 opacity))) ∷ []

abbrev pub request_tests : Request → List Test
request_tests (new w h r g b) = size_if (bad_sides w h) ∷ []
request_tests (row y pixels) = []
request_tests (score kind opacity) = shape_tests kind opacity
request_tests (paint kind opacity) = shape_tests kind opacity

-- the number, 0 for none: 8 goes before 1 to 7
unfoldable pub refusal : Session → Request → ℕ
refusal s q = cond (misplaced s q) malformed (lowest (request_tests q))

-- ---- what is done
-- the sums of a span score: place x of row y is the sum of the pixels before x
unfoldable pub sums_of : Kind → ℕ → ℕ → List Float → List Float → ShapeSums
sums_of kind w h target canvas =
    span_sum no_sums plus minus (λ y x. before no_sums plus (pixel_at w target canvas y) x) (covered kind) w h

unfoldable pub score_of : Kind → ℕ → ℕ → ℕ → List Float → List Float → Score
score_of kind opacity w h target canvas = finalized (sums_of kind w h target canvas) (of_bits binary32 opacity)

-- painted with the colour of that score
unfoldable pub painted_of : Kind → ℕ → ℕ → ℕ → List Float → List Float → List Float
painted_of kind opacity w h target canvas =
    let s : Score = score_of kind opacity w h target canvas in
    painted kind (of_bits binary32 opacity) s.red s.green s.blue w h canvas

-- floats as bits
unfoldable pub values_of : Score → Values
values_of s = record {
  count = s.count;
  change = to_bits binary32 s.change;
  red = to_bits binary32 s.red;
  green = to_bits binary32 s.green;
  blue = to_bits binary32 s.blue;
}

-- the state after a request that is not refused
unfoldable pub taken : Session → Request → Session
taken nothing (new w h r g b) = drawing w h false (filled w h nought nought nought) (filled w h (channel r) (channel g) (channel b))
taken nothing (row y pixels) = nothing
taken nothing (score kind opacity) = nothing
taken nothing (paint kind opacity) = nothing
taken (drawing w' h' painted target canvas) (new w h r g b) =
    drawing w h false (filled w h nought nought nought) (filled w h (channel r) (channel g) (channel b))
taken (drawing w h painted target canvas) (row y pixels) = drawing w h painted (put_row (w * 3) y (map channel pixels) target) canvas
taken (drawing w h painted target canvas) (score kind opacity) = drawing w h painted target canvas
taken (drawing w h painted target canvas) (paint kind opacity) = drawing w h true target (painted_of kind opacity w h target canvas)

-- and its answer
unfoldable pub given : Session → Request → Answer
given nothing (new w h r g b) = Made
given nothing (row y pixels) = Refused malformed
given nothing (score kind opacity) = Refused malformed
given nothing (paint kind opacity) = Refused malformed
given (drawing w' h' painted target canvas) (new w h r g b) = Made
given (drawing w h painted target canvas) (row y pixels) = Set
given (drawing w h painted target canvas) (score kind opacity) = Scored (values_of (score_of kind opacity w h target canvas))
given (drawing w h painted target canvas) (paint kind opacity) =
    Painted (values_of (score_of kind opacity w h target canvas)) (to_bits binary64 (total_of target (painted_of kind opacity w h target canvas)))

-- ---- one step: refused, the earlier state stays
unfoldable pub after : Session → Request → Session
after s q = cond (eqb (refusal s q) 0) (taken s q) s

unfoldable pub answer : Session → Request → Answer
answer s q = cond (eqb (refusal s q) 0) (given s q) (Refused (refusal s q))
