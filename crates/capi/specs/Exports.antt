-- Rules: document 01, "covered-pixel counts, span ends and narrowing of bits as C functions on numbers. Each answers one i64: the value, or -n for refusal n; a span end of a row y without a covered pixel, y outside the picture included, is -9".
use Rattle.std.specs.Prelude.{◌≡◌, Bool, true, false, ℕ, zero, suc, ℤ, pos, negsuc}
use Rattle.std.specs.Float.{binary32, binary64}
use Rattle.std.specs.Float.Ieee.{of_bits, to_bits}
use Rattle.laws.specs.Ends.{Ends, none, ends}
use Rattle.float.specs.Narrowed.{narrowed}
use Rattle.cover.specs.declared.Kind.{Kind}
use Rattle.cover.specs.declared.Kind.TheVariants.{Circle, Triangle, Quad}
use Rattle.cover.specs.Cover.{count, row_ends, refusal_of}

abbrev pub SillbadgerNarrowBitsSays : ℕ → ℤ → Type 0
SillbadgerNarrowBitsSays b r = r ≡ pos (to_bits binary32 (narrowed (of_bits binary64 b)))

-- the value, or -n for refusal n
abbrev pub exported : ℕ → ℤ → ℤ
exported zero value = value
exported (suc n) value = negsuc n

-- a span end, -9 where there is none
abbrev pub left_end : Ends → ℤ
left_end none = negsuc 8
left_end (ends l r) = pos l

abbrev pub right_end : Ends → ℤ
right_end none = negsuc 8
right_end (ends l r) = pos r

abbrev pub end_of : Bool → Ends → ℤ
end_of false e = left_end e
end_of true e = right_end e

-- ---- for every kind
abbrev pub CountSays : Kind → ℕ → ℕ → ℤ → Type 0
CountSays kind w h a = a ≡ exported (refusal_of kind w h) (pos (count kind w h))

abbrev pub LeftSays : Kind → ℕ → ℕ → ℤ → ℤ → Type 0
LeftSays kind w h y a = a ≡ exported (refusal_of kind w h) (left_end (row_ends kind w h y))

abbrev pub RightSays : Kind → ℕ → ℕ → ℤ → ℤ → Type 0
RightSays kind w h y a = a ≡ exported (refusal_of kind w h) (right_end (row_ends kind w h y))

-- ---- the exports
abbrev pub SillbadgerCountCircleSays : ℕ → ℕ → ℤ → ℤ → ℤ → ℤ → Type 0
SillbadgerCountCircleSays w h cx cy r a = CountSays (Circle cx cy r) w h a

abbrev pub SillbadgerCountTriangleSays : ℕ → ℕ → ℤ → ℤ → ℤ → ℤ → ℤ → ℤ → ℤ → Type 0
SillbadgerCountTriangleSays w h x0 y0 x1 y1 x2 y2 a = CountSays (Triangle x0 y0 x1 y1 x2 y2) w h a

abbrev pub SillbadgerCountQuadSays : ℕ → ℕ → ℤ → ℤ → ℤ → ℤ → ℤ → ℤ → ℤ → ℤ → ℤ → Type 0
SillbadgerCountQuadSays w h x0 y0 x1 y1 x2 y2 x3 y3 a = CountSays (Quad x0 y0 x1 y1 x2 y2 x3 y3) w h a

abbrev pub SillbadgerLeftCircleSays : ℕ → ℕ → ℤ → ℤ → ℤ → ℤ → ℤ → Type 0
SillbadgerLeftCircleSays w h cx cy r y a = LeftSays (Circle cx cy r) w h y a

abbrev pub SillbadgerLeftTriangleSays : ℕ → ℕ → ℤ → ℤ → ℤ → ℤ → ℤ → ℤ → ℤ → ℤ → Type 0
SillbadgerLeftTriangleSays w h x0 y0 x1 y1 x2 y2 y a = LeftSays (Triangle x0 y0 x1 y1 x2 y2) w h y a

abbrev pub SillbadgerLeftQuadSays : ℕ → ℕ → ℤ → ℤ → ℤ → ℤ → ℤ → ℤ → ℤ → ℤ → ℤ → ℤ → Type 0
SillbadgerLeftQuadSays w h x0 y0 x1 y1 x2 y2 x3 y3 y a = LeftSays (Quad x0 y0 x1 y1 x2 y2 x3 y3) w h y a

abbrev pub SillbadgerRightCircleSays : ℕ → ℕ → ℤ → ℤ → ℤ → ℤ → ℤ → Type 0
SillbadgerRightCircleSays w h cx cy r y a = RightSays (Circle cx cy r) w h y a

abbrev pub SillbadgerRightTriangleSays : ℕ → ℕ → ℤ → ℤ → ℤ → ℤ → ℤ → ℤ → ℤ → ℤ → Type 0
SillbadgerRightTriangleSays w h x0 y0 x1 y1 x2 y2 y a = RightSays (Triangle x0 y0 x1 y1 x2 y2) w h y a

abbrev pub SillbadgerRightQuadSays : ℕ → ℕ → ℤ → ℤ → ℤ → ℤ → ℤ → ℤ → ℤ → ℤ → ℤ → ℤ → Type 0
SillbadgerRightQuadSays w h x0 y0 x1 y1 x2 y2 x3 y3 y a = RightSays (Quad x0 y0 x1 y1 x2 y2 x3 y3) w h y a
