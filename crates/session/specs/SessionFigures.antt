-- Laws: document 01's worked example, request by request, computed on the rule; and what refuses or closes a row.
use Rattle.std.specs.Prelude.{◌≡◌, refl, true, [], ◌∷◌, pos}
use Rattle.std.specs.Float.Ieee.{of_bits, to_bits, round, add, sub, mul, div, lt, le, eq, of_int}
use Rattle.laws.specs.Before.{before}
use Rattle.laws.specs.Ends.{ends_of}
use Rattle.laws.specs.PixelSums.{span_sum}
use Rattle.laws.specs.Pictures.{list_of}
use Rattle.laws.specs.Rows.{put_row}
use Rattle.laws.specs.Tab.{tab}
use Rattle.refusal.specs.Refusals.{lowest, bad_place}
use Rattle.float.specs.Narrowed.{narrowed}
use Rattle.float.specs.Clamped.{clamped}
use Rattle.float.specs.Within.{within}
use Rattle.cover.specs.declared.Kind.TheVariants.{Circle}
use Rattle.cover.specs.Cover.{covered, bad_places}
use Rattle.sums.specs.Sums.{no_sums, pixel_sums, plus, minus}
use Rattle.grade.specs.Finalize.{error_before, colour_of, error_after, colour_at, before_at, after_at, wide_change, no_score, finalized}
use Rattle.tally.specs.Tally.{total_of}
use Rattle.picture.specs.Painting.{blended, painted}
use Rattle.frame.specs.Frames.{new, row, score, paint}
use Rattle.frame.specs.declared.Values.{Values}
use Rattle.frame.specs.declared.Answer.TheVariants.{Made, Set, Scored, Painted, Refused}
use Rattle.session.specs.Session.{Session, nothing, channel, bad_sides, misplaced, refusal, sums_of, score_of, painted_of, values_of, taken, given, after, answer}

-- after 010101000000, after 0200FFFFFF, after the 04
abbrev first : Session
first = after nothing (new 1 1 0 0 0)

abbrev second : Session
second = after first (row 0 (255 ∷ 255 ∷ 255 ∷ []))

abbrev third : Session
third = after second (paint (Circle (pos 0) (pos 0) (pos 1)) 0x3f000000)

abbrev values : Values
values = record { count = 1; change = 0xc0100000; red = 0x3f800000; green = 0x3f800000; blue = 0x3f800000 }

-- the circle covers the one pixel
pub example : covered (Circle (pos 0) (pos 0) (pos 1)) 0 0 ≡ true
    → (answer nothing (new 1 1 0 0 0) ≡ Made)
    × (answer first (row 0 (255 ∷ 255 ∷ 255 ∷ [])) ≡ Set)
    × (answer second (score (Circle (pos 0) (pos 0) (pos 1)) 0x3f000000) ≡ Scored values)
    × (answer second (paint (Circle (pos 0) (pos 0) (pos 1)) 0x3f000000) ≡ Painted values 0x3fe8000000000000)
unfolding of_bits to_bits round add sub mul div lt le eq of_int before ends_of span_sum list_of put_row tab lowest bad_place narrowed clamped within bad_places no_sums pixel_sums plus minus error_before colour_of error_after colour_at before_at after_at wide_change no_score finalized total_of blended painted channel bad_sides misplaced refusal sums_of score_of painted_of values_of taken given after answer
example c = (refl, refl, rw c refl, rw c refl)

-- before the first 81, past the last row, of another length, after an 84: 8. A size: 1. Place before opacity: 4, then 5
pub refusals : (answer nothing (row 0 []) ≡ Refused 8)
    × (answer first (row 1 (1 ∷ 2 ∷ 3 ∷ [])) ≡ Refused 8)
    × (answer first (row 0 (1 ∷ 2 ∷ [])) ≡ Refused 8)
    × (answer third (row 0 (1 ∷ 2 ∷ 3 ∷ [])) ≡ Refused 8)
    × (answer third (new 17 1 0 0 0) ≡ Refused 1)
    × (answer third (new 16 16 0 0 0) ≡ Made)
    × (answer first (score (Circle (pos 0) (pos 8192) (pos 1)) 0x40000000) ≡ Refused 4)
    × (answer first (score (Circle (pos 0) (pos 8191) (pos 1)) 0x40000000) ≡ Refused 5)
unfolding of_bits to_bits round add sub mul div lt le eq of_int before ends_of span_sum list_of put_row tab lowest bad_place narrowed clamped within bad_places no_sums pixel_sums plus minus error_before colour_of error_after colour_at before_at after_at wide_change no_score finalized total_of blended painted channel bad_sides misplaced refusal sums_of score_of painted_of values_of taken given after answer
refusals = (refl, refl, refl, refl, refl, refl, refl, refl)
