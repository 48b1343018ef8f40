-- Rules: document 01's refusals of refinement. Lists are looked at below their count only, and an entry that is nothing never.
use Rattle.std.specs.Prelude.{not, ◌||◌, List, [], ◌∷◌, ◌++◌, ℕ, ltb, Float, length}
use Rattle.float.specs.Within.{all_within}
use Rattle.refusal.specs.Refusals.{Test, lowest, size_if, length_if, count_if, place_if, opacity_if, colour_if, pixel_if, bad_size}
use Rattle.refusal.specs.Lengths.{bad_picture}
use Rattle.picture.specs.Pixels.{bad_colour}
use Rattle.shapes.specs.declared.Shape.{Shape}
use Rattle.shapes.specs.declared.Shapes.{Shapes}
use Rattle.shapes.specs.declared.Candidates.{Candidates}
use Rattle.shapes.specs.declared.Ranges.{Ranges}
use Rattle.shapes.specs.Lists.{listed, offered}
use Rattle.shapes.specs.Ranges.{ranges_of, shapes_in}

-- the shapes that are looked at: of the list and of the candidates
abbrev pub looked_at : Shapes → Candidates → List Shape
looked_at list candidates = listed list ++ shapes_in (offered candidates)

-- the table's tests: of sizes, of the lengths of the target and the two work pictures, of the counts of shapes, candidates and passes
abbrev pub size_tests : ℕ → ℕ → ℕ → ℕ → ℕ → ℕ → ℕ → ℕ → List Test
size_tests w h target first second shapes candidates passes =
    size_if (bad_size w h)
    ∷ length_if (bad_picture w h target || bad_picture w h first || bad_picture w h second)
    ∷ count_if (ltb 64 shapes || ltb 1024 candidates || ltb 16 passes)
    ∷ []

-- and of what is listed and lent; the colours are those of the shapes and of the background
abbrev pub range_tests : Ranges → Float → Float → Float → List Float → List Test
range_tests r red green blue target =
    place_if (not r.places)
    ∷ opacity_if (not r.opacities)
    ∷ colour_if (not r.colours || bad_colour red green blue)
    ∷ pixel_if (not (all_within target))
    ∷ []

-- the number, 0 where refinement is done. Of the two work pictures only their lengths count
unfoldable pub refusal_of : ℕ → ℕ → Float → Float → Float → List Float → Shapes → Candidates → ℕ → ℕ → ℕ → ℕ
refusal_of w h red green blue target list candidates passes first second =
    lowest
    (size_tests w h (length target) first second list.count candidates.count passes
    ++ range_tests (ranges_of (looked_at list candidates)) red green blue target)
