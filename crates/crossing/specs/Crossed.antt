-- Rules: how a list of shapes crosses the C border: of each shape its number of coordinates, eight places for them, and four floats. Among candidates 0 coordinates are nothing.
use Rattle.std.specs.Prelude.{◌≡◌, Bool, not, cond, ◌&&◌, ◌||◌, List, [], ◌∷◌, ℕ, ◌+◌, ◌*◌, ◌/◌, ◌%◌, eqb, ℤ, pos, Float, length, take, drop, get_or, Option, None, Some}
use Rattle.std.specs.Float.{nan}
use Rattle.laws.specs.Every.{every}
use Rattle.laws.specs.Tab.{tab}
use Rattle.cover.specs.declared.Kind.{Kind}
use Rattle.cover.specs.Cover.{places}
use Rattle.shapes.specs.Blank.{blank}
use Rattle.shapes.specs.declared.Shape.{Shape}
use Rattle.shapes.specs.declared.Shapes.{Shapes}
use Rattle.shapes.specs.declared.Candidates.{Candidates}
use Rattle.shapes.specs.Lists.{listed, offered}
use Rattle.crossing.specs.Outlines.{sized, kind_sized}

-- with gaps an entry may be nothing
abbrev pub sized_or : Bool → ℕ → Bool
sized_or gaps n = sized n || gaps && eqb n 0

-- slices that are no list: their lengths do not fit each other, or no kind has so many coordinates
abbrev pub bad_list : List ℕ → List ℤ → List Float → Bool → Bool
bad_list sizes zs paints gaps =
    not (eqb (length zs) (length sizes * 8))
    || not (eqb (length paints) (length sizes * 4))
    || not (every (sized_or gaps) sizes)

-- eight places and four floats for each shape
abbrev pub Fits : List ℕ → List ℤ → List Float → Type 0
Fits sizes zs paints = (length zs ≡ length sizes * 8) × (length paints ≡ length sizes * 4)

-- shape i: its kind from its eight places; opacity, red, green, blue
unfoldable pub shape_at : List ℕ → List ℤ → List Float → ℕ → Shape
shape_at sizes zs paints i = record {
  kind = kind_sized (get_or sizes i 0) (take 8 (drop (i * 8) zs));
  opacity = get_or paints (i * 4) nan;
  red = get_or paints (i * 4 + 1) nan;
  green = get_or paints (i * 4 + 2) nan;
  blue = get_or paints (i * 4 + 3) nan;
}

unfoldable pub offer_at : List ℕ → List ℤ → List Float → ℕ → Option Shape
offer_at sizes zs paints i = cond (eqb (get_or sizes i 0) 0) None (Some (shape_at sizes zs paints i))

-- the shapes of a list, the candidates
abbrev pub shapes_of : List ℕ → List ℤ → List Float → List Shape
shapes_of sizes zs paints = tab (shape_at sizes zs paints) (length sizes)

abbrev pub offers_of : List ℕ → List ℤ → List Float → List (Option Shape)
offers_of sizes zs paints = tab (offer_at sizes zs paints) (length sizes)

-- ---- what the functions promise
abbrev pub BadListSays : List ℕ → List ℤ → List Float → Bool → Bool → Type 0
BadListSays sizes zs paints gaps r = r ≡ bad_list sizes zs paints gaps

-- lists are compared below their count
abbrev pub ReadListSays : List ℕ → List ℤ → List Float → Shapes → Type 0
ReadListSays sizes zs paints r = (r.count ≡ length sizes) × (listed r ≡ shapes_of sizes zs paints)

abbrev pub ReadOffersSays : List ℕ → List ℤ → List Float → Candidates → Type 0
ReadOffersSays sizes zs paints r = (r.count ≡ length sizes) × (offered r ≡ offers_of sizes zs paints)

-- ---- and back: entry i, coordinate and float j of it
abbrev pub place_in : Kind → ℕ → ℤ
place_in kind j = get_or (places kind) j (pos 0)

abbrev pub paint_in : Shape → ℕ → Float
paint_in s j = get_or (s.opacity ∷ s.red ∷ s.green ∷ s.blue ∷ []) j nan

abbrev pub entry : List Shape → ℕ → Shape
entry l i = get_or l i blank

abbrev pub sizes_of : List Shape → List ℕ
sizes_of l = tab (λ i. length (places (entry l i).kind)) (length l)

-- a coordinate past the kind's own is 0
abbrev pub places_of : List Shape → List ℤ
places_of l = tab (λ k. place_in (entry l (k / 8)).kind (k % 8)) (length l * 8)

abbrev pub paints_of : List Shape → List Float
paints_of l = tab (λ k. paint_in (entry l (k / 4)) (k % 4)) (length l * 4)

abbrev pub WriteListSays : Shapes → List ℕ → List ℤ → List Float → Type 0
WriteListSays list sizes zs paints = (sizes ≡ sizes_of (listed list)) × (zs ≡ places_of (listed list)) × (paints ≡ paints_of (listed list))
