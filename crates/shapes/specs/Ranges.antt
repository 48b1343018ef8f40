-- Rules: document 01's ranges of a shape's numbers, and whether all shapes of a list keep them.
use Rattle.std.specs.Prelude.{◌≡◌, Bool, not, ◌&&◌, List, [], ◌∷◌, Option, None, Some}
use Rattle.laws.specs.Every.{every}
use Rattle.float.specs.Within.{within}
use Rattle.cover.specs.Cover.{bad_places}
use Rattle.picture.specs.Pixels.{bad_colour}
use Rattle.shapes.specs.declared.Shape.{Shape}
use Rattle.shapes.specs.declared.Shapes.{Shapes}
use Rattle.shapes.specs.declared.Ranges.{Ranges}
use Rattle.shapes.specs.Lists.{listed}

abbrev pub places_fit : Shape → Bool
places_fit s = not (bad_places s.kind)

abbrev pub opacity_fits : Shape → Bool
opacity_fits s = within s.opacity

abbrev pub colour_fits : Shape → Bool
colour_fits s = not (bad_colour s.red s.green s.blue)

abbrev pub ranges_of : List Shape → Ranges
ranges_of l = record { places = every places_fit l; opacities = every opacity_fits l; colours = every colour_fits l }

-- all three, of one shape
unfoldable pub fits : Shape → Bool
fits s = places_fit s && opacity_fits s && colour_fits s

-- of two lists, one after the other
abbrev pub both : Ranges → Ranges → Ranges
both a b = record { places = a.places && b.places; opacities = a.opacities && b.opacities; colours = a.colours && b.colours }

-- the shapes among candidates; an entry that is nothing is never looked at
abbrev pub shapes_in : List (Option Shape) → List Shape
shapes_in [] = []
shapes_in (None ∷ r) = shapes_in r
shapes_in (Some s ∷ r) = s ∷ shapes_in r

abbrev pub LookAtSays : Ranges → Option Shape → Ranges → Type 0
LookAtSays r what q = q ≡ both r (ranges_of (shapes_in (what ∷ [])))

abbrev pub LookThroughSays : Shapes → Ranges → Type 0
LookThroughSays s r = r ≡ ranges_of (listed s)
