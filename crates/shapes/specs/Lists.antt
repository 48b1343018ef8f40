-- Rules: lists by value: the shapes of a list and the candidates of the trials are those below the count.
use Rattle.std.specs.Prelude.{◌≡◌, List, [], ◌∷◌, ◌++◌, map, ℕ, length, take, Option, None, Some}
use Rattle.laws.specs.Without.{without}
use Rattle.shapes.specs.declared.Shape.{Shape}
use Rattle.shapes.specs.declared.Shapes.{Shapes}
use Rattle.shapes.specs.declared.Candidates.{Candidates}

abbrev pub listed : Shapes → List Shape
listed s = take s.count s.items

abbrev pub offered : Candidates → List (Option Shape)
offered c = take c.count c.slots

-- shape j leaves, later ones move up, x goes last
abbrev pub ExchangeSays : Shapes → ℕ → Shape → Shapes → Type 0
ExchangeSays s j x r =
    (r.count ≡ s.count) × (length r.items ≡ 64) × (listed r ≡ without j (listed s) ++ (x ∷ []))
