-- Rules: how a shape crosses the C border: a slice of coordinates whose length (3, 6, 8) says its kind.
use Rattle.std.specs.Prelude.{◌≡◌, Bool, cond, ◌||◌, List, ℕ, eqb, ℤ, pos, length, get_or, Option, None, Some}
use Rattle.cover.specs.declared.Kind.{Kind}
use Rattle.cover.specs.declared.Kind.TheVariants.{Circle, Triangle, Quad}

-- some kind has so many coordinates
abbrev pub sized : ℕ → Bool
sized n = eqb n 3 || eqb n 6 || eqb n 8

abbrev pub coordinate : List ℤ → ℕ → ℤ
coordinate zs i = get_or zs i (pos 0)

-- the kind of 3, 6 or 8 coordinates, which come first
unfoldable pub kind_sized : ℕ → List ℤ → Kind
kind_sized n zs =
    cond (eqb n 3) (Circle (coordinate zs 0) (coordinate zs 1) (coordinate zs 2))
    (cond (eqb n 6)
    (Triangle (coordinate zs 0) (coordinate zs 1) (coordinate zs 2) (coordinate zs 3) (coordinate zs 4) (coordinate zs 5))
    (Quad (coordinate zs 0) (coordinate zs 1) (coordinate zs 2) (coordinate zs 3) (coordinate zs 4) (coordinate zs 5) (coordinate zs 6) (coordinate zs 7)))

-- the shape that a slice says, if it says one
abbrev pub kind_of : List ℤ → Option Kind
kind_of zs = cond (sized (length zs)) (Some (kind_sized (length zs) zs)) None

-- how many of the coordinates are read
abbrev pub wanted : ℕ → ℕ
wanted n = cond (eqb n 3) 3 (cond (eqb n 6) 6 8)

abbrev pub OutlineSays : List ℤ → Option Kind → Type 0
OutlineSays zs r = r ≡ kind_of zs
