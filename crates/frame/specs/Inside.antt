-- Rules: what the functions inside the crate promise one another.
use Rattle.std.specs.Prelude.{◌≡◌, Option, Some, None, List, [], ◌∷◌, ℕ, ◌+◌, ℤ, length, drop, get_or}
use Rattle.cover.specs.declared.Kind.{Kind}
use Rattle.cover.specs.Cover.{places}
use Rattle.frame.specs.Frames.{big, twos, Short, number, shape, Shaped}

-- ---- shapes
-- the coordinate that two bytes hold
pub record Coordinate (high low : ℕ) (z : ℤ) : Type 0 where
  pub short : Short z
  pub two : big 2 (twos z) ≡ high ∷ low ∷ []

-- the coordinates that bytes hold from a place on
abbrev pub Held : List ℕ → ℕ → List ℤ → Type 0
Held bytes i [] = Unit {0}
Held bytes i (z ∷ rest) = Coordinate (get_or bytes i 0) (get_or bytes (i + 1) 0) z × Held bytes (i + 2) rest

-- a kind of shape with this number, and its coordinates from the seventh byte to the last
pub record KindIn (bytes : List ℕ) (n : ℕ) (kind : Kind) : Type 0 where
  pub named : number kind ≡ n
  pub held : Held bytes 6 (places kind)
  pub size : length bytes ≡ 6 + (length (places kind) + length (places kind))

-- the opacity from the third byte to the sixth
abbrev pub OpacityIn : List ℕ → ℕ → Type 0
OpacityIn bytes opacity = big 4 opacity ≡ get_or bytes 2 0 ∷ get_or bytes 3 0 ∷ get_or bytes 4 0 ∷ get_or bytes 5 0 ∷ []

-- after the frame's number, a kind of shape with its opacity
pub record ShapeIn (bytes : List ℕ) (kind : Kind) (opacity : ℕ) : Type 0 where
  pub shaped : Shaped kind opacity
  pub same : drop 1 bytes ≡ shape kind opacity

pub data ShapeFound (bytes : List ℕ) (r : Option (Kind × ℕ)) : Type 0 where
  found : (kind : Kind) (opacity : ℕ) → ShapeIn bytes kind opacity → r ≡ Some (kind, opacity) → ShapeFound bytes r
  unknown : ((kind : Kind) (opacity : ℕ) → ShapeIn bytes kind opacity → ⊥) → r ≡ None → ShapeFound bytes r
