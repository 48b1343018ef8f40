-- Rules: some elements of a list, in their order, over any element.
use Rattle.std.specs.Prelude.{List, [], ◌∷◌}

pub data InOrder {A : Type 0} : List A → List A → Type 0 where
  done : InOrder [] []
  kept : {x : A} {k l : List A} → InOrder k l → InOrder (x ∷ k) (x ∷ l)
  left : {x : A} {k l : List A} → InOrder k l → InOrder k (x ∷ l)
