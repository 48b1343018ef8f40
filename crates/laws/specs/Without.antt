-- Rules: a list without its element j: later ones move up. Over any element.
use Rattle.std.specs.Prelude.{List, ◌++◌, ℕ, suc, take, drop}

module _ {A : Type 0} where
  unfoldable pub without : ℕ → List A → List A
  without j l = take j l ++ drop (suc j) l
