-- Rules: the operations of f32 by short signs. Each is rounded once, to the nearest, ties to even.
use Rattle.std.specs.Prelude.{Float}
use Rattle.std.specs.Float.{binary32}
use Rattle.std.specs.Float.Ieee.{add, sub, mul}

abbrev pub ◌⊞◌ : Float → Float → Float
x ⊞ y = add binary32 x y

abbrev pub ◌⊟◌ : Float → Float → Float
x ⊟ y = sub binary32 x y

abbrev pub ◌⊠◌ : Float → Float → Float
x ⊠ y = mul binary32 x y

infixl 6 ◌⊞◌ ◌⊟◌
infixl 7 ◌⊠◌
