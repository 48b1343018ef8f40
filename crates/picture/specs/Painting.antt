-- Rules: document 01, "Paint: each covered channel becomes m·old + a·colour in f32", with m = 1 - a worked out in f32.
use Rattle.std.specs.Prelude.{◌≡◌, List, ℕ, Float}
use Rattle.std.specs.Float.{nan}
use Rattle.laws.specs.F32.{◌⊞◌, ◌⊟◌, ◌⊠◌}
use Rattle.laws.specs.RowSums.{picture_of}
use Rattle.laws.specs.Pictures.{list_of, channel_of, recoloured}
use Rattle.float.specs.Within.{one}
use Rattle.cover.specs.declared.Kind.{Kind}
use Rattle.cover.specs.Cover.{covered}

-- a channel, each operation rounded once
unfoldable pub blended : Float → Float → Float → Float
blended a colour old = (one ⊟ a) ⊠ old ⊞ a ⊠ colour

-- a picture after a shape was painted: every channel of every pixel by its place
unfoldable pub painted : Kind → Float → Float → Float → Float → ℕ → ℕ → List Float → List Float
painted kind opacity red green blue w h canvas =
    list_of w h (recoloured (covered kind) (λ ch old. blended opacity (channel_of red green blue ch) old) (picture_of nan w canvas))

-- of the lent picture, old as it was, new as it is left
abbrev pub BlendSays : Kind → Float → Float → Float → Float → ℕ → ℕ → List Float → List Float → Type 0
BlendSays kind opacity red green blue w h old new = new ≡ painted kind opacity red green blue w h old
