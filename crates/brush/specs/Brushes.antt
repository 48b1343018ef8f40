-- Rules: document 01, "Paint: each covered channel becomes m·old + a·colour in f32", for pixels one after another. A brush is what opacity and colour come to, worked out once.
use Rattle.std.specs.Prelude.{◌≡◌, List, ℕ, Float}
use Rattle.std.specs.Float.{nan}
use Rattle.laws.specs.F32.{◌⊞◌, ◌⊟◌, ◌⊠◌}
use Rattle.laws.specs.Pictures.{channel_of}
use Rattle.laws.specs.Strokes.{stroked}
use Rattle.float.specs.Within.{one}
use Rattle.brush.specs.declared.Brush.{Brush}

-- m = 1 - a, and the three products a·colour
abbrev pub brush_of : Float → Float → Float → Float → Brush
brush_of opacity red green blue = record {
  keep = one ⊟ opacity;
  red = opacity ⊠ red;
  green = opacity ⊠ green;
  blue = opacity ⊠ blue;
}

-- a channel: each operation is rounded once
abbrev pub mixed : Brush → ℕ → Float → Float
mixed b ch old = b.keep ⊠ old ⊞ channel_of b.red b.green b.blue ch

abbrev pub brushed : Brush → List Float → List Float
brushed b run = stroked nan (mixed b) run

abbrev pub BrushOfSays : Float → Float → Float → Float → Brush → Type 0
BrushOfSays opacity red green blue r = r ≡ brush_of opacity red green blue

-- of the lent run, old as it was, new as it is left
abbrev pub BlendRunSays : Brush → List Float → List Float → Type 0
BlendRunSays b old new = new ≡ brushed b old
