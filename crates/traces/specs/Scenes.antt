-- Rules: the pictures of refinement: shapes are painted as they stand over a background of one colour, and totals are those against the target.
use Rattle.std.specs.Prelude.{List, ℕ, Float, get_or, Option, None}
use Rattle.picture.specs.Painting.{painted}
use Rattle.tally.specs.Tally.{total_of}
use Rattle.picture.specs.Pixels.{filled}
use Rattle.shapes.specs.declared.Shape.{Shape}
use Rattle.shapes.specs.declared.Candidates.{Candidates}
use Rattle.shapes.specs.Lists.{offered}
use Rattle.traces.specs.Refinement.{Scene}

-- a shape is read by its fields' names alone
abbrev pub shape_painted : ℕ → ℕ → Shape → List Float → List Float
shape_painted w h s p = painted s.kind s.opacity s.red s.green s.blue w h p

abbrev pub scene_with : ℕ → ℕ → List Float → List Float → (ℕ → Option Shape) → Scene Shape (List Float)
scene_with w h target background candidate =
    record { paint = shape_painted w h; background = background; total = total_of target; candidate = candidate }

-- trial k takes candidate k; past the end, nothing
abbrev pub scene_of : ℕ → ℕ → Float → Float → Float → List Float → Candidates → Scene Shape (List Float)
scene_of w h red green blue target candidates =
    scene_with w h target (filled w h red green blue) (λ k. get_or (offered candidates) k None)
