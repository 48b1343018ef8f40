use mathlib.Core.Path.{ap, ◌∙◌}
use Prim.Native.Nat.{◌+◌, ◌*◌}
use Rattle.picture.specs.Strokes.{pixel_put}
use Rattle.picture.proofs.put_pair.Goals as goal

-- One pixel after the other.

pub returns : goal.returns
returns c =
    let a = c.args in
    c.put-2.ensures ∙ ap (pixel_put (a.i * 2 + 1) a.b) c.put.ensures
