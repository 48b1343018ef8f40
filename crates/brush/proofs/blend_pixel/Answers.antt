use Rattle.brush.specs.BrushLaws.{pixel}
use Rattle.brush.proofs.blend_pixel.Goals as goal

-- Three numbers are read and mixed, then stored.

pub returns : goal.returns
returns c =
    rw (c.mix-red.ensures, c.mix-green.ensures, c.mix-blue.ensures) (pixel c.args.brush c.args.pixel.now c.requires)
