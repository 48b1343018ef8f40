use Rattle.traces.specs.TraceLaws.{brush_long, brush-put, brush_others}
use Rattle.traces.proofs.put_brush.Goals as goal

-- Four stores.

pub returns : goal.returns
returns c = let a = c.args in (brush_long a.i a.brush a.paints.now c.requires.0 c.requires.1, brush-put a.i a.brush a.paints.now c.requires.0 c.requires.1, λ k l o. brush_others a.i a.brush a.paints.now c.requires.0 c.requires.1 k o)
