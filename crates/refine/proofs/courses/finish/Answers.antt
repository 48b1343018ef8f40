use Rattle.refine.proofs.courses.finish.Goals as goal

-- Each picture is drawn.

pub draw-requires : goal.draw-requires
draw-requires c = (c.requires.0, c.requires.1, c.requires.2)

pub draw-requires-2 : goal.draw-requires-2
draw-requires-2 c = (c.requires.0, c.requires.1, c.requires.3)

pub returns : goal.returns
returns c l t e = (c.draw.ensures.1 l t e, c.draw-2.ensures.1 l t e)
