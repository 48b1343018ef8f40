-- Rules: the forms in which passes are proved: the course before the first trial, at the beginning of a pass, and as it is answered. The answer's promise does not rest on them.
use Rattle.std.specs.Prelude.{◌+◌, Float, None}
use Rattle.shapes.specs.declared.Shapes.{Shapes}
use Rattle.trials.specs.declared.Course.{Course}
use Rattle.refine.specs.declared.Refined.{Refined}

-- before the first trial, the total of the list being old
abbrev pub untried : Shapes → Float → Course
untried list old = record { list = list; place = 0; passes = 0; trials = 0; acceptances = 0; made = 0; old = old }

-- a pass begins
abbrev pub restarted : Course → Course
restarted c = record { list = c.list; place = 0; passes = c.passes + 1; trials = c.trials; acceptances = c.acceptances; made = 0; old = c.old }

-- what is answered at the end
abbrev pub answered : Course → Refined
answered c = record { refusal = None; shapes = c.list; passes = c.passes; trials = c.trials; acceptances = c.acceptances }
