use Rattle.grade.specs.FinalizeLaws.{colour_held, counted_steps}
use Rattle.grade.proofs.parts.plain_score.Goals as goal

-- `grade::parts::plain_score` meets its contract: its steps are the law's.

pub returns : goal.returns
returns c =
    let x = c.args in
    let p = c.requires in
    counted_steps x.s x.opacity x.a c.all_drawn-after.result x.before c.narrow.result x.count p.opacity.0 x.red x.green x.blue
    p.some p.colours c.all_drawn-after.ensures p.before c.narrow.ensures

pub float_to_float-result : goal.float_to_float-result
float_to_float-result c = colour_held c.args.s c.args.a c.args.red 0 c.requires.colours.0 c.requires.numbers.0

pub float_to_float-result-2 : goal.float_to_float-result-2
float_to_float-result-2 c = colour_held c.args.s c.args.a c.args.green 1 c.requires.colours.1 c.requires.numbers.1

pub float_to_float-result-3 : goal.float_to_float-result-3
float_to_float-result-3 c = colour_held c.args.s c.args.a c.args.blue 2 c.requires.colours.2 c.requires.numbers.2
