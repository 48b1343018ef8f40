use Rattle.traces.specs.DrawingLaws.{well_placed}
use Rattle.trials.proofs.rows_of.Goals as goal

-- What `reach_rows` ensures.

pub reach_rows-requires : goal.reach_rows-requires
reach_rows-requires c = record { sizes = c.requires.0; places = well_placed c.args.s c.requires.1 }

pub returns : goal.returns
returns c = c.reach_rows.ensures
