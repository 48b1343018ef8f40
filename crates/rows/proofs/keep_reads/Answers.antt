use mathlib.Core.Path.{sym, ap, ◌∙◌}
use lib.ListN.{set}
use lib.Seq.{set-get_or}
use lib.Ieee.{Float, nan, of_bits}
use Rattle.rows.proofs.keep_reads.Goals as goal

-- `keep_reads`: what is written stands there already.

pub returns : goal.returns
unfolding of_bits
returns c = ap (λ (x : Float). set c.args.row.now 6 x) (sym c.requires.1) ∙ set-get_or c.args.row.now 6 nan
