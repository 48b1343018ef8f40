use mathlib.Core.Path.{◌∙◌, ap}
use Rattle.cover.specs.declared.Kind.{Kind}
use Rattle.cover.specs.declared.reached.Rows.{Rows}
use Rattle.cover.specs.Cover.{bad_places}
use Rattle.cover.specs.CoverLaws.{turned-places}
use Rattle.cover.specs.ReachRows.{rows_of}
use Rattle.cover.proofs.stamps.first_column.Goals as goal

-- `cover::stamps::first_column` meets its contract: the columns are the rows of the turned shape.

pub rows_of-columns-requires : goal.rows_of-columns-requires
rows_of-columns-requires c =
    record { rows = c.requires.columns; places = ap bad_places c.turned.ensures ∙ turned-places c.args.kind ∙ c.requires.places }

pub returns : goal.returns
returns c =
    ap (λ (t : Rows). t.top) c.rows_of-columns.ensures ∙ ap (λ (k : Kind). (rows_of k c.args.w).top) c.turned.ensures
