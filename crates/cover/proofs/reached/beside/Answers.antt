use mathlib.Core.Path.{◌≡◌, ◌∙◌, ap}
use borrow.Author.Rules.{rules}
use lib.Signed.{lt_z}
use mir.Syntax.{w32}
use mir.Val.{SFits}
use mir.Facts.{to_z-of_z}
use Rattle.cover.specs.declared.Kind.{Kind}
use Rattle.cover.specs.declared.Reach.{Reach}
use Rattle.cover.specs.Cover.{bad_places, reach}
use Rattle.cover.specs.CoverLaws.{turned-places}
use Rattle.cover.specs.ReachRows.{turned, beside}
use Rattle.cover.proofs.reached.beside.Goals as goal
use Rattle.cover.proofs.reached.beside.Goals.{After-row_reach-columns}

-- `cover::reached::beside` meets its contract: the row reach of the turned shape is empty.

pub row_reach-columns-requires : goal.row_reach-columns-requires
row_reach-columns-requires c =
    record { rows = c.requires.columns; places = ap bad_places c.turned.ensures ∙ turned-places c.args.kind ∙ c.requires.places }

module _ (c : After-row_reach-columns) where
  first_fits : SFits w32 c.row_reach-columns.result.first
  first_fits = search rules

  last_fits : SFits w32 c.row_reach-columns.result.last
  last_fits = search rules

  columns : c.row_reach-columns.result ≡ reach (turned c.args.kind) c.args.w
  columns = c.row_reach-columns.ensures ∙ ap (λ (k : Kind). reach k c.args.w) c.turned.ensures

pub returns : goal.returns
unfolding beside
returns c =
    rw (to_z-of_z (last_fits (goal.at.returns c).After-row_reach-columns), to_z-of_z (first_fits (goal.at.returns c).After-row_reach-columns)) (ap (λ (t : Reach). lt_z t.last t.first) (columns (goal.at.returns c).After-row_reach-columns))
