use mathlib.Core.Path.{◌∙◌}
use native.Mathlib.Omega.{arith}
use Rattle.gather.specs.RunSums.{Reached}
use Rattle.gather.specs.RunSumLaws.{none_spans, some_reached, none_reached}
use Rattle.gather.proofs.spans.span_sums.Goals as goal
use Rattle.gather.proofs.spans.span_sums.Goals.{Else-rows}

-- `gather::spans::span_sums` meets its contract: over the rows of the reach, or none.

pub returns-then-rows : goal.returns-then-rows
returns-then-rows c =
    let a = c.args in
    c.new.ensures
    ∙ none_spans a.kind a.w a.h c.requires.sizes.h_high (none_reached a.kind a.w a.h c.reach_rows-rows.result c.reach_rows-rows.ensures c.if-rows.true) a.table.now

module _ (c : Else-rows) where
  reached : Reached c.args.kind c.args.w c.args.h c.reach_rows-rows.result.top c.reach_rows-rows.result.bottom
  reached = let a = c.args in some_reached a.kind a.w a.h c.reach_rows-rows.result c.reach_rows-rows.ensures (omega (arith, c.if-rows.false))

pub reached_sums-requires : goal.reached_sums-requires
reached_sums-requires c = record { sizes = c.requires.sizes; places = c.requires.places; lent = c.requires.lent; rows = reached (goal.at.reached_sums-requires c).Else-rows }

pub returns : goal.returns
returns c = c.reached_sums.ensures
