use mathlib.Core.Path.{refl, ◌∙◌}
use Prim.Native.Nat.{◌+◌, ◌*◌}
use native.Mathlib.Omega.{arith}
use Rattle.laws.specs.Blank.{blank}
use Rattle.gather.specs.RunSumLaws.{reached_high, reached_rows, reached_fit, reached_spans}
use Rattle.gather.proofs.spans.reached_sums.Goals as goal

-- `gather::spans::reached_sums` meets its contract: the rows of the reach are all that have a covered pixel.

pub runs-requires : goal.runs-requires
unfolding blank
runs-requires c = record { sizes = c.requires.sizes; places = c.requires.places; blank = refl }

pub add_rows-requires : goal.add_rows-requires
add_rows-requires c =
    let a = c.args in
    let g = c.requires.rows in
    let k = reached_rows a.kind a.w a.h c.requires.sizes a.top a.bottom g in
    let m = reached_high a.kind a.w a.h c.requires.sizes a.top a.bottom g ((a.w + 1) * 15) in
    record { sizes = (k.0, k.1, k.2, omega (arith, m, c.requires.lent)); runs = reached_fit a.kind a.w a.h c.requires.sizes a.top a.bottom g _ c.runs.ensures }

pub returns : goal.returns
returns c =
    let a = c.args in
    c.add_rows.ensures ∙ reached_spans a.kind a.w a.h c.requires.sizes a.top a.bottom c.requires.rows _ c.runs.ensures a.table.now
