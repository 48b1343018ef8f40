use lib.Dec.{T}
use lib.Ieee.{binary32}
use lib.Ieee as ieee
use Rattle.laws.specs.Bools.{true_is}
use Rattle.demands.specs.KeepLaws.{two-done}
use Rattle.demands.proofs.two_calls.Goals as goal
use Rattle.demands.proofs.two_calls.Goals.{Start}

-- Each call keeps the table (`keeps`), so the build at the end is not refused and leaves the same.

-- an opacity is a number of its format
single : (s : Start) → T (ieee.fits binary32 s.args.first.opacity)
single s = true_is _ s.well_formed.0.1.1.1.0.1

single-2 : (s : Start) → T (ieee.fits binary32 s.args.second.opacity)
single-2 s = true_is _ s.well_formed.1.0.1.1.1.0.1

pub returns : goal.returns
returns c =
    let a = c.args in
    two-done a.first a.second a.w a.h a.target.now a.canvas.now a.table.now _ _ _ _ a.fresh.now _ _ _ _ c.requires.built c.requires.room (single (goal.at.returns c).Start) (single-2 (goal.at.returns c).Start) c.run_call-first.ensures
    c.run_call-second.ensures c.build-afresh.ensures
