use native.Mathlib.Omega.{arith}
use lib.Ieee.{of_bits}
use Rattle.session.specs.SheetLaws.{made}
use Rattle.session.proofs.sheet.make.Goals as goal

-- `session::sheet::make` meets its contract: both pictures are filled and within 0..1, so that the table is built.

pub returns : goal.returns
unfolding of_bits
returns c =
    let a = c.args in
    made a.w a.h a.red a.green a.blue _ _ a.table.now _ _ c.requires.sides (omega (arith, c.ranges.red)) (omega (arith, c.ranges.green)) (omega (arith, c.ranges.blue)) c.requires.lent.2
    c.fill.ensures
    (rw (c.channel.ensures, c.channel-2.ensures, c.channel-3.ensures) at c.fill-2.ensures)
    c.build.ensures
