use mathlib.Core.Path.{ap}
use lib.Ieee.{of_bits}
use Rattle.probe_picture.specs.Probes.{probed_total}
use Rattle.probe_picture.proofs.probe_sse_total.Goals as goal

-- What `sse_total` promises, as C has it.

pub returns-in-Ok : goal.returns-in-Ok
returns-in-Ok c =
    ap probed_total (rw c.in-Ok.is at c.sse_total.ensures)

pub returns-in-Err : goal.returns-in-Err
unfolding of_bits
returns-in-Err c =
    rw c.number.ensures (ap probed_total (rw c.in-Err.is at c.sse_total.ensures))
