use mathlib.Core.Path.{ap}
use lib.Ieee.{of_bits}
use Rattle.probe_picture.specs.Probes.{probed_mean}
use Rattle.probe_picture.proofs.probe_mean_rgb.Goals as goal

-- What `mean_rgb` promises, as C has it.

pub returns-in-Ok : goal.returns-in-Ok
returns-in-Ok c =
    ap probed_mean (rw c.in-Ok.is at c.mean_rgb.ensures)

pub returns-in-Err : goal.returns-in-Err
unfolding of_bits
returns-in-Err c =
    rw c.number.ensures (ap probed_mean (rw c.in-Err.is at c.mean_rgb.ensures))
