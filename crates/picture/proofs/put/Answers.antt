use native.Mathlib.Omega.{arith}
use lib.ListN.{length-set}
use Rattle.picture.proofs.put.Goals as goal

-- Three stores.

pub bounds-canvas-k-2 : goal.bounds-canvas-k-2
bounds-canvas-k-2 c = simp length-set (omega arith)

pub bounds-canvas-k-3 : goal.bounds-canvas-k-3
bounds-canvas-k-3 c = simp length-set (omega arith)
