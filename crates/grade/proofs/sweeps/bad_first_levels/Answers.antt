use mathlib.Core.Path.{◌≡◌, ◌∙◌, ap}
use mathlib.Core.Bool.{not}
use Prim.Native.Nat.{ℕ, ◌-◌}
use lib.ListN.{take}
use Rattle.float.specs.Within.{all_within}
use native.Mathlib.Omega.{arith}
use Rattle.grade.proofs.sweeps.bad_first_levels.Goals as goal

-- `grade::sweeps::bad_first_levels` meets its contract: the part from 0 to n is the first n.

pub returns : goal.returns
returns c =
    let a = c.args in
    let z : a.n - 0 ≡ a.n = omega arith in
    ap not (c.all_within.ensures ∙ ap (λ (k : ℕ). all_within (take k a.levels.now)) z)
