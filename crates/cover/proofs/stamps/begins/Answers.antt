use mathlib.Core.Path.{◌≡◌}
use mathlib.Core.Bool.{true, ◌&&◌}
use lib.IntN.{ℤ, pos, ◌+ℤ◌, ◌-ℤ◌}
use lib.Signed.{◌<ℤ◌, le_z, lt_z}
use mir.Syntax.{w32}
use mir.Val.{to_z, of_z}
use Rattle.laws.specs.Bools.{and_left, and_right}
use Rattle.laws.specs.Bounds.{Is, ldw, unsigned, is+, is-, fits+, fits-}
use Rattle.laws.specs.Fit.{le_true, lt_true}
use Rattle.laws.specs.Order.{≤ℤ-antisym}
use Rattle.cover.proofs.stamps.begins.Goals as goal
use Rattle.cover.proofs.stamps.begins.Goals.{Start}

-- `cover::stamps::begins` meets its contract: three comparisons.

module _ (s : Start) where
  abbrev low : Is (to_z w32 (of_z w32 (to_z w32 (of_z w32 s.args.c) -ℤ to_z w32 (of_z w32 s.args.r)))) (s.args.c -ℤ s.args.r) 16382
  low = is- w32 tt (ldw w32 tt s.requires.circle.0) (ldw w32 tt s.requires.circle.1)

  abbrev high : Is (to_z w32 (of_z w32 (to_z w32 (of_z w32 s.args.c) +ℤ to_z w32 (of_z w32 s.args.r)))) (s.args.c +ℤ s.args.r) 16382
  high = is+ w32 tt (ldw w32 tt s.requires.circle.0) (ldw w32 tt s.requires.circle.1)

  from-read : to_z w32 s.args.from ≡ pos s.args.from
  from-read = (unsigned w32 s.args.from 255 s.requires.places.0 tt).is

  n-read : to_z w32 s.args.n ≡ pos s.args.n
  n-read = (unsigned w32 s.args.n 256 s.requires.places.1 tt).is

pub overflow_sub-low : goal.overflow_sub-low
overflow_sub-low s = fits- tt (ldw w32 tt s.requires.circle.0) (ldw w32 tt s.requires.circle.1)

pub overflow_add-result : goal.overflow_add-result
overflow_add-result s = fits+ tt (ldw w32 tt s.requires.circle.0) (ldw w32 tt s.requires.circle.1)

shown : (low high : ℤ) (from n : ℤ) → (le_z low from && le_z from low) && lt_z high n ≡ true → (low ≡ from) × (high <ℤ n)
shown low high from n e =
    let a = le_z low from in
    let b = le_z from low in
    let d = lt_z high n in
    let l = and_left (a && b) d e in
    (≤ℤ-antisym (le_true low from (and_left a b l)) (le_true from low (and_right a b l)), lt_true high n (and_right (a && b) d e))

pub returns : goal.returns
returns s e =
    let a = s.args in
    shown (a.c -ℤ a.r) (a.c +ℤ a.r) (pos a.from) (pos a.n) (rw ((low (goal.at.returns s).Start).is, (high (goal.at.returns s).Start).is, from-read (goal.at.returns s).Start, n-read (goal.at.returns s).Start) at e)
