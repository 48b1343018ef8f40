use Prim.Native.Nat.{ℕ, ◌-◌, ◌+◌}
use native.Mathlib.Omega.{arith}
use mathlib.Core.Path.{◌≡◌, refl, ap, ◌∙◌}
use mathlib.Core.List.{List, [], ◌∷◌, ◌++◌}
use lib.ListN.{length, take, set, length-set}
use Rattle.laws.specs.WithoutLaws.{shifted-all, pushed}
use Rattle.shapes.specs.declared.Shape.{Shape}
use Rattle.shapes.proofs.exchange.Goals as goal
use Rattle.shapes.proofs.exchange.Goals.{Start}

-- The later shapes move up, and x is stored behind them: the first items are then the list without shape j, x at its end.

-- an array's length is among what owning the parameter tells
len : (c : Start) → length c.args.s.items ≡ 64
len c = c.well_formed.0.1.1.0.1.0.1

pub returns : goal.returns
returns c =
    let a = c.args in
    let n = a.s.count in
    let moved = c.copy_within.new.self in
    let long : length moved ≡ 64 = c.copy_within.ensures.len ∙ len (goal.at.returns c).Start in (
      refl,
      simp length-set long,
      ap (λ (k : ℕ). take k (set moved (n - 1) a.x)) {x = n} {y = n - 1 + 1} (omega arith)
          ∙ pushed moved (n - 1) a.x (omega (arith, long))
          ∙ ap (λ (k : List Shape). k ++ (a.x ∷ []))
          (ap (take (n - 1)) c.copy_within.ensures.after ∙ shifted-all a.s.items a.j n (omega arith) (omega (arith, len (goal.at.returns c).Start))),
    )
