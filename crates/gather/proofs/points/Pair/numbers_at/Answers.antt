use mathlib.Core.Path.{◌≡◌, sym, subst}
use mathlib.Core.List.{List}
use Prim.Native.Nat.{ℕ, ◌+◌, ◌≤◌, ◌<◌}
use native.Mathlib.Omega.{arith}
use native.Mathlib.Decide.{ℕ_discrete}
use lib.Dec.{T}
use lib.ListN.{get_or}
use lib.Ieee.{Float, nan, eq, binary32}
use Rattle.laws.specs.Bools.{and_left, and_right}
use Rattle.laws.specs.F32.{◌⊞◌}
use Rattle.float.specs.Within.{number}
use Rattle.float.specs.MarksLaws.{addends}
use Rattle.gather.specs.RunSums.{NumbersIn}
use Rattle.gather.proofs.points.Pair.numbers_at.Goals as goal

-- `gather::points::Pair::numbers_at` meets its contract: a sum that equals itself is a number, and so are its addends.

-- three numbers in a row
three : (xs : List Float) (at : ℕ) → T (number (get_or xs at nan)) → T (number (get_or xs (at + 1) nan)) → T (number (get_or xs (at + 2) nan)) → NumbersIn xs at (at + 3)
three xs at a b c i l h = by (ℕ_discrete i at) (ℕ_discrete i (at + 1))
  where
    between : (i at : ℕ) → at ≤ i → i < at + 3 → (i ≡ at → ⊥) → (i ≡ at + 1 → ⊥) → i ≡ at + 2
    between i at l h e f = omega (arith, e, f)

    by : Dec (i ≡ at) → Dec (i ≡ at + 1) → T (number (get_or xs i nan))
    by (yes e) f = subst (λ (k : ℕ). T (number (get_or xs k nan))) (sym e) a
    by (no e) (yes f) = subst (λ (k : ℕ). T (number (get_or xs k nan))) (sym f) b
    by (no e) (no f) = let g : i ≡ at + 2 = between i at l h e f in subst (λ (k : ℕ). T (number (get_or xs k nan))) (sym g) c

pub returns : goal.returns
returns c =
    let t = c.args.self.target.now in
    let v = c.args.self.canvas.now in
    let n = c.args.at in
    let x = get_or t (n + 1) nan ⊞ get_or v (n + 1) nan ⊞ get_or t n nan in
    let y = get_or t (n + 2) nan ⊞ get_or v (n + 2) nan ⊞ get_or v n nan in
    λ e.
    let p = addends binary32 (get_or t (n + 1) nan) (get_or v (n + 1) nan) (get_or t n nan) (and_left (eq x x) (eq y y) e) in
    let q = addends binary32 (get_or t (n + 2) nan) (get_or v (n + 2) nan) (get_or v n nan) (and_right (eq x x) (eq y y) e) in
    (three t n p.2 p.0 q.0, three v n q.2 p.1 q.1)
