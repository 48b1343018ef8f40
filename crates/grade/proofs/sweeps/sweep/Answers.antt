use mathlib.Core.Path.{◌≡◌, refl, sym, ◌∙◌, ap}
use Prim.Native.Nat.{ℕ, ◌+◌, ◌-◌, ◌≤◌, ◌<◌}
use lib.Ieee.{of_bits, div, Float, nan}
use lib.ListN.{get_or, take}
use Rattle.std.proofs.lemmas.List.{get_or-take}
use Rattle.std.specs.Prelude.{List, Some}
use Rattle.grade.specs.Finalize.{finalized}
use Rattle.grade.specs.Sweep.{change_at, best_of}
use Rattle.grade.specs.SweepLaws.{best_of-taken, best_of-kept, swept-nothing, level_found, swept_none, swept-some}
use Rattle.grade.specs.Swept.{level, change_of, swept}
use native.Mathlib.Omega.{arith}
use Rattle.grade.proofs.sweeps.sweep.Goals as goal
use Rattle.grade.proofs.sweeps.sweep.Goals.{After-loop-level, then-change-lowest, else-change-lowest}

-- `grade::sweeps::sweep` meets its contract. The loop carries the best level so far, if there is one, and its change, or infinity.

pub returns-then-s-eq0 : goal.returns-then-s-eq0
returns-then-s-eq0 c =
    let g = c.args in
    c.no_score.ensures ∙ swept-nothing g.s g.levels.now g.n c.if-s-eq0.true c.requires.0

pub loop-level-init : goal.loop-level-init
unfolding best_of of_bits div
loop-level-init c = (omega arith, refl, refl)

-- a level of the part is that of the whole
item : (xs : List Float) (n i : ℕ) → i < n → get_or (take (n - 0) xs) i nan ≡ level xs i
item xs n i h =
    let z : n - 0 ≡ n = omega arith in
    ap (λ (k : ℕ). get_or (take k xs) i nan) z ∙ get_or-take n xs i nan h

pub loop-level-preserved : goal.loop-level-preserved
loop-level-preserved c =
    let l = c.loop-level in
    let g = c.args in
    let ch = change_of g.s g.levels.now in
    let bound : l.level-index + 1 ≤ g.n = omega arith in
    let same = item g.levels.now g.n l.level-index (omega arith) in
    let step = c.change_from-change.ensures ∙ ap (λ (a : Float). (finalized g.s a).change) same in
    elim c.if-change-lowest.branch [
      | then-change-lowest w ↦
          let e = best_of-taken ch l.level-index (rw (step, l.invariant.2) at w.if-change-lowest.true) in
          (bound, w.best-is ∙ ap Some same ∙ ap (level_found g.levels.now) (sym e), w.lowest-is ∙ step ∙ ap (change_at ch) (sym e))
      | else-change-lowest w ↦
          let e = best_of-kept ch l.level-index (rw (step, l.invariant.2) at w.if-change-lowest.false) in
          (bound, w.best-is ∙ l.invariant.1 ∙ ap (level_found g.levels.now) (sym e), w.lowest-is ∙ l.invariant.2 ∙ ap (change_at ch) (sym e))
    ]

-- after the loop it is that of all n levels
found : (c : After-loop-level) → let g = c.args in c.loop-level.best ≡ level_found g.levels.now (best_of (change_of g.s g.levels.now) g.n)
found c =
    let l = c.loop-level in
    let g = c.args in
    let e : l.level-index ≡ g.n = omega arith in
    l.invariant.1 ∙ ap (λ (k : ℕ). level_found g.levels.now (best_of (change_of g.s g.levels.now) k)) e

pub returns-in_default : goal.returns-in_default
unfolding swept
returns-in_default c =
    let g = c.args in
    c.no_score-in_default.ensures ∙ swept_none g.s g.levels.now (best_of (change_of g.s g.levels.now) g.n) (sym c.in_default.is ∙ found (goal.at.returns-in_default c).After-loop-level)

pub returns : goal.returns
unfolding swept
returns c =
    let g = c.args in
    swept-some g.s g.levels.now (best_of (change_of g.s g.levels.now) g.n) c.in-Some.opacity c.finalize_with.result (sym c.in-Some.is ∙ found (goal.at.returns c).After-loop-level) c.finalize_with.ensures
