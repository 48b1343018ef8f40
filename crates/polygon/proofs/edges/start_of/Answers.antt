use mathlib.Core.Path.{sym, ap, ◌∙◌}
use mathlib.Core.Bool.{Bool, cond}
use native.Mathlib.Omega.{arith}
use lib.IntN.{pos, ◌-ℤ◌}
use mir.Syntax.{w32}
use mir.Facts.{to_z-of_z}
use Rattle.laws.specs.Rep.{v, k, ◌⊖◌, rep_eq}
use Rattle.laws.specs.Bounds.{Some, some, ld, lit, is-, fits-}
use Rattle.polygon.proofs.edges.start_of.Goals as goal
use Rattle.polygon.proofs.edges.start_of.Goals.{Start}

-- `polygon::start_of` meets its contract.

abbrev gap : Start → Some
gap s = some (is- w32 tt (ld s.ranges.a s.requires.0) (ld s.ranges.c s.requires.1))

pub overflow_sub-g : goal.overflow_sub-g
overflow_sub-g s = fits- tt (ld s.ranges.a s.requires.0) (ld s.ranges.c s.requires.1)

pub returns-then-a-gt0 : goal.returns-then-a-gt0
returns-then-a-gt0 c =
    let a = c.args.a in
    let o = c.args.c in
    (is- w32 tt (gap (goal.at.returns-then-a-gt0 c).Start).is (lit (pos 1))).is
    ∙ rep_eq ((v a ⊖ v o) ⊖ k 1) ((v a ⊖ k 1) ⊖ v o) (omega arith)
    ∙ sym (ap (λ (b : Bool). cond b (a -ℤ pos 1 -ℤ o) (o -ℤ a)) (rw (to_z-of_z, c.ranges.a) at c.if-a-gt0.true))

pub returns : goal.returns
returns c =
    let a = c.args.a in
    let o = c.args.c in
    (is- w32 tt (lit (pos 0)) (gap (goal.at.returns c).Start).is).is
    ∙ rep_eq (k 0 ⊖ (v a ⊖ v o)) (v o ⊖ v a) (omega arith)
    ∙ sym (ap (λ (b : Bool). cond b (a -ℤ pos 1 -ℤ o) (o -ℤ a)) (rw (to_z-of_z, c.ranges.a) at c.if-a-gt0.false))

pub overflow_sub-result : goal.overflow_sub-result
overflow_sub-result c = fits- tt (gap (goal.at.overflow_sub-result c).Start).is (lit (pos 1))

pub overflow_sub-result-2 : goal.overflow_sub-result-2
overflow_sub-result-2 c = fits- tt (lit (pos 0)) (gap (goal.at.overflow_sub-result-2 c).Start).is
