use Rattle.std.proofs.Common.{◌≡◌, ℕ, ◌≤◌, true, false, not, arith, ap, sym, ◌∙◌, ⊎_elim, le-ltb}
use Rattle.laws.specs.Bools.{true_or_false}
use Rattle.session.specs.Session.{bad_sides}
use Rattle.session.specs.Held.{Sides}
use Rattle.session.specs.SessionLaws.{sides_of}
use Rattle.session.proofs.bad_sides.Goals as goal
use Rattle.session.proofs.bad_sides.Goals.{in-1-to-16-1-to-16, in_default, in_default-2, in_default-3, in_default-4}

-- `session::bad_sides` meets its contract: both sides lie in the range, or the rule finds one that does not.

fine : (w h : ℕ) → 1 ≤ w → w ≤ 16 → 1 ≤ h → h ≤ 16 → false ≡ bad_sides w h
unfolding bad_sides
fine w h a b d e = simp (le-ltb w 1 a, le-ltb 16 w b, le-ltb h 1 d, le-ltb 16 h e)

bad : (w h : ℕ) → (Sides w h → ⊥) → true ≡ bad_sides w h
bad w h n = ⊎_elim (λ (t : bad_sides w h ≡ true). sym t) (λ (f : bad_sides w h ≡ false). absurd (n (sides_of w h f))) (true_or_false (bad_sides w h))

pub returns : goal.returns
returns c =
    elim c.if-matches.branch [
      | in-1-to-16-1-to-16 w ↦ ap not w.matches-is ∙ fine c.args.w c.args.h (omega arith) (omega arith) (omega arith) (omega arith)
      | in_default w ↦ ap not w.matches-is ∙ bad c.args.w c.args.h (λ s. omega arith)
      | in_default-2 w ↦ ap not w.matches-is ∙ bad c.args.w c.args.h (λ s. omega arith)
      | in_default-3 w ↦ ap not w.matches-is ∙ bad c.args.w c.args.h (λ s. omega arith)
      | in_default-4 w ↦ ap not w.matches-is ∙ bad c.args.w c.args.h (λ s. omega arith)
    ]
