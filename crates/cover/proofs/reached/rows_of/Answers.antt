use mathlib.Core.Path.{◌≡◌, sym, ◌∙◌, ap, ap₂, subst}
use Prim.Native.Nat.{ℕ, ◌+◌}
use lib.Dec.{T}
use lib.IntN.{ℤ, pos, nat_abs}
use lib.Signed.{◌≤ℤ◌, non_neg, yes_non_neg}
use mir.Syntax.{w32, w64}
use mir.Val.{SFits, Fits, to_z, of_z}
use mir.Facts.{to_z-of_z}
use Rattle.cover.specs.ReachRowsLaws.{first_nonneg, rows-some, rows_none}
use Rattle.cover.specs.Cover.{reach}
use Rattle.cover.specs.declared.Reach.{Reach}
use Rattle.cover.specs.declared.reached.Rows.{Rows}
use Rattle.laws.specs.Order.{≤ℤ-trans}
use Rattle.laws.specs.Fit.{le_true, le_false, of_abs, of_mag}
use native.Mathlib.Omega.{arith}
use borrow.Author.Rules.{rules}
use Rattle.cover.proofs.reached.rows_of.Goals as goal
use Rattle.cover.proofs.reached.rows_of.Goals.{After-row_reach-reach, Then-first-last}

-- `cover::reached::rows_of` meets its contract: the ends that are cast are not negative.

-- a row number that is not negative, as it is read back and cast
cast-row : (z : ℤ) → SFits w32 z → pos 0 ≤ℤ z → T (non_neg (to_z w32 (of_z w32 z))) × Fits w64 (nat_abs (to_z w32 (of_z w32 z)))
cast-row z f h = rw (to_z-of_z, f) (yes_non_neg h, fits_wider z f)
  where
    fits_wider : (z : ℤ) → SFits w32 z → Fits w64 (nat_abs z)
    fits_wider z f = record { fits = omega (arith, f.sfits, of_abs z, of_mag z) }

module _ (c : After-row_reach-reach) where
  first_fits : SFits w32 c.row_reach-reach.result.first
  first_fits = search rules

  last_fits : SFits w32 c.row_reach-reach.result.last
  last_fits = search rules

  first-is : c.row_reach-reach.result.first ≡ (reach c.args.kind c.args.h).first
  first-is = ap (λ (t : Reach). t.first) c.row_reach-reach.ensures

  last-is : c.row_reach-reach.result.last ≡ (reach c.args.kind c.args.h).last
  last-is = ap (λ (t : Reach). t.last) c.row_reach-reach.ensures

  first_read : to_z w32 (of_z w32 c.row_reach-reach.result.first) ≡ (reach c.args.kind c.args.h).first
  first_read = to_z-of_z first_fits ∙ first-is

  last-read : to_z w32 (of_z w32 c.row_reach-reach.result.last) ≡ (reach c.args.kind c.args.h).last
  last-read = to_z-of_z last_fits ∙ last-is

pub overflow_cast-top : goal.overflow_cast-top
overflow_cast-top c =
    cast-row c.row_reach-reach.result.first (first_fits (goal.at.overflow_cast-top c).After-row_reach-reach)
    (subst (λ (z : ℤ). pos 0 ≤ℤ z) (sym (first-is (goal.at.overflow_cast-top c).After-row_reach-reach)) (first_nonneg c.args.kind c.args.h))

some : (c : Then-first-last) → (reach c.args.kind c.args.h).first
    ≤ℤ (reach c.args.kind c.args.h).last
some c = le_true _ _ (rw (first_read c.before.before.before, last-read c.before.before.before) at c.if-first-last.true)

last-nonneg : (c : Then-first-last) → pos 0 ≤ℤ c.row_reach-reach.result.last
last-nonneg c =
    subst (λ (z : ℤ). pos 0 ≤ℤ z) (sym (last-is c.before.before.before)) (≤ℤ-trans (first_nonneg c.args.kind c.args.h) (some c))

pub overflow_cast-result : goal.overflow_cast-result
overflow_cast-result c = cast-row c.row_reach-reach.result.last (last_fits (goal.at.overflow_cast-result c).After-row_reach-reach) (last-nonneg (goal.at.overflow_cast-result c).Then-first-last)

pub overflow_add-result : goal.overflow_add-result
overflow_add-result c =
    let z = c.row_reach-reach.result.last in
    rw (to_z-of_z (last_fits (goal.at.overflow_add-result c).After-row_reach-reach)) (record { fits = omega (arith, (last_fits (goal.at.overflow_add-result c).After-row_reach-reach).sfits, of_abs z, of_mag z) })

as_rows : ℕ → ℕ → Rows
as_rows a b = record { top = a; bottom = b }

pub returns-then-first-last : goal.returns-then-first-last
unfolding as_rows
returns-then-first-last c =
    let e = rows-some c.args.kind c.args.h (some (goal.at.returns-then-first-last c).Then-first-last) in
    ap₂ as_rows (ap nat_abs (first_read (goal.at.returns-then-first-last c).After-row_reach-reach) ∙ sym e.0) (ap (λ (z : ℤ). nat_abs z + 1) (last-read (goal.at.returns-then-first-last c).After-row_reach-reach) ∙ sym e.1)

pub returns : goal.returns
unfolding as_rows
returns c =
    let n = le_false _ _ (rw (first_read (goal.at.returns c).After-row_reach-reach, last-read (goal.at.returns c).After-row_reach-reach) at c.if-first-last.false) in
    let e = rows_none c.args.kind c.args.h n in
    ap₂ as_rows (ap nat_abs (first_read (goal.at.returns c).After-row_reach-reach) ∙ sym e.0) (ap nat_abs (first_read (goal.at.returns c).After-row_reach-reach) ∙ sym e.1)
