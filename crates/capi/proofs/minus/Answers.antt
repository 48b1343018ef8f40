use mathlib.Core.Path.{◌≡◌, ap, ◌∙◌}
use Prim.Native.Nat.{ℕ, ◌<◌}
use native.Mathlib.Omega.{arith}
use lib.IntN.{ℤ, pos, neg_ℤ, ◌-ℤ◌}
use mir.Facts.{to_z_pos, to_z-of_z}
use mir.Syntax.{w64}
use mir.Val.{SFits, to_z}
use Rattle.laws.specs.Parts.{zord, of-, P-neg, N-neg}
use Rattle.laws.specs.Fit.{of_mag}
use Rattle.capi.proofs.minus.Goals as goal

-- 0 less a byte fits, and is the byte's negative.

module _ (k : ℕ) (h : k < 256) where
  less : pos 0 -ℤ to_z w64 k ≡ neg_ℤ (pos k)
  less = ap (λ (z : ℤ). pos 0 -ℤ z) (to_z_pos w64 {n = k} (omega arith)) ∙ omega (arith, zord, of- (pos 0) (pos k), P-neg (pos k), N-neg (pos k))

  fits : SFits w64 (pos 0 -ℤ to_z w64 k)
  fits = rw less (omega (arith, of_mag (neg_ℤ (pos k)), P-neg (pos k), N-neg (pos k)))

pub overflow_sub-result : goal.overflow_sub-result
overflow_sub-result c = fits c.number.result (omega arith)

pub returns : goal.returns
returns c =
    let h : c.number.result < 256 = omega arith in
    to_z-of_z (fits c.number.result h) ∙ less c.number.result h ∙ ap (λ (k : ℕ). neg_ℤ (pos k)) c.number.ensures
