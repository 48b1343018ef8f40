-- Laws: the two ends of an update, worked out from any two i32, and the rows that they leave between them.
use Rattle.std.specs.Prelude.{◌≡◌, refl, Bool, true, false, ◌||◌, ℕ, ◌+◌, ◌≤◌, ◌<◌, T, leb, ltb, ℤ, pos, negsuc, nat_abs}
use Rattle.std.proofs.Common.{sym, ap, ◌∙◌, arith, Fits, SFits, lt-ltb, le-ltb, le-leb, leb-true, leb-false}
use Rattle.std.specs.Int.Signed.{le_z, lt_z, non_neg}
use Rattle.std.specs.Int.{w32, w64}
use Rattle.std.proofs.lemmas.Bool.{lt-leb}
use Rattle.laws.specs.Fit.{no_both}

-- a number that is not below 0, as a usize
pub casts : (z : ℤ) → SFits w32 z → lt_z z (pos 0) ≡ false → T (non_neg z) × Fits w64 (nat_abs z)
casts (pos k) f e = (tt, omega arith)
casts (negsuc k) f e = no_both refl e

more : (y k : ℕ) → ltb y (k + 1) ≡ leb y k
more y k = by (leb y k) refl
  where
    by : (b : Bool) → leb y k ≡ b → ltb y (k + 1) ≡ b
    by true e = lt-ltb y (k + 1) (omega (arith, leb-true y k e))
    by false e = le-ltb y (k + 1) (omega (arith, leb-false y k e))

-- ---- the upper end
pub end_negative : (z : ℤ) (h y : ℕ) → lt_z z (pos 0) ≡ true → y < h → ltb y h ≡ lt_z z (pos 0) || le_z (pos y) z
end_negative z h y e l = lt-ltb y h l ∙ sym (ap (λ (b : Bool). b || le_z (pos y) z) e)

pub end-inside : (z : ℤ) (y : ℕ) → lt_z z (pos 0) ≡ false → ltb y (nat_abs z + 1) ≡ lt_z z (pos 0) || le_z (pos y) z
end-inside (pos k) y e = more y k ∙ sym (ap (λ (b : Bool). b || leb y k) e)
end-inside (negsuc k) y e = no_both refl e

pub end_past : (z : ℤ) (h y : ℕ) → lt_z z (pos 0) ≡ false → h ≤ nat_abs z → y < h → ltb y h ≡ lt_z z (pos 0) || le_z (pos y) z
end_past (pos k) h y e m l = lt-ltb y h l ∙ sym (le-leb y k (omega arith)) ∙ sym (ap (λ (b : Bool). b || leb y k) e)
end_past (negsuc k) h y e m l = no_both refl e

-- ---- the lower end
pub first_negative : (z : ℤ) (y : ℕ) → lt_z z (pos 0) ≡ true → leb 0 y ≡ le_z z (pos y)
first_negative (pos k) y e = no_both e (le-ltb k 0 (omega arith))
first_negative (negsuc k) y e = le-leb 0 y (omega arith)

pub first-inside : (z : ℤ) (y : ℕ) → lt_z z (pos 0) ≡ false → leb (nat_abs z) y ≡ le_z z (pos y)
first-inside (pos k) y e = refl
first-inside (negsuc k) y e = no_both refl e

pub first_past : (z : ℤ) (hi y : ℕ) → lt_z z (pos 0) ≡ false → hi ≤ nat_abs z → y < hi → leb hi y ≡ le_z z (pos y)
first_past (pos k) hi y e m l = lt-leb hi y l ∙ sym (lt-leb k y (omega arith))
first_past (negsuc k) hi y e m l = no_both refl e
