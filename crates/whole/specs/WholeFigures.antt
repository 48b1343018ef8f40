-- Laws: document 01's figures of the two divisions, as one statement over a list.
use Rattle.std.specs.Prelude.{◌≡◌, refl, List, [], ◌∷◌, T, ltb, ℤ, pos, negsuc, nat_abs}
use Rattle.std.proofs.Common.{◌∙◌, ap, arith, ltb→lt}
use Rattle.laws.specs.Quotient.{floor_z, ceil_z}
use Rattle.whole.specs.Whole.{Overflows, DivFloorI64Says, DivCeilI64Says}
use Rattle.whole.specs.WholeLaws.{says_floor, says_ceil}

record Figure : Type 0 where
  a : ℤ
  b : ℤ
  down : ℤ
  up : ℤ

-- whatever meets the two promises is the figure
abbrev Holds : List Figure → Type 0
Holds [] = Unit {0}
Holds (f ∷ r) =
    ((q : ℤ) → DivFloorI64Says f.a f.b q → q ≡ f.down)
    × (((q : ℤ) → DivCeilI64Says f.a f.b q → q ≡ f.up) × Holds r)

-- floor and ceiling of -7/2: -4, -3; of 7/-2: -4, -3; and of 7/2 and -7/-2, whose signs agree
abbrev figures : List Figure
figures =
    record { a = negsuc 6; b = pos 2; down = negsuc 3; up = negsuc 2 }
    ∷ record { a = pos 7; b = negsuc 1; down = negsuc 3; up = negsuc 2 }
    ∷ record { a = pos 7; b = pos 2; down = pos 3; up = pos 4 }
    ∷ record { a = negsuc 6; b = negsuc 1; down = pos 3; up = pos 4 }
    ∷ []

-- what computes for each of them: the divisor is neither 0 nor -1, and the quotients
abbrev Computes : List Figure → Type 0
Computes [] = Unit {0}
Computes (f ∷ r) = T (ltb 1 (nat_abs f.b)) × ((floor_z f.a f.b ≡ f.down) × ((ceil_z f.a f.b ≡ f.up) × Computes r))

not_zero : (b : ℤ) → T (ltb 1 (nat_abs b)) → b ≡ pos 0 → ⊥
not_zero b h e = omega (arith, ltb→lt 1 (nat_abs b) h, ap nat_abs e)

not-over : (a b : ℤ) → T (ltb 1 (nat_abs b)) → Overflows a b → ⊥
not-over a b h o = omega (arith, ltb→lt 1 (nat_abs b) h, ap nat_abs o.1)

hold : (l : List Figure) → Computes l → Holds l
hold [] h = tt
hold (f ∷ r) h = (
  λ q s. says_floor f.a f.b q (not_zero f.b h.0) (not-over f.a f.b h.0) s ∙ h.1.0,
  (λ q s. says_ceil f.a f.b q (not_zero f.b h.0) (not-over f.a f.b h.0) s ∙ h.1.1.0, hold r h.1.1.1),
)

-- the code's answers meet the promises, so these are its answers
pub division_figures : Holds figures
division_figures = hold figures (tt, (refl, (refl, (tt, (refl, (refl, (tt, (refl, (refl, (tt, (refl, (refl, tt))))))))))))
