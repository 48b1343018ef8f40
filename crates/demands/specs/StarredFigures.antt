-- Laws: document 01's figures marked *, together, as one statement over a list: circles, triangles, quads and the two divisions.
use Rattle.std.specs.Prelude.{◌≡◌, List, [], ◌∷◌, ℕ, ℤ, pos, negsuc}
use Rattle.whole.specs.Whole.{DivFloorI64Says, DivCeilI64Says}
use Rattle.whole.specs.WholeFigures.{division_figures}
use Rattle.refusal.specs.Outcomes.{Outcome, Done}
use Rattle.cover.specs.declared.Kind.{Kind}
use Rattle.cover.specs.declared.Kind.TheVariants.{Circle, Triangle, Quad}
use Rattle.cover.specs.Cover.{count}
use Rattle.cover.specs.Answers.{CountCoveredSays}
use Rattle.cover.specs.Figures.{cover_figures}

-- a shape on w by h covers n pixels; a / b is rounded down and up
pub data Figure : Type 0 where
  covers : Kind → ℕ → ℕ → ℕ → Figure
  divides : ℤ → ℤ → ℤ → ℤ → Figure

-- the rule gives it, and so does whatever meets the promise
abbrev pub Holds : Figure → Type 0
Holds (covers kind w h n) = (count kind w h ≡ n) × ((a : Outcome ℕ) → CountCoveredSays kind w h a → a ≡ Done n)
Holds (divides a b down up) = ((q : ℤ) → DivFloorI64Says a b q → q ≡ down) × ((q : ℤ) → DivCeilI64Says a b q → q ≡ up)

abbrev pub AllHold : List Figure → Type 0
AllHold [] = Unit {0}
AllHold (f ∷ r) = Holds f × AllHold r

abbrev pub starred : List Figure
starred =
    covers (Circle (pos 8) (pos 8) (pos 5)) 16 16 81
    ∷ covers (Circle (pos 0) (pos 0) (pos 1)) 16 16 3
    ∷ covers (Circle (pos 0) (pos 0) (pos 0)) 16 16 0
    ∷ covers (Circle (pos 0) (pos 0) (negsuc 2)) 16 16 0
    ∷ covers (Triangle (pos 0) (pos 0) (pos 4) (pos 0) (pos 0) (pos 4)) 16 16 15
    ∷ covers (Triangle (pos 0) (pos 4) (pos 4) (pos 0) (pos 0) (pos 0)) 16 16 15
    ∷ covers (Triangle (pos 0) (pos 0) (pos 4) (pos 0) (pos 0) (pos 4)) 3 3 9
    ∷ covers (Triangle (pos 0) (pos 0) (pos 2) (pos 2) (pos 5) (pos 5)) 16 16 0
    ∷ covers (Quad (pos 1) (pos 1) (pos 3) (pos 1) (pos 3) (pos 2) (pos 1) (pos 2)) 16 16 6
    ∷ covers (Quad (pos 0) (pos 0) (pos 2) (pos 0) (pos 4) (pos 0) (pos 0) (pos 4)) 16 16 0
    ∷ covers (Quad (pos 0) (pos 0) (pos 2) (pos 0) (pos 0) (pos 2) (pos 2) (pos 2)) 16 16 0
    ∷ divides (negsuc 6) (pos 2) (negsuc 3) (negsuc 2)
    ∷ divides (pos 7) (negsuc 1) (negsuc 3) (negsuc 2)
    ∷ []

-- "The cases marked * are proved together, as one statement over a list"
pub starred-figures : AllHold starred
starred-figures =
    let c = cover_figures in
    let d = division_figures in
    (c.0, (c.1.0, (c.1.1.0, (c.1.1.1.0, (c.1.1.1.1.0, (c.1.1.1.1.1.0, (c.1.1.1.1.1.1.0, (c.1.1.1.1.1.1.1.0, (c.1.1.1.1.1.1.1.1.0, (c.1.1.1.1.1.1.1.1.1.0, (c.1.1.1.1.1.1.1.1.1.1.0, ((d.0, d.1.0), ((d.1.1.0, d.1.1.1.0), tt)))))))))))))
