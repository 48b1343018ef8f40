use mathlib.Core.Path.{◌∙◌, sym, ap}
use mathlib.Core.List.{List, [], ◌∷◌}
use borrow.Author.Rules.{rules}
use Prim.Native.Nat.{ℕ}
use lib.IntN.{ℤ, pos}
use lib.ListN.{get_or}
use Rattle.cover.specs.declared.Kind.TheVariants.{Circle, Triangle, Quad}
use Rattle.cover.specs.StepLaws.{read_fit}
use Rattle.paint.proofs.anew.Goals as goal

-- `paint::anew` meets its contract: each place is read back as it was.

abbrev place : List ℤ → ℕ → ℤ
place zs i = get_or zs i (pos 0)

pub returns-in-Circle : goal.returns-in-Circle
returns-in-Circle c =
    let k = c.in-Circle in
    ap (λ (l : List ℤ). Circle (place l 0) (place l 1) (place l 2)) (read_fit (k.cx ∷ k.cy ∷ k.r ∷ []) (search rules, (search rules, (search rules, tt))))
    ∙ sym k.is

pub returns-in-Triangle : goal.returns-in-Triangle
returns-in-Triangle c =
    let k = c.in-Triangle in
    ap (λ (l : List ℤ). Triangle (place l 0) (place l 1) (place l 2) (place l 3) (place l 4) (place l 5)) (read_fit (k.x0 ∷ k.y0 ∷ k.x1 ∷ k.y1 ∷ k.x2 ∷ k.y2 ∷ []) (search rules, (search rules, (search rules, (search rules, (search rules, (search rules, tt)))))))
    ∙ sym k.is

pub returns-in-Quad : goal.returns-in-Quad
returns-in-Quad c =
    let k = c.in-Quad in
    ap (λ (l : List ℤ). Quad (place l 0) (place l 1) (place l 2) (place l 3) (place l 4) (place l 5) (place l 6) (place l 7)) (read_fit (k.x0 ∷ k.y0 ∷ k.x1 ∷ k.y1 ∷ k.x2 ∷ k.y2 ∷ k.x3 ∷ k.y3 ∷ []) (search rules, (search rules, (search rules, (search rules, (search rules, (search rules, (search rules, (search rules, tt)))))))))
    ∙ sym k.is
