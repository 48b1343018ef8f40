use mathlib.Core.Path.{◌≡◌, sym, ap, ◌∙◌}
use mathlib.Core.List.{[], ◌∷◌}
use lib.IntN.{pos}
use lib.ListN.{get_or}
use mir.Facts.{to_z-of_z}
use mir.Syntax.{w32}
use mir.Val.{SFits, to_z, of_z}
use Rattle.cover.specs.declared.Kind.{Kind}
use Rattle.crossing.specs.Crossed.{place_in}
use Rattle.crossing.specs.CrossedLaws.{circle_place, triangle_place}
use borrow.Author.Rules.{rules, sfits_of}
use Rattle.crossing.proofs.lists.place_of.Goals as goal

-- A kind's own coordinates, then 0.

pub returns-in-Circle : goal.returns-in-Circle
returns-in-Circle c =
    let k = c.in-Circle in
    let f0 : SFits w32 k.cx = search rules in
    let f1 : SFits w32 k.cy = search rules in
    let f2 : SFits w32 k.r = search rules in
    let a = c.args in
    let j = a.j in
    let e : get_or (to_z w32 (of_z w32 k.cx) ∷ to_z w32 (of_z w32 k.cy) ∷ to_z w32 (of_z w32 k.r) ∷ pos 0 ∷ pos 0 ∷ pos 0 ∷ pos 0 ∷ pos 0 ∷ []) j (pos 0) ≡ place_in a.kind j = simp (to_z-of_z, f0, f1, f2) (circle_place k.cx k.cy k.r j ∙ sym (ap (λ (x : Kind). place_in x j) k.is)) in
    to_z-of_z {w = w32} (sfits_of c.result-1.given) ∙ e

pub returns-in-Triangle : goal.returns-in-Triangle
returns-in-Triangle c =
    let k = c.in-Triangle in
    let f0 : SFits w32 k.x0 = search rules in
    let f1 : SFits w32 k.y0 = search rules in
    let f2 : SFits w32 k.x1 = search rules in
    let f3 : SFits w32 k.y1 = search rules in
    let f4 : SFits w32 k.x2 = search rules in
    let f5 : SFits w32 k.y2 = search rules in
    let a = c.args in
    let j = a.j in
    let e : get_or (to_z w32 (of_z w32 k.x0) ∷ to_z w32 (of_z w32 k.y0) ∷ to_z w32 (of_z w32 k.x1) ∷ to_z w32 (of_z w32 k.y1) ∷ to_z w32 (of_z w32 k.x2) ∷ to_z w32 (of_z w32 k.y2) ∷ pos 0 ∷ pos 0 ∷ []) j (pos 0) ≡ place_in a.kind j = simp (to_z-of_z, f0, f1, f2, f3, f4, f5) (triangle_place k.x0 k.y0 k.x1 k.y1 k.x2 k.y2 j ∙ sym (ap (λ (x : Kind). place_in x j) k.is)) in
    to_z-of_z {w = w32} (sfits_of c.result-in-Triangle-1.given) ∙ e

pub returns-in-Quad : goal.returns-in-Quad
returns-in-Quad c =
    let k = c.in-Quad in
    let f0 : SFits w32 k.x0 = search rules in
    let f1 : SFits w32 k.y0 = search rules in
    let f2 : SFits w32 k.x1 = search rules in
    let f3 : SFits w32 k.y1 = search rules in
    let f4 : SFits w32 k.x2 = search rules in
    let f5 : SFits w32 k.y2 = search rules in
    let f6 : SFits w32 k.x3 = search rules in
    let f7 : SFits w32 k.y3 = search rules in
    let a = c.args in
    let j = a.j in
    let e : get_or (to_z w32 (of_z w32 k.x0) ∷ to_z w32 (of_z w32 k.y0) ∷ to_z w32 (of_z w32 k.x1) ∷ to_z w32 (of_z w32 k.y1) ∷ to_z w32 (of_z w32 k.x2) ∷ to_z w32 (of_z w32 k.y2) ∷ to_z w32 (of_z w32 k.x3) ∷ to_z w32 (of_z w32 k.y3) ∷ []) j (pos 0) ≡ place_in a.kind j = simp (to_z-of_z, f0, f1, f2, f3, f4, f5, f6, f7) (sym (ap (λ (x : Kind). place_in x j) k.is)) in
    to_z-of_z {w = w32} (sfits_of c.result-in-Quad-1.given) ∙ e
