use Rattle.std.specs.Prelude.{None, Some}
use mathlib.Core.Path.{ap, ◌∙◌, sym}
use mathlib.Core.Bool.{Bool, cond}
use borrow.Author.Tests.{eq-eqb, ne_eqb}
use lib.ListN.{get_or}
use Rattle.crossing.specs.Crossed.{shape_at, offer_at}
use Rattle.crossing.proofs.lists.offer_at.Goals as goal

-- 0 coordinates are nothing.

pub returns-then-sizes-i-eq0 : goal.returns-then-sizes-i-eq0
unfolding offer_at
returns-then-sizes-i-eq0 c =
    let a = c.args in
    sym (ap (λ (b : Bool). cond b None (Some (shape_at a.sizes.now a.places.now a.paints.now a.i))) (eq-eqb (get_or a.sizes.now a.i 0) 0 c.if-sizes-i-eq0.true))

pub returns : goal.returns
unfolding offer_at
returns c =
    let a = c.args in
    ap Some c.shape_at.ensures ∙ sym (ap (λ (b : Bool). cond b None (Some (shape_at a.sizes.now a.places.now a.paints.now a.i))) (ne_eqb (get_or a.sizes.now a.i 0) 0 c.if-sizes-i-eq0.false))
