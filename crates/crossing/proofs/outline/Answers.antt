use Rattle.std.specs.Prelude.{None, Some}
use mathlib.Core.Path.{sym, ap, ◌∙◌}
use mathlib.Core.Bool.{Bool, cond}
use lib.ListN.{length}
use Rattle.crossing.specs.Outlines.{kind_sized}
use Rattle.crossing.specs.OutlineLaws.{all_there}
use Rattle.crossing.proofs.outline.Goals as goal

-- A number of coordinates that some kind has, or another.

pub kind_sized-requires : goal.kind_sized-requires
kind_sized-requires c =
    let n = length c.args.shape.now in
    all_there n (sym c.is_sized.ensures ∙ c.if-is_sized.true)

pub returns-then-is_sized : goal.returns-then-is_sized
returns-then-is_sized c =
    let zs = c.args.shape.now in
    ap Some c.kind_sized.ensures
    ∙ sym (ap (λ (b : Bool). cond b (Some (kind_sized (length zs) zs)) None) (sym c.is_sized.ensures ∙ c.if-is_sized.true))

pub returns : goal.returns
returns c =
    let zs = c.args.shape.now in
    sym (ap (λ (b : Bool). cond b (Some (kind_sized (length zs) zs)) None) (sym c.is_sized.ensures ∙ c.if-is_sized.false))
