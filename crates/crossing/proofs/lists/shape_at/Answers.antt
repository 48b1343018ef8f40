use mathlib.Core.Path.{ap, ◌∙◌}
use mathlib.Core.List.{List}
use Prim.Native.Nat.{ℕ, ◌+◌, ◌-◌, ◌*◌}
use lib.IntN.{ℤ}
use lib.Ieee.{nan}
use lib.ListN.{length, take, drop, get_or}
use Rattle.cover.specs.declared.Kind.{Kind}
use Rattle.crossing.specs.Outlines.{kind_sized}
use Rattle.crossing.specs.OutlineLaws.{at_most_eight}
use Rattle.crossing.specs.Crossed.{shape_at}
use Rattle.crossing.specs.CrossedLaws.{eight_of, eight_long}
use Rattle.crossing.proofs.lists.shape_at.Goals as goal

-- The kind from the eight places, the rest as it stands.

pub kind_sized-kind-requires : goal.kind_sized-kind-requires
kind_sized-kind-requires c =
    eight_long c.args.places.now c.args.i (length c.args.sizes.now) _ c.requires.0 c.requires.1.0 (at_most_eight c.wide.result)

pub returns : goal.returns
unfolding shape_at
returns c =
    let a = c.args in
    let i = a.i in
    let part : ℕ → List ℤ = λ n. take n (drop (i * 8) a.places.now) in
    ap (λ (k : Kind). record { kind = k; opacity = get_or a.paints.now (i * 4) nan; red = get_or a.paints.now (i * 4 + 1) nan; green = get_or a.paints.now (i * 4 + 2) nan; blue = get_or a.paints.now (i * 4 + 3) nan })
    (c.kind_sized-kind.ensures ∙ ap (λ (n : ℕ). kind_sized n (part (i * 8 + 8 - i * 8))) c.wide.ensures ∙ ap (λ (n : ℕ). kind_sized (get_or a.sizes.now i 0) (part n)) (eight_of i))
