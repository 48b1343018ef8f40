use mathlib.Core.Path.{ap, ◌∙◌}
use Rattle.sums.specs.declared.ShapeSums.{ShapeSums}
use Rattle.sums.specs.Sums.{minus}
use Rattle.table.specs.Layout.{place_of}
use Rattle.table.specs.ReadLaws.{place-count, span_count}
use native.Mathlib.Omega.{arith}
use Rattle.table.proofs.add_span.Goals as goal

-- `add_span`: the counts are the places' columns, so that neither difference nor sum wraps.

pub minus-requires : goal.minus-requires
minus-requires c =
    let a = c.args in
    omega (arith, ap (λ (s : ShapeSums). s.count) c.read_place-hi.ensures ∙ place-count a.w a.table.now a.y a.right, ap (λ (s : ShapeSums). s.count) c.read_place-lo.ensures ∙ place-count a.w a.table.now a.y a.left)

pub plus-requires : goal.plus-requires
plus-requires c =
    let a = c.args in
    let e = c.minus.ensures ∙ ap (λ (s : ShapeSums). minus s c.read_place-lo.result) c.read_place-hi.ensures ∙ ap (minus (place_of a.w a.table.now a.y a.right)) c.read_place-lo.ensures in
    omega (arith, ap (λ (s : ShapeSums). s.count) e ∙ span_count a.w a.table.now a.y a.left a.right)

pub returns : goal.returns
returns c = simp (c.plus.ensures, c.minus.ensures, c.read_place-lo.ensures, c.read_place-hi.ensures)
