use mathlib.Core.Path.{sym, ap, ◌∙◌}
use mathlib.Core.List.{[], ◌∷◌}
use Rattle.std.specs.Prelude.{Option}
use Rattle.shapes.specs.declared.Shape.{Shape}
use Rattle.shapes.specs.Ranges.{ranges_of, both, shapes_in}
use Rattle.shapes.specs.RangeLaws.{both-none}
use Rattle.shapes.proofs.look_at.Goals as goal

-- By the candidate's case.

pub returns-in-None : goal.returns-in-None
returns-in-None c =
    let r = c.args.r in
    both-none r ∙ ap (λ (w : Option Shape). both r (ranges_of (shapes_in (w ∷ [])))) (sym c.in-None.is)

pub returns-in-Some : goal.returns-in-Some
returns-in-Some c =
    let r = c.args.r in
    c.look.ensures ∙ ap (λ (w : Option Shape). both r (ranges_of (shapes_in (w ∷ [])))) (sym c.in-Some.is)
