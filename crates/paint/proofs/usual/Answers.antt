use mathlib.Core.Path.{refl, sym, ap, ◌∙◌}
use mathlib.Core.Bool.{not, ◌&&◌}
use borrow.Author.Tests.{not-true}
use Rattle.laws.specs.Fit.{no_both}
use Rattle.laws.specs.Bools.{and_left, and_right}
use Rattle.refusal.specs.OutcomeLaws.{number-of-no-err}
use Rattle.paint.specs.PaintLaws.{at_none}
use Rattle.paint.proofs.usual.Goals as goal

-- Each test is one of those that the refusal is made of.

pub returns-then-is_err : goal.returns-then-is_err
returns-then-is_err c = λ e. no_both e refl

pub returns : goal.returns
returns c =
    λ e.
    let f = and_left (c.within.result && not c.bad_colour.result) (not c.bad_places.result) e in
    sym
    (at_none _ _ _ _ _ _ _ _ _ _ (sym c.lengths_tested.ensures ∙ number-of-no-err c.lengths_tested.result (sym (c.if-is_err.ensures).value))
    (sym c.bad_places.ensures ∙ not-true c.bad_places.result (and_right (c.within.result && not c.bad_colour.result) (not c.bad_places.result) e))
    (ap not (sym c.within.ensures ∙ and_left c.within.result (not c.bad_colour.result) f))
    (sym c.bad_colour.ensures ∙ not-true c.bad_colour.result (and_right c.within.result (not c.bad_colour.result) f)))
