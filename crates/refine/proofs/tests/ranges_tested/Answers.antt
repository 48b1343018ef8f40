use mathlib.Core.Path.{sym, ap, ◌∙◌}
use mathlib.Core.Bool.{not}
use Rattle.refusal.specs.Refusals.{place_if, opacity_if, colour_if, pixel_if}
use Rattle.refusal.specs.ChainLaws.{passed-by, met, none_left}
use Rattle.refine.proofs.tests.ranges_tested.Goals as goal

-- Each test in the order of its number.

pub returns-then-not-r : goal.returns-then-not-r
returns-then-not-r c = met (place_if _) _ tt c.if-not-r.true

pub returns-then-not-r-2 : goal.returns-then-not-r-2
returns-then-not-r-2 c = passed-by (place_if _) _ c.if-not-r.false (met (opacity_if _) _ tt c.if-not-r-2.true)

pub returns-then-r-bad_colour : goal.returns-then-r-bad_colour
returns-then-r-bad_colour c =
    passed-by (place_if _) _ c.if-not-r.false
    (passed-by (opacity_if _) _ c.if-not-r-2.false
    (met (colour_if _) _ tt (rw (← c.bad_colour.ensures) c.if-r-bad_colour.true)))

pub returns-then-not-all_within : goal.returns-then-not-all_within
returns-then-not-all_within c =
    passed-by (place_if _) _ c.if-not-r.false
    (passed-by (opacity_if _) _ c.if-not-r-2.false
    (passed-by (colour_if _) _ (rw (← c.bad_colour.ensures) c.if-r-bad_colour.false)
    (met (pixel_if _) _ tt (ap not (sym c.all_within.ensures ∙ c.if-not-all_within.true)))))

pub returns : goal.returns
returns c =
    passed-by (place_if _) _ c.if-not-r.false
    (passed-by (opacity_if _) _ c.if-not-r-2.false
    (passed-by (colour_if _) _ (rw (← c.bad_colour.ensures) c.if-r-bad_colour.false)
    (passed-by (pixel_if _) _ (ap not (sym c.all_within.ensures ∙ c.if-not-all_within.false)) none_left)))
