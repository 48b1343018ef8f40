use mathlib.Core.Path.{sym, ◌∙◌}
use mathlib.Core.List.{[], ◌∷◌}
use Rattle.refusal.specs.Refusals.{lowest, size_if, place_if, bad_size}
use Rattle.refusal.specs.RefusalLaws.{lowest-take, lowest_skip}
use Rattle.cover.specs.Cover.{bad_places, refusal_of}
use Rattle.probe_picture.proofs.reach_tested.Goals as goal

-- The two tests, in the order of their numbers.

pub returns-then-bad_size : goal.returns-then-bad_size
unfolding refusal_of
returns-then-bad_size c =
    let a = c.args in
    sym (lowest-take (size_if (bad_size a.w a.h)) (place_if (bad_places a.kind) ∷ []) (sym c.bad_size.ensures ∙ c.if-bad_size.true) tt)

pub returns-then-bad_places : goal.returns-then-bad_places
unfolding refusal_of
returns-then-bad_places c =
    let a = c.args in
    sym
    (lowest_skip (size_if (bad_size a.w a.h)) (place_if (bad_places a.kind) ∷ []) (sym c.bad_size.ensures ∙ c.if-bad_size.false)
    ∙ lowest-take (place_if (bad_places a.kind)) [] (sym c.bad_places.ensures ∙ c.if-bad_places.true) tt)

pub returns : goal.returns
unfolding refusal_of lowest
returns c =
    let a = c.args in
    sym
    (lowest_skip (size_if (bad_size a.w a.h)) (place_if (bad_places a.kind) ∷ []) (sym c.bad_size.ensures ∙ c.if-bad_size.false)
    ∙ lowest_skip (place_if (bad_places a.kind)) [] (sym c.bad_places.ensures ∙ c.if-bad_places.false))
