use mathlib.Core.Path.{sym, ◌∙◌}
use mathlib.Core.List.{[], ◌∷◌}
use Rattle.refusal.specs.Refusals.{count_if, place_if, opacity_if}
use Rattle.refusal.specs.RefusalLaws.{lowest_skip, lowest-take, lowest-empty}
use Rattle.cover.specs.Cover.{bad_places}
use Rattle.score.specs.Scoring.{bad_count, bad_opacity}
use Rattle.score.proofs.tests.request_tested.Goals as goal

-- `score::tests::request_tested` meets its contract: the tests come in the order of their numbers.

pub returns-then-bad_count : goal.returns-then-bad_count
returns-then-bad_count c =
    let a = c.args in
    sym (lowest-take (count_if (bad_count a.request)) (place_if (bad_places a.kind) ∷ opacity_if (bad_opacity a.request a.levels.now) ∷ [])
    (sym c.bad_count.ensures ∙ c.if-bad_count.true) tt)

pub returns-then-bad_places : goal.returns-then-bad_places
returns-then-bad_places c =
    let a = c.args in
    sym (lowest_skip (count_if (bad_count a.request)) (place_if (bad_places a.kind) ∷ opacity_if (bad_opacity a.request a.levels.now) ∷ [])
    (sym c.bad_count.ensures ∙ c.if-bad_count.false)
    ∙ lowest-take (place_if (bad_places a.kind)) (opacity_if (bad_opacity a.request a.levels.now) ∷ []) (sym c.bad_places.ensures ∙ c.if-bad_places.true) tt)

pub bad_opacity-requires : goal.bad_opacity-requires
bad_opacity-requires c =
    (c.requires, sym c.bad_count.ensures ∙ c.if-bad_count.false)

pub returns-then-bad_opacity : goal.returns-then-bad_opacity
returns-then-bad_opacity c =
    let a = c.args in
    sym (lowest_skip (count_if (bad_count a.request)) (place_if (bad_places a.kind) ∷ opacity_if (bad_opacity a.request a.levels.now) ∷ [])
    (sym c.bad_count.ensures ∙ c.if-bad_count.false)
    ∙ lowest_skip (place_if (bad_places a.kind)) (opacity_if (bad_opacity a.request a.levels.now) ∷ []) (sym c.bad_places.ensures ∙ c.if-bad_places.false)
    ∙ lowest-take (opacity_if (bad_opacity a.request a.levels.now)) [] (sym c.bad_opacity.ensures ∙ c.if-bad_opacity.true) tt)

pub returns : goal.returns
returns c =
    let a = c.args in
    sym (lowest_skip (count_if (bad_count a.request)) (place_if (bad_places a.kind) ∷ opacity_if (bad_opacity a.request a.levels.now) ∷ [])
    (sym c.bad_count.ensures ∙ c.if-bad_count.false)
    ∙ lowest_skip (place_if (bad_places a.kind)) (opacity_if (bad_opacity a.request a.levels.now) ∷ []) (sym c.bad_places.ensures ∙ c.if-bad_places.false)
    ∙ lowest_skip (opacity_if (bad_opacity a.request a.levels.now)) [] (sym c.bad_opacity.ensures ∙ c.if-bad_opacity.false)
    ∙ lowest-empty)
