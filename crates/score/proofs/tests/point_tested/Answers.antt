use mathlib.Core.Path.{sym, ◌∙◌, ap}
use mathlib.Core.Bool.{not, ◌||◌}
use mathlib.Core.List.{[], ◌∷◌}
use borrow.Author.Tests.{eq-eqb, ne_eqb}
use lib.ListN.{length}
use Rattle.refusal.specs.Refusals.{count_if, place_if, opacity_if, bad_size}
use Rattle.refusal.specs.RefusalLaws.{sized}
use Rattle.refusal.specs.Lengths.{bad_picture}
use Rattle.cover.specs.Cover.{bad_places}
use Rattle.grade.specs.AlphaSweep.{bad_levels}
use Rattle.score.specs.Scoring.{bad_count, bad_opacity, point_refusal}
use Rattle.score.specs.CallLaws.{size-first, length-next, others_next, or-first, or-second, or_neither}
use Rattle.score.proofs.tests.point_tested.Goals as goal

-- `score::tests::point_tested` meets its contract: the tests come in the order of their numbers.

pub returns-then-bad_size : goal.returns-then-bad_size
unfolding point_refusal
returns-then-bad_size c =
    let a = c.args in
    sym (size-first (bad_size a.w a.h) (bad_levels a.levels.now || (bad_picture a.w a.h (length a.target.now) || bad_picture a.w a.h (length a.canvas.now))) (count_if (bad_count a.request) ∷ place_if (bad_places a.kind) ∷ opacity_if (bad_opacity a.request a.levels.now) ∷ []) tt tt (sym c.bad_size.ensures ∙ c.if-bad_size.true))

pub returns-then-levels-ne64 : goal.returns-then-levels-ne64
unfolding point_refusal
returns-then-levels-ne64 c =
    let a = c.args in
    sym (length-next (bad_size a.w a.h) (bad_levels a.levels.now || (bad_picture a.w a.h (length a.target.now) || bad_picture a.w a.h (length a.canvas.now))) (count_if (bad_count a.request) ∷ place_if (bad_places a.kind) ∷ opacity_if (bad_opacity a.request a.levels.now) ∷ []) tt (sym c.bad_size.ensures ∙ c.if-bad_size.false)
    (or-first (bad_levels a.levels.now) (bad_picture a.w a.h (length a.target.now) || bad_picture a.w a.h (length a.canvas.now)) (ap not (ne_eqb (length a.levels.now) 64 c.if-levels-ne64.true))))

pub bad_pictures-requires : goal.bad_pictures-requires
bad_pictures-requires c =
    let z = sized c.args.w c.args.h (sym c.bad_size.ensures ∙ c.if-bad_size.false) in
    (z.w_high, z.h_high)

pub returns-then-bad_pictures : goal.returns-then-bad_pictures
unfolding point_refusal
returns-then-bad_pictures c =
    let a = c.args in
    sym (length-next (bad_size a.w a.h) (bad_levels a.levels.now || (bad_picture a.w a.h (length a.target.now) || bad_picture a.w a.h (length a.canvas.now))) (count_if (bad_count a.request) ∷ place_if (bad_places a.kind) ∷ opacity_if (bad_opacity a.request a.levels.now) ∷ []) tt (sym c.bad_size.ensures ∙ c.if-bad_size.false)
    (or-second (bad_levels a.levels.now) (bad_picture a.w a.h (length a.target.now) || bad_picture a.w a.h (length a.canvas.now)) (sym c.bad_pictures.ensures ∙ c.if-bad_pictures.true)))

pub request_tested-requires : goal.request_tested-requires
request_tested-requires c = c.if-levels-ne64.false

pub returns : goal.returns
unfolding point_refusal
returns c =
    let a = c.args in
    c.request_tested.ensures
    ∙ sym (others_next (bad_size a.w a.h) (bad_levels a.levels.now || (bad_picture a.w a.h (length a.target.now) || bad_picture a.w a.h (length a.canvas.now))) (count_if (bad_count a.request) ∷ place_if (bad_places a.kind) ∷ opacity_if (bad_opacity a.request a.levels.now) ∷ []) tt (sym c.bad_size.ensures ∙ c.if-bad_size.false)
    (or_neither (bad_levels a.levels.now) (bad_picture a.w a.h (length a.target.now) || bad_picture a.w a.h (length a.canvas.now)) (ap not (eq-eqb (length a.levels.now) 64 c.if-levels-ne64.false)) (sym c.bad_pictures.ensures ∙ c.if-bad_pictures.false)))
