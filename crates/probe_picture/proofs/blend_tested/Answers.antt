use mathlib.Core.Path.{sym, ◌∙◌}
use native.Mathlib.Omega.{arith}
use Rattle.refusal.specs.RefusalLaws.{sized}
use Rattle.refusal.specs.ThreeTests.{at_size, at_length, at-third, at_none}
use Rattle.probe_picture.specs.Probes.{blend_refusal}
use Rattle.probe_picture.proofs.blend_tested.Goals as goal

-- The three tests, in the order of their numbers.

pub returns-then-bad_size : goal.returns-then-bad_size
unfolding blend_refusal
returns-then-bad_size c = at_size _ _ _ 4 (omega arith) (sym c.bad_size.ensures ∙ c.if-bad_size.true)

pub bad_picture-requires : goal.bad_picture-requires
bad_picture-requires c =
    let s = sized _ _ (sym c.bad_size.ensures ∙ c.if-bad_size.false) in
    (s.w_high, s.h_high)

pub returns-then-bad_picture : goal.returns-then-bad_picture
unfolding blend_refusal
returns-then-bad_picture c =
    at_length _ _ _ 4 (omega arith) (sym c.bad_size.ensures ∙ c.if-bad_size.false)
    (sym c.bad_picture.ensures ∙ c.if-bad_picture.true)

pub returns-then-bad_places : goal.returns-then-bad_places
unfolding blend_refusal
returns-then-bad_places c =
    at-third _ _ _ 4 (omega arith) (sym c.bad_size.ensures ∙ c.if-bad_size.false)
    (sym c.bad_picture.ensures ∙ c.if-bad_picture.false)
    (sym c.bad_places.ensures ∙ c.if-bad_places.true)

pub returns : goal.returns
unfolding blend_refusal
returns c =
    at_none _ _ _ 4 (omega arith) (sym c.bad_size.ensures ∙ c.if-bad_size.false)
    (sym c.bad_picture.ensures ∙ c.if-bad_picture.false)
    (sym c.bad_places.ensures ∙ c.if-bad_places.false)
