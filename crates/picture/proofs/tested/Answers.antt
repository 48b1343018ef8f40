use mathlib.Core.Path.{sym, ◌∙◌}
use mathlib.Core.List.{[], ◌∷◌}
use Rattle.refusal.specs.Refusals.{size_if, length_if}
use Rattle.refusal.specs.RefusalLaws.{sized, lowest-take, lowest_skip}
use Rattle.refusal.specs.ThreeTests.{two_none}
use Rattle.picture.proofs.tested.Goals as goal

-- The two tests, in the order of their numbers.

pub returns-then-bad_size : goal.returns-then-bad_size
returns-then-bad_size c = sym (lowest-take (size_if _) (length_if _ ∷ []) (sym c.bad_size.ensures ∙ c.if-bad_size.true) tt)

pub bad_picture-requires : goal.bad_picture-requires
bad_picture-requires c =
    let s = sized _ _ (sym c.bad_size.ensures ∙ c.if-bad_size.false) in
    (s.w_high, s.h_high)

pub returns-then-bad_picture : goal.returns-then-bad_picture
returns-then-bad_picture c =
    sym
    (lowest_skip (size_if _) (length_if _ ∷ []) (sym c.bad_size.ensures ∙ c.if-bad_size.false)
    ∙ lowest-take (length_if _) [] (sym c.bad_picture.ensures ∙ c.if-bad_picture.true) tt)

pub returns : goal.returns
returns c =
    two_none _ _ (sym c.bad_size.ensures ∙ c.if-bad_size.false) (sym c.bad_picture.ensures ∙ c.if-bad_picture.false)
