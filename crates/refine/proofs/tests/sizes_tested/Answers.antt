use mathlib.Core.Path.{sym, ◌∙◌}
use Rattle.refusal.specs.Refusals.{size_if, length_if, count_if}
use Rattle.refusal.specs.RefusalLaws.{sized}
use Rattle.refusal.specs.ChainLaws.{passed-by, met, none_left}
use Rattle.refine.proofs.tests.sizes_tested.Goals as goal

-- Each test in the order of its number.

pub returns-then-bad_size : goal.returns-then-bad_size
returns-then-bad_size c = met (size_if _) _ tt (sym c.bad_size.ensures ∙ c.if-bad_size.true)

pub bad_picture-requires : goal.bad_picture-requires
bad_picture-requires c = let s = sized _ _ (sym c.bad_size.ensures ∙ c.if-bad_size.false) in (s.w_high, s.h_high)

pub bad_picture-requires-2 : goal.bad_picture-requires-2
bad_picture-requires-2 c = let s = sized _ _ (sym c.bad_size.ensures ∙ c.if-bad_size.false) in (s.w_high, s.h_high)

pub bad_picture-requires-3 : goal.bad_picture-requires-3
bad_picture-requires-3 c = let s = sized _ _ (sym c.bad_size.ensures ∙ c.if-bad_size.false) in (s.w_high, s.h_high)

pub returns-then-bad_picture : goal.returns-then-bad_picture
returns-then-bad_picture c =
    passed-by (size_if _) _ (sym c.bad_size.ensures ∙ c.if-bad_size.false)
    (met (length_if _) _ tt (rw (← c.bad_picture.ensures, ← c.bad_picture-2.ensures, ← c.bad_picture-3.ensures) c.if-bad_picture.true))

pub returns-then-shapes-candidates : goal.returns-then-shapes-candidates
returns-then-shapes-candidates c =
    passed-by (size_if _) _ (sym c.bad_size.ensures ∙ c.if-bad_size.false)
    (passed-by (length_if _) _ (rw (← c.bad_picture.ensures, ← c.bad_picture-2.ensures, ← c.bad_picture-3.ensures) c.if-bad_picture.false)
    (met (count_if _) _ tt c.if-shapes-candidates.true))

pub returns : goal.returns
returns c =
    passed-by (size_if _) _ (sym c.bad_size.ensures ∙ c.if-bad_size.false)
    (passed-by (length_if _) _ (rw (← c.bad_picture.ensures, ← c.bad_picture-2.ensures, ← c.bad_picture-3.ensures) c.if-bad_picture.false)
    (passed-by (count_if _) _ c.if-shapes-candidates.false none_left))
