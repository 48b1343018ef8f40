use mathlib.Core.Path.{sym, ◌∙◌}
use Rattle.refusal.specs.RefusalLaws.{sized}
use Rattle.table.specs.TestLaws.{sizes-after}
use Rattle.table.proofs.lengths_tested.Goals as goal

-- `lengths_tested`: each test in the order of the numbers.

pub returns-then-bad_size : goal.returns-then-bad_size
returns-then-bad_size c = simp (sizes-after, sym c.bad_size.ensures ∙ c.if-bad_size.true)

pub bad_picture-requires : goal.bad_picture-requires
bad_picture-requires c = let s = sized _ _ (sym c.bad_size.ensures ∙ c.if-bad_size.false) in (s.w_high, s.h_high)

pub returns-then-bad_picture : goal.returns-then-bad_picture
returns-then-bad_picture c = simp (sizes-after, sym c.bad_size.ensures ∙ c.if-bad_size.false, sym c.bad_picture.ensures ∙ c.if-bad_picture.true)

pub bad_picture-requires-2 : goal.bad_picture-requires-2
bad_picture-requires-2 c = let s = sized _ _ (sym c.bad_size.ensures ∙ c.if-bad_size.false) in (s.w_high, s.h_high)

pub returns-then-bad_picture-2 : goal.returns-then-bad_picture-2
returns-then-bad_picture-2 c = simp (sizes-after, sym c.bad_size.ensures ∙ c.if-bad_size.false, sym c.bad_picture.ensures ∙ c.if-bad_picture.false, sym c.bad_picture-2.ensures ∙ c.if-bad_picture-2.true)

pub bad_table-requires : goal.bad_table-requires
bad_table-requires c = let s = sized _ _ (sym c.bad_size.ensures ∙ c.if-bad_size.false) in (s.w_high, s.h_high)

pub returns-then-bad_table : goal.returns-then-bad_table
returns-then-bad_table c = simp (sizes-after, sym c.bad_size.ensures ∙ c.if-bad_size.false, sym c.bad_picture.ensures ∙ c.if-bad_picture.false, sym c.bad_picture-2.ensures ∙ c.if-bad_picture-2.false, sym c.bad_table.ensures ∙ c.if-bad_table.true)

pub returns : goal.returns
returns c = simp (sizes-after, sym c.bad_size.ensures ∙ c.if-bad_size.false, sym c.bad_picture.ensures ∙ c.if-bad_picture.false, sym c.bad_picture-2.ensures ∙ c.if-bad_picture-2.false, sym c.bad_table.ensures ∙ c.if-bad_table.false)
