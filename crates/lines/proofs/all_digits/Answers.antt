use mathlib.Core.Path.{refl}
use Rattle.std.proofs.Common.{arith}
use borrow.Author.Count.{below_more}
use Rattle.laws.specs.Fit.{no_both}
use Rattle.lines.specs.HexLaws.{digit_none_is, digit_some_is}
use Rattle.lines.proofs.all_digits.Goals as goal

-- `lines::all_digits` meets its contract. The loop's invariant: every character passed is a digit.

pub returns-then-is_none : goal.returns-then-is_none
returns-then-is_none c =
    record { yes = λ e. no_both e refl; no = λ _ all. digit_none_is c.digit_of.ensures c.if-is_none.ensures (all c.loop-c.c-index c.loop-c-test.true) }

pub loop-c-preserved : goal.loop-c-preserved
loop-c-preserved c = below_more _ _ c.loop-c.invariant (digit_some_is c.digit_of.ensures c.if-is_none.ensures)

pub returns : goal.returns
returns c = record { yes = λ _ k h. c.loop-c.invariant k (omega arith); no = λ e _. no_both refl e }
