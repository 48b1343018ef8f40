use mathlib.Core.Path.{sym}
use Rattle.lines.specs.HexLaws.{digit_low, digit_high}
use Rattle.lines.proofs.character.Goals as goal

-- `lines::character` meets its contract: the two cases of a digit.

pub returns-then-n-lt10 : goal.returns-then-n-lt10
returns-then-n-lt10 c = sym (digit_low _ c.if-n-lt10.true)

pub returns-else-n-lt10 : goal.returns-else-n-lt10
returns-else-n-lt10 c = sym (digit_high _ c.if-n-lt10.false)
