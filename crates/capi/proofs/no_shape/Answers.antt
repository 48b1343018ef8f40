use mathlib.Core.Path.{sym, ◌∙◌}
use Rattle.capi.specs.ScoreLaws.{no_size, no_length}
use Rattle.capi.proofs.no_shape.Goals as goal

-- 1 where the size is refused, else 2.

pub returns-then-bad_size : goal.returns-then-bad_size
returns-then-bad_size c =
    let a = c.args in
    no_size a.w a.h (sym c.bad_size.ensures ∙ c.if-bad_size.true)

pub returns : goal.returns
returns c =
    let a = c.args in
    no_length a.w a.h (sym c.bad_size.ensures ∙ c.if-bad_size.false)
