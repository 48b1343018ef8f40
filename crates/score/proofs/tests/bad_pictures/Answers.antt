use mathlib.Core.Path.{sym, ◌∙◌, ap}
use mathlib.Core.Bool.{Bool, ◌||◌}
use Rattle.refusal.specs.Lengths.{bad_picture}
use Rattle.score.specs.CallLaws.{or-first}
use Rattle.score.proofs.tests.bad_pictures.Goals as goal

-- `score::tests::bad_pictures` meets its contract: the second is looked at where the first has its length.

pub returns-then-bad_picture : goal.returns-then-bad_picture
returns-then-bad_picture c =
    let a = c.args in
    sym (or-first (bad_picture a.w a.h a.target) (bad_picture a.w a.h a.canvas) (sym c.bad_picture.ensures ∙ c.if-bad_picture.true))

pub returns : goal.returns
returns c =
    let a = c.args in
    c.bad_picture-2.ensures ∙ sym (ap (λ (b : Bool). b || bad_picture a.w a.h a.canvas) (sym c.bad_picture.ensures ∙ c.if-bad_picture.false))
