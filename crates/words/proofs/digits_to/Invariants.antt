use mathlib.Core.Path.{◌≡◌}
use lib.ListN.{drop}
use Rattle.words.specs.Words.{digits_after, digits}
use Rattle.words.proofs.digits_to.Given as goal

abbrev pub invariant-loop-b : goal.invariant-loop-b
invariant-loop-b l = digits_after l.base l.sum (drop l.b-index l.text) ≡ digits l.base l.text
