use mathlib.Core.Path.{refl, sym, ◌∙◌}
use mathlib.Core.Bool.{not, ◌&&◌}
use borrow.Author.Tests.{eqb-true}
use lib.Dec.{eqb}
use Rattle.laws.specs.Fit.{no_both}
use Rattle.laws.specs.Bools.{and_left, and_right}
use Rattle.score.specs.CallLaws.{not-holds}
use Rattle.score.proofs.tests.usual.Goals as goal

-- `score::tests::usual` meets its contract: each test is one of the four facts.

pub returns-then-bad_size : goal.returns-then-bad_size
returns-then-bad_size c = λ e. no_both e refl

pub returns : goal.returns
returns c =
    let a = c.args in
    λ e.
    let f = and_left (c.within.result && eqb a.levels 64) (not c.bad_places.result) e in
    record {
      size = sym c.bad_size.ensures ∙ c.if-bad_size.false;
      levels_64 = eqb-true a.levels 64 (and_right c.within.result (eqb a.levels 64) f);
      opacity_in = sym c.within.ensures ∙ and_left c.within.result (eqb a.levels 64) f;
      places = sym c.bad_places.ensures
          ∙ not-holds c.bad_places.result (and_right (c.within.result && eqb a.levels 64) (not c.bad_places.result) e);
    }
