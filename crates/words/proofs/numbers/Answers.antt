use Rattle.words.specs.WordLaws.{reading_starts, reading_next, reading_ends, reading_full, rest-next, rest_stop, rest_end, found_place}
use Rattle.words.proofs.numbers.Goals as goal

-- The numbers written and those still to be read are those of the whole text.

pub loop-a-init : goal.loop-a-init
loop-a-init c = reading_starts _ _

pub returns-in_default : goal.returns-in_default
returns-in_default c =
    reading_ends _ _ _ _ _ c.loop-a.invariant (rest_stop c.args.text.now c.loop-a.a c.unwrap_or-e.result c.loop-a-test.true (found_place c.args.text.now c.loop-a.a 32 c.unwrap_or-e.result c.find.result c.loop-a-test.true c.find.ensures.first c.unwrap_or-e.ensures) c.in_default.ensures)

pub returns-then-out-n : goal.returns-then-out-n
returns-then-out-n c =
    reading_full _ _ _ _ _ c.loop-a.invariant c.if-out-n.true

pub loop-a-preserved : goal.loop-a-preserved
loop-a-preserved c =
    reading_next _ _ _ _ _ _ _ c.loop-a.invariant c.if-out-n.false (rest-next c.args.text.now c.loop-a.a c.unwrap_or-e.result c.loop-a-test.true (found_place c.args.text.now c.loop-a.a 32 c.unwrap_or-e.result c.find.result c.loop-a-test.true c.find.ensures.first c.unwrap_or-e.ensures) c.in-Some.x c.in-Some.ensures)

pub returns : goal.returns
returns c = reading_ends _ _ _ _ _ c.loop-a.invariant (rest_end _ _ c.loop-a-test.false)
