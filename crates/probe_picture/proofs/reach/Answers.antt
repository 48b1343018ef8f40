use mathlib.Core.Path.{sym, ap, ◌∙◌}
use mir.Syntax.{w32}
use mir.Val.{SFits}
use mir.Facts.{to_z-of_z}
use Rattle.laws.specs.AnswerLaws.{answer-done, answer-refused}
use Rattle.refusal.specs.OutcomeLaws.{number-positive}
use Rattle.cover.specs.StepLaws.{passed}
use Rattle.probe_picture.specs.Probes.{probed_reach}
use borrow.Author.Rules.{rules}
use Rattle.probe_picture.proofs.reach.Goals as goal

-- A refusal's number, or the row reach.

pub row_reach-rows-requires : goal.row_reach-rows-requires
row_reach-rows-requires c =
    let p = passed _ _ _ (sym (rw c.in-Ok.is at c.reach_tested.ensures)) in
    record { rows = p.0.h_high; places = p.1 }

pub returns-in-Ok : goal.returns-in-Ok
returns-in-Ok c =
    let r = c.row_reach-rows in
    let p : SFits w32 r.result.first = search rules in
    let q : SFits w32 r.result.last = search rules in
    simp (to_z-of_z, p, q) (ap probed_reach (answer-done _ _ _ _ r.ensures (sym (rw c.in-Ok.is at c.reach_tested.ensures))))

pub returns-in-Err : goal.returns-in-Err
returns-in-Err c =
    c.unreached.ensures
    ∙ ap probed_reach (answer-refused _ _ _ _ (rw c.in-Err.is at c.reach_tested.ensures) (number-positive c.in-Err.e))
