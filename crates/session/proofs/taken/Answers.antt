use Rattle.session.specs.SessionLaws.{request_as}
use Rattle.session.proofs.taken.Goals as goal

-- `session::taken` meets its contract, by cases on the request.

pub step_row-requires : goal.step_row-requires
step_row-requires c =
    record { held = c.requires.held; carried = rw c.in-Row.is at c.requires.carried }

pub returns-in-New : goal.returns-in-New
returns-in-New c = request_as c.args.bytes.now c.in-New.is c.step_new.ensures

pub returns-in-Row : goal.returns-in-Row
returns-in-Row c = request_as c.args.bytes.now c.in-Row.is c.step_row.ensures

pub returns-in-Score : goal.returns-in-Score
returns-in-Score c = request_as c.args.bytes.now c.in-Score.is c.step_score.ensures

pub returns-in-Paint : goal.returns-in-Paint
returns-in-Paint c = request_as c.args.bytes.now c.in-Paint.is c.step_paint.ensures
