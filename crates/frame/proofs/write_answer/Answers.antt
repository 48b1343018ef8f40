use Rattle.frame.specs.AnswerLaws.{answered_as}
use Rattle.frame.proofs.write_answer.Goals as goal

-- `frame::write_answer` meets its contract: each answer by its own function.

pub returns-in-Made : goal.returns-in-Made
returns-in-Made c = answered_as c.in-Made.is c.write_one.ensures

pub returns-in-Set : goal.returns-in-Set
returns-in-Set c = answered_as c.in-Set.is c.write_one-in-Set.ensures

pub returns-in-Scored : goal.returns-in-Scored
returns-in-Scored c = answered_as c.in-Scored.is c.write_scored.ensures

pub returns-in-Painted : goal.returns-in-Painted
returns-in-Painted c = answered_as c.in-Painted.is c.write_painted.ensures

pub returns-in-Refused : goal.returns-in-Refused
returns-in-Refused c = answered_as c.in-Refused.is c.write_refused.ensures
