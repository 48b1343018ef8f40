use Rattle.frame.specs.AnswerLaws.{scored_bytes, written_as}
use Rattle.frame.proofs.write_scored.Goals as goal

-- `frame::write_scored` meets its contract: the first 21 bytes are the answer's.

pub returns : goal.returns
returns c = written_as (scored_bytes c.args.v _ c.begun-bytes.ensures) c.write_line.ensures
