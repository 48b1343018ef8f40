use Rattle.std.proofs.Common.{◌∙◌}
use Rattle.frame.specs.AnswerLaws.{painted-bytes, written_as, eight_of, put-part}
use Rattle.frame.proofs.write_painted.Goals as goal

-- `frame::write_painted` meets its contract: the total fills the room that was left.

pub returns : goal.returns
returns c =
    let a = c.args in
    written_as (painted-bytes a.v a.total _ _ c.begun-bytes.ensures (put-part 21 8 a.total c.begun-bytes.result _ _ (c.to_be_bytes.ensures ∙ eight_of a.total) c.put_at.ensures)) c.write_line.ensures
