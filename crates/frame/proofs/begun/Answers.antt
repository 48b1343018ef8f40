use Rattle.std.proofs.Common.{◌∙◌, ◌∷◌}
use Rattle.std.specs.Prelude.{replicate}
use Rattle.frame.specs.AnswerLaws.{begun-bytes, four_of, put-part}
use Rattle.frame.proofs.begun.Goals as goal

-- `frame::begun` meets its contract: one field after another.

pub returns : goal.returns
returns c =
    let v = c.args.v in
    begun-bytes c.args.first v _ _ _ _ _
    (put-part 1 4 v.count (c.args.first ∷ replicate 28 0) _ _ (c.to_be_bytes.ensures ∙ four_of v.count) c.put_at.ensures)
    (put-part 5 4 v.change c.put_at.new.out _ _ (c.to_be_bytes-2.ensures ∙ four_of v.change) c.put_at-2.ensures)
    (put-part 9 4 v.red c.put_at-2.new.out _ _ (c.to_be_bytes-3.ensures ∙ four_of v.red) c.put_at-3.ensures)
    (put-part 13 4 v.green c.put_at-3.new.out _ _ (c.to_be_bytes-4.ensures ∙ four_of v.green) c.put_at-4.ensures)
    (put-part 17 4 v.blue c.put_at-4.new.out _ _ (c.to_be_bytes-5.ensures ∙ four_of v.blue) c.put_at-5.ensures)
