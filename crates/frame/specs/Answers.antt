-- Rules: document 01, "The program": the answers, as capital digits and LF.
use Rattle.std.specs.Prelude.{List, [], ◌∷◌, ◌++◌, ℕ}
use Rattle.frame.specs.declared.Values.{Values}
use Rattle.frame.specs.declared.Answer.{Answer}
use Rattle.frame.specs.declared.Answer.TheVariants.{Made, Set, Scored, Painted, Refused}
use Rattle.lines.specs.Lines.{WriteLineSays}
use Rattle.frame.specs.Frames.{big}

-- count(4) change(4) colour(3×4)
unfoldable pub fields : Values → List ℕ
fields v = big 4 v.count ++ big 4 v.change ++ big 4 v.red ++ big 4 v.green ++ big 4 v.blue

abbrev pub answer_bytes : Answer → List ℕ
answer_bytes Made = 0x81 ∷ []
answer_bytes Set = 0x82 ∷ []
answer_bytes (Scored v) = 0x83 ∷ fields v
answer_bytes (Painted v total) = 0x84 ∷ fields v ++ big 8 total
answer_bytes (Refused n) = 0xff ∷ n ∷ []

-- its line stands at the front of the lent buffer
abbrev pub WriteAnswerSays : Answer → List ℕ → ℕ → List ℕ → Type 0
WriteAnswerSays a old r after = WriteLineSays (answer_bytes a) old r after
