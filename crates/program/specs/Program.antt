-- Rules: document 01, "The program": the answers to an input, one for each of its lines.
use Rattle.std.specs.Prelude.{◌≡◌, List, [], ◌∷◌, ℕ}
use Rattle.lines.specs.Hex.{malformed}
use Rattle.lines.specs.Lines.{split}
use Rattle.frame.specs.Frames.{Request, LineAsks}
use Rattle.frame.specs.declared.Answer.{Answer}
use Rattle.frame.specs.declared.Answer.TheVariants.{Refused}
use Rattle.session.specs.Session.{Session, nothing, after, answer}

-- a line is answered by the request that it asks for; one that asks for none is refused 8, and the earlier state stays
pub data LineGives (S : Session) (line : List ℕ) (a : Answer) (S' : Session) : Type 0 where
  taken : (q : Request) → LineAsks line q → a ≡ answer S q → S' ≡ after S q → LineGives S line a S'
  refused : ((q : Request) → LineAsks line q → ⊥) → a ≡ Refused malformed → S' ≡ S → LineGives S line a S'

-- lines in turn
pub data Gives : Session → List (List ℕ) → List Answer → Type 0 where
  none : {S : Session} → Gives S [] []
  more : {S S' : Session} {line : List ℕ} {rest : List (List ℕ)} {a : Answer} {others : List Answer} → LineGives S line a S' → Gives S' rest others
      → Gives S (line ∷ rest) (a ∷ others)

abbrev pub Answers : List ℕ → List Answer → Type 0
Answers input answers = Gives nothing (split input) answers
