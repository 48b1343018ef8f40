-- Laws: an input has one list of answers, as long as its lines; a line that is read, decoded and stepped is answered by the rule.
use Rattle.std.specs.Prelude.{◌≡◌, refl, List, ℕ, suc, ◌≤◌, length, Float}
use Rattle.std.proofs.Common.{sym, ap, ◌∙◌, subst, arith}
use Rattle.lines.specs.declared.Line.{Line}
use Rattle.lines.specs.Hex.{malformed}
use Rattle.lines.specs.Lines.{told, heard}
use Rattle.frame.specs.Frames.{Request, new, row, score, paint, decoded, ReadFrameSays, ReadsTold, ReadLineSays}
use Rattle.frame.specs.ReadLaws.{line_asks_unique, told_reads}
use Rattle.frame.specs.declared.Read.{Read}
use Rattle.frame.specs.declared.Answer.{Answer}
use Rattle.frame.specs.declared.Answer.TheVariants.{Refused}
use Rattle.held.specs.declared.State.{State}
use Rattle.refusal.specs.Outcomes as outcome
use Rattle.frame.specs.declared.Request as asked
use Rattle.session.specs.declared.Stepped.{Stepped}
use Rattle.session.specs.Session.{Session, answer, after}
use Rattle.held.specs.Asking.{request_of, asked_of}
use Rattle.session.specs.Held.{session_of, StepSays}
use Rattle.held.specs.AskingLaws.{read_asks}
use Rattle.program.specs.Program.{LineGives, Gives, none, more, Answers}

-- ---- one answer
pub line_gives_unique : {S : Session} {line : List ℕ} {a b : Answer} {T U : Session} → LineGives S line a T → LineGives S line b U → (a ≡ b) × (T ≡ U)
line_gives_unique {S} (LineGives.taken p x e f) (LineGives.taken q y g h) =
    let same : p ≡ q = line_asks_unique x y in
    (e ∙ ap (answer S) same ∙ sym g, f ∙ ap (after S) same ∙ sym h)
line_gives_unique (LineGives.taken p x e f) (LineGives.refused n g h) = absurd (n p x)
line_gives_unique (LineGives.refused n e f) (LineGives.taken q y g h) = absurd (n q y)
line_gives_unique (LineGives.refused n e f) (LineGives.refused m g h) = (e ∙ sym g, f ∙ sym h)

pub gives_unique : {S T : Session} {lines : List (List ℕ)} {l k : List Answer} → S ≡ T → Gives S lines l → Gives T lines k → l ≡ k
gives_unique e none none = refl
gives_unique {T = T} e (more {S' = S'} {line = line} {a = a} p q) (more x y) =
    let u = line_gives_unique (subst (λ (R : Session). LineGives R line a S') e p) x in
    let v = gives_unique u.1 q y in
    cc u.0

pub answers_unique : (input : List ℕ) (l k : List Answer) → Answers input l → Answers input k → l ≡ k
answers_unique input l k p q = gives_unique refl p q

-- no line is missing
pub gives_length : {S : Session} {lines : List (List ℕ)} {l : List Answer} → Gives S lines l → length l ≡ length lines
gives_length none = refl
gives_length (more p q) = ap suc (gives_length q)

-- ---- a line through the crates: what the program does with it
module _ (s : State) (t c tab : List Float) (line : List ℕ) (read : Read) (reads : ReadFrameSays line read) where
  pub line_taken : (k : asked.Request) (r : Stepped) (t' c' tab' : List Float) → asked_of read.frame ≡ outcome.Done k → StepSays s k read.bytes t c tab r t' c' tab'
      → LineGives (session_of s t c) line r.answer (session_of r.state t' c')
  line_taken k r t' c' tab' e step = by reads
    where
      by : ReadFrameSays line read → LineGives (session_of s t c) line r.answer (session_of r.state t' c')
      by (ReadFrameSays.refused n f) = let z : ◌≡◌ {A = ℕ} 0 1 = cc (ap (λ (x : Read). asked_of x.frame) f) in absurd (omega arith)
      by (ReadFrameSays.asked p a f) =
          let same : request_of k read.bytes ≡ p = read_asks line read k reads e p a in
          LineGives.taken p a (step.answered ∙ ap (answer (session_of s t c)) same) (step.session ∙ ap (after (session_of s t c)) same)

  pub line_refused : (n : ℕ) → asked_of read.frame ≡ outcome.Refused n → LineGives (session_of s t c) line (Refused malformed) (session_of s t c)
  line_refused n e = by reads
    where
      never : (p : Request) → outcome.Done (decoded p) ≡ outcome.Refused n → ⊥
      never p f = let z : ◌≡◌ {A = ℕ} 0 1 = cc in omega arith

      by : ReadFrameSays line read → LineGives (session_of s t c) line (Refused malformed) (session_of s t c)
      by (ReadFrameSays.refused m f) = LineGives.refused m refl refl
      by (ReadFrameSays.asked p a f) = absurd (never p (sym (ap (λ (x : Read). asked_of x.frame) f) ∙ e))

-- the reader's 100 places lose no frame: what it hands on of a line, too long or not, is read as that line
pub held-line : (held : Line) (text line : List ℕ) (room : ℕ) (read : Read) → 100 ≤ room → heard held text ≡ told room line → ReadLineSays held text read
    → ReadFrameSays line read
held-line held text line room read h e p = told_reads room line read h (subst (λ t. ReadsTold t read) e p)
