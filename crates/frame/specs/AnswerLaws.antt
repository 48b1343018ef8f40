-- Laws: an answer is one line; how a number and an answer's bytes are made.
use Rattle.std.specs.Prelude.{◌≡◌, List, ◌∷◌, ◌++◌, ℕ, ◌+◌, ◌/◌, ◌%◌, length, take, drop, replicate}
use Rattle.std.proofs.Common.{sym, ap, ◌∙◌, subst, arith}
use Rattle.std.specs.Int.{w32, w64, to_be_bytes}
use Rattle.frame.specs.declared.Values.{Values}
use Rattle.frame.specs.declared.Answer.{Answer}
use Rattle.frame.specs.declared.Answer.TheVariants.{Scored, Painted}
use Rattle.lines.specs.Lines.{WriteLineSays}
use Rattle.frame.specs.Frames.{big}
use Rattle.frame.specs.FrameLaws.{big-length}
use Rattle.frame.specs.Answers.{fields, answer_bytes, WriteAnswerSays}

pub WriteAnswerSays-unique : (a : Answer) (old : List ℕ) (r s : ℕ) (after after' : List ℕ) → WriteAnswerSays a old r after
    → WriteAnswerSays a old s after' → (r ≡ s) × (after ≡ after')
WriteAnswerSays-unique a old r s after after' p q = (p.count ∙ sym q.count, p.text ∙ sym q.text)

-- the library's bytes of a number are the rule's
pub four_of : (v : ℕ) → to_be_bytes w32 v ≡ big 4 v
four_of v = let p : v % 256 ≡ v / 1 % 256 = omega arith in cc

pub eight_of : (v : ℕ) → to_be_bytes w64 v ≡ big 8 v
eight_of v = let p : v % 256 ≡ v / 1 % 256 = omega arith in cc

-- a part that is a number
pub put-part : (at n v : ℕ) (out part l : List ℕ) → part ≡ big n v → l ≡ take at out ++ (part ++ drop (at + length part) out)
    → l ≡ take at out ++ (big n v ++ drop (at + n) out)
put-part at n v out part l e f =
    f
    ∙ ap (λ (p : List ℕ). take at out ++ (p ++ drop (at + length p) out)) e
    ∙ ap (λ k. take at out ++ (big n v ++ drop (at + k) out)) (big-length n v)

-- ---- an answer's bytes, field by field
abbrev placed : ℕ → ℕ → ℕ → List ℕ → List ℕ
placed at n v l = take at l ++ (big n v ++ drop (at + n) l)

pub begun-bytes : (first : ℕ) (v : Values) (l₁ l₂ l₃ l₄ l₅ : List ℕ) → l₁ ≡ placed 1 4 v.count (first ∷ replicate 28 0)
    → l₂ ≡ placed 5 4 v.change l₁ → l₃ ≡ placed 9 4 v.red l₂ → l₄ ≡ placed 13 4 v.green l₃ → l₅ ≡ placed 17 4 v.blue l₄
    → l₅ ≡ first ∷ fields v ++ replicate 8 0
unfolding fields
begun-bytes first v l₁ l₂ l₃ l₄ l₅ e₁ e₂ e₃ e₄ e₅ =
    e₅
    ∙ ap (placed 17 4 v.blue) (e₄ ∙ ap (placed 13 4 v.green) (e₃ ∙ ap (placed 9 4 v.red) (e₂ ∙ ap (placed 5 4 v.change) e₁)))

pub scored_bytes : (v : Values) (l : List ℕ) → l ≡ 0x83 ∷ fields v ++ replicate 8 0 → take 21 l ≡ answer_bytes (Scored v)
unfolding fields
scored_bytes v l e = ap (take 21) e

pub painted-bytes : (v : Values) (total : ℕ) (l m : List ℕ) → l ≡ 0x84 ∷ fields v ++ replicate 8 0 → m ≡ placed 21 8 total l
    → m ≡ answer_bytes (Painted v total)
unfolding fields
painted-bytes v total l m e f = f ∙ ap (placed 21 8 total) e

-- the same bytes, the same line
pub written_as : {l m old after : List ℕ} {r : ℕ} → l ≡ m → WriteLineSays l old r after → WriteLineSays m old r after
written_as {old = old} {after = after} {r = r} e w = subst (λ t. WriteLineSays t old r after) e w

pub answered_as : {a b : Answer} {old after : List ℕ} {r : ℕ} → a ≡ b → WriteAnswerSays b old r after → WriteAnswerSays a old r after
answered_as {old = old} {after = after} {r = r} e w = subst (λ t. WriteAnswerSays t old r after) (sym e) w
