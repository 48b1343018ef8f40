-- Laws: a reader that is fed an input byte by byte hands on the lines of the input, each as it is or as too long.
use Rattle.std.specs.Prelude.{not, ◌≡◌, refl, Bool, cond, List, [], ◌∷◌, ◌++◌, map, ℕ, suc, ◌+◌, ◌<◌, ◌≤◌, take, set, eqb}
use Rattle.std.proofs.Common.{sym, ap, ◌∙◌, subst, append_assoc, append-nil, ⊎_elim, arith, length-set, length-append, take-suc-set}
use Rattle.std.proofs.Math.Bool.{true, false}
use Rattle.std.proofs.Math.ListN.{length}
use Rattle.std.proofs.Math.Seq.{set_out}
use Rattle.std.proofs.Math.Dec.{ltb}
use borrow.Author.Tests.{lt-ltb, le-ltb, le-leb, lt-leb, eq-eqb, ne_eqb, eqb-false}
use Rattle.lines.specs.declared.Line.{Line}
use Rattle.laws.specs.Bools.{true_or_false}
use Rattle.laws.specs.Fit.{no_both}
use Rattle.lines.specs.Hex.{Each}
use Rattle.lines.specs.HexLaws.{below_or_not}
use Rattle.lines.specs.Lines.{lf, before, split, Told, whole, told, fresh, standing, ending, fed, stored, heard, unfinished, StartSays, FeedSays, LastSays, Reading, taken, all_taken, finished, in_turn}

pub StartSays-unique : (r s : Line) → StartSays r → StartSays s → r ≡ s
StartSays-unique r s p q = p ∙ sym q

pub FeedSays-unique : (line : Line) (b : ℕ) (text : List ℕ) (r s : Line) (after after' : List ℕ) → FeedSays line b text r after
    → FeedSays line b text s after' → (r ≡ s) × (after ≡ after')
FeedSays-unique line b text r s after after' p q = (p.0 ∙ sym q.0, p.1 ∙ sym q.1)

pub LastSays-unique : (line : Line) (r s : Bool) → LastSays line r → LastSays line s → r ≡ s
LastSays-unique line r s p q = p ∙ sym q

-- ---- one byte, by cases; t is where the reader stands
module _ (text : List ℕ) (s t : Line) (b : ℕ) (at : t ≡ standing s) where
  pub feeds_lf : b ≡ lf → FeedSays s b text (ending t) text
  unfolding fed stored
  feeds_lf e = (simp (eq-eqb b 10 e, at), simp (eq-eqb b 10 e))

  pub feeds_held : (b ≡ lf → ⊥) → t.held < length text
      → FeedSays s b text (record { held = t.held + 1; over = t.over; ended = false }) (set text t.held b)
  unfolding fed stored
  feeds_held n h =
      let k : ltb (standing s).held (length text) ≡ true = lt-ltb (standing s).held (length text) (rw at at h) in
      (simp (ne_eqb b 10 n, at, k), simp (ne_eqb b 10 n, at))

  pub feeds_over : (b ≡ lf → ⊥) → length text ≤ t.held → FeedSays s b text (record { held = t.held; over = true; ended = false }) text
  unfolding fed stored
  feeds_over n h =
      let g : length text ≤ (standing s).held = rw at at h in
      let k : ltb (standing s).held (length text) ≡ false = le-ltb (standing s).held (length text) g in
      (simp (ne_eqb b 10 n, at, k), simp (ne_eqb b 10 n, set_out text (standing s).held b g))

-- ---- the end of the input, by cases
module _ (s : Line) where
  pub last-ended : not s.ended ≡ false → LastSays s (not s.ended)
  unfolding unfinished
  last-ended e = simp e

  pub last-over : not s.ended ≡ true → s.over ≡ true → LastSays s s.over
  unfolding unfinished
  last-over e f = simp (e, f)

  pub last-held : not s.ended ≡ true → s.over ≡ false → LastSays s (ltb 0 s.held)
  unfolding unfinished
  last-held e f = simp (e, f)

-- ---- what `split` means: a line up to an LF, the last without one, and none after the last LF
abbrev pub NoLf : List ℕ → Type 0
NoLf = Each (λ b. b ≡ lf → ⊥)

pub split-none : split [] ≡ []
unfolding split
split-none = refl

pub split-line : (line rest : List ℕ) → NoLf line → split (line ++ lf ∷ rest) ≡ line ∷ split rest
unfolding split
split-line [] rest h = refl
split-line (b ∷ line) rest h =
    ap (λ t. cond t ([] ∷ split (line ++ lf ∷ rest)) (before b (split (line ++ lf ∷ rest)))) (ne_eqb b lf h.0)
    ∙ ap (before b) (split-line line rest h.1)

pub split-last : (b : ℕ) (line : List ℕ) → NoLf (b ∷ line) → split (b ∷ line) ≡ (b ∷ line) ∷ []
unfolding split
split-last b [] h = ap (λ t. cond t ([] ∷ []) ((b ∷ []) ∷ [])) (ne_eqb b lf h.0)
split-last b (d ∷ line) h =
    ap (λ t. cond t ([] ∷ split (d ∷ line)) (before b (split (d ∷ line)))) (ne_eqb b lf h.0)
    ∙ ap (before b) (split-last d line h.1)

-- ---- the reader follows the lines
-- t, with what is stored, has the bytes of a line that came so far
pub record Has (room : ℕ) (seen : List ℕ) (t : Line) (text : List ℕ) : Type 0 where
  pub all : length text ≡ room
  pub fits : length seen ≤ room → (t.held ≡ length seen) × (t.over ≡ false) × (take (length seen) text ≡ seen)
  pub long : room < length seen → (t.held ≡ room) × (t.over ≡ true)

pub has_none : (text : List ℕ) → Has (length text) [] fresh text
has_none text = record { all = refl; fits = λ h. (refl, refl, refl); long = λ h. absurd (omega arith) }

-- what it hands on is that line
pub has_told : {room : ℕ} {seen : List ℕ} {t : Line} {text : List ℕ} → Has room seen t text → heard t text ≡ told room seen
unfolding heard
has_told {room} {seen} {t} {text} h =
    ⊎_elim
    (λ (l : room < length seen). simp ((h.long l).1, lt-leb (length seen) room l))
    (λ (l : length seen ≤ room).
    let f = h.fits l in
    let e : t.held ≡ length seen = f.0 in
    let g : length text ≡ room = h.all in
    let k : ltb (length text) t.held ≡ false = le-ltb (length text) t.held (omega arith) in
    simp (f.1, k, le-leb (length seen) room l) (ap whole (ap (λ n. take n text) e ∙ f.2)))
    (below_or_not room (length seen))

-- a byte more
pub has_more : (room : ℕ) (seen text : List ℕ) (s : Line) (b : ℕ) → Has room seen (standing s) text → (b ≡ lf → ⊥)
    → Has room (seen ++ b ∷ []) (standing (fed room s b)) (stored s b text)
unfolding fed stored
has_more room seen text s b h n =
    ⊎_elim
    (λ (l : length seen < room).
    let f = h.fits (omega arith) in
    let k : ltb (standing s).held room ≡ true = lt-ltb (standing s).held room (omega (arith, f.0)) in
    let in_text : length seen < length text = omega (arith, h.all) in
    simp (ne_eqb b 10 n, k)
    (record {
      all = length-set text (standing s).held b ∙ h.all;
      fits = λ m. (
        omega (arith, f.0, length_snoc),
        f.1,
        ap (λ i. take (length (seen ++ b ∷ [])) (set text i b)) f.0
            ∙ ap (λ i. take i (set text (length seen) b)) length_snoc
            ∙ take-suc-set text (length seen) b in_text
            ∙ ap (λ (t : List ℕ). t ++ b ∷ []) f.2,
      );
      long = λ m. absurd (omega (arith, length_snoc));
    }))
    (λ (l : room ≤ length seen).
    let held : (standing s).held ≡ room =
    ⊎_elim (λ (e : room < length seen). (h.long e).0) (λ (e : length seen ≤ room). (h.fits e).0 ∙ omega arith) (below_or_not room (length seen)) in
    let k : ltb (standing s).held room ≡ false = le-ltb (standing s).held room (omega (arith, held)) in
    let out : length text ≤ (standing s).held = omega (arith, held, h.all) in
    simp (ne_eqb b 10 n, k, set_out text (standing s).held b out)
    (record { all = h.all; fits = λ m. absurd (omega (arith, length_snoc)); long = λ m. (held, refl) }))
    (below_or_not (length seen) room)
  where
    length_snoc : length (seen ++ b ∷ []) ≡ suc (length seen)
    length_snoc = length-append seen (b ∷ []) ∙ omega arith

-- the lines of an input before which some bytes of a line came
abbrev pub onto : List ℕ → List (List ℕ) → List (List ℕ)
onto seen (line ∷ more) = (seen ++ line) ∷ more
onto [] [] = []
onto (b ∷ seen) [] = (b ∷ seen) ∷ []

onto-none : (lines : List (List ℕ)) → onto [] lines ≡ lines
onto-none [] = refl
onto-none (line ∷ more) = refl

onto-more : (seen : List ℕ) (b : ℕ) (lines : List (List ℕ)) → onto seen (before b lines) ≡ onto (seen ++ b ∷ []) lines
onto-more [] b [] = refl
onto-more (x ∷ seen) b [] = refl
onto-more seen b (line ∷ more) = ap (λ l. l ∷ more) (sym (append_assoc seen (b ∷ []) line))

onto-lf : (seen : List ℕ) (b : ℕ) (rest : List ℕ) → eqb b lf ≡ true → seen ∷ split rest ≡ onto seen (split (b ∷ rest))
unfolding split
onto-lf seen b rest e = simp e (ap (λ (l : List ℕ). l ∷ split rest) (sym (append-nil seen)))

onto-byte : (seen : List ℕ) (b : ℕ) (rest : List ℕ) → eqb b lf ≡ false → onto (seen ++ b ∷ []) (split rest) ≡ onto seen (split (b ∷ rest))
unfolding split
onto-byte seen b rest e = simp e (sym (onto-more seen b (split rest)))

goes_on : (room : ℕ) (s : Line) (b : ℕ) → eqb b lf ≡ false → (fed room s b).ended ≡ false
unfolding fed
goes_on room s b e =
    ⊎_elim
    (λ (q : ltb (standing s).held room ≡ true). simp (e, q))
    (λ (q : ltb (standing s).held room ≡ false). simp (e, q))
    (true_or_false (ltb (standing s).held room))

-- the end of the input, by whether anything of a line came
unfinished-none : (room : ℕ) (text : List ℕ) (s : Line) → Has room [] (standing s) text → unfinished s ≡ false
unfolding unfinished
unfinished-none room text s h =
    ⊎_elim
    (λ (e : s.ended ≡ true). simp e)
    (λ (e : s.ended ≡ false).
    let f = h.fits (omega arith) in
    let over : s.over ≡ false = simp e at f.1 in
    let held : s.held ≡ 0 = simp e at f.0 in
    simp (e, over, held))
    (true_or_false s.ended)

unfinished-some : (room b : ℕ) (seen text : List ℕ) (s : Line) → Has room (b ∷ seen) (standing s) text → (unfinished s ≡ true) × (standing s ≡ s)
unfolding unfinished
unfinished-some room b seen text s h =
    ⊎_elim
    (λ (e : s.ended ≡ true).
    ⊎_elim
    (λ (l : room < length (b ∷ seen)). no_both (simp e at (h.long l).1) refl)
    (λ (l : length (b ∷ seen) ≤ room). absurd (omega (arith, simp e at (h.fits l).0)))
    (below_or_not room (length (b ∷ seen))))
    (λ (e : s.ended ≡ false).
    ⊎_elim
    (λ (l : room < length (b ∷ seen)).
    let over : s.over ≡ true = simp e at (h.long l).1 in
    (simp (e, over), simp e))
    (λ (l : length (b ∷ seen) ≤ room).
    let f = h.fits l in
    let over : s.over ≡ false = simp e at f.1 in
    let held : s.held ≡ length (b ∷ seen) = simp e at f.0 in
    (simp (e, over, lt-ltb 0 s.held (omega arith)), simp e))
    (below_or_not room (length (b ∷ seen))))
    (true_or_false s.ended)

module _ {S : Type 0} (answer : S → Told → S) where
  -- at the end of the input, what came of a line is answered, unless nothing did
  ends : (room : ℕ) (seen : List ℕ) (r : Reading S) → Has room seen (standing r.line) r.text
      → finished answer r ≡ in_turn answer r.state (map (told room) (onto seen []))
  ends room [] r h = simp (unfinished-none room r.text r.line h)
  ends room (b ∷ seen) r h =
      let u = unfinished-some room b seen r.text r.line h in
      let e : heard r.line r.text ≡ told room (b ∷ seen) = has_told (rw u.1 at h) in
      simp u.0 (ap (answer r.state) e)

  -- an LF: the line is answered, and nothing came of the next
  taken-lf : (room b : ℕ) (seen : List ℕ) (r : Reading S) → Has room seen (standing r.line) r.text → eqb b lf ≡ true
      → taken answer r b ≡ record { line = ending (standing r.line); text = r.text; state = answer r.state (told room seen) }
  unfolding fed stored
  taken-lf room b seen r h e =
      let f : heard (ending (standing r.line)) r.text ≡ told room seen = unfold heard in (has_told h) in
      simp (e, f)

  -- any other byte: nothing is answered
  taken_more : (room b : ℕ) (r : Reading S) → length r.text ≡ room → eqb b lf ≡ false
      → taken answer r b ≡ record { line = fed room r.line b; text = stored r.line b r.text; state = r.state }
  taken_more room b r l e = simp (l, goes_on room r.line b e)

  follows : (room : ℕ) (input seen : List ℕ) (r : Reading S) → Has room seen (standing r.line) r.text
      → finished answer (all_taken answer r input) ≡ in_turn answer r.state (map (told room) (onto seen (split input)))
  follows room [] seen r h =
      ends room seen r h ∙ ap (λ (l : List (List ℕ)). in_turn answer r.state (map (told room) (onto seen l))) (sym split-none)
  follows room (b ∷ rest) seen r h =
      ⊎_elim
      (λ (e : eqb b lf ≡ true).
      ap (λ q. finished answer (all_taken answer q rest)) (taken-lf room b seen r h e)
      ∙ follows room rest []
      (record { line = ending (standing r.line); text = r.text; state = answer r.state (told room seen) })
      (subst (λ n. Has n [] fresh r.text) h.all (has_none r.text))
      ∙ ap (λ (l : List (List ℕ)). in_turn answer (answer r.state (told room seen)) (map (told room) l)) (onto-none (split rest))
      ∙ ap (λ (l : List (List ℕ)). in_turn answer r.state (map (told room) l)) (onto-lf seen b rest e))
      (λ (e : eqb b lf ≡ false).
      ap (λ q. finished answer (all_taken answer q rest)) (taken_more room b r h.all e)
      ∙ follows room rest (seen ++ b ∷ [])
      (record { line = fed room r.line b; text = stored r.line b r.text; state = r.state })
      (has_more room seen r.text r.line b h (eqb-false b lf e))
      ∙ ap (λ (l : List (List ℕ)). in_turn answer r.state (map (told room) l)) (onto-byte seen b rest e))
      (true_or_false (eqb b lf))

  -- an input that comes in parts is the whole input
  pub in_parts : (a b : List ℕ) (r : Reading S) → all_taken answer r (a ++ b) ≡ all_taken answer (all_taken answer r a) b
  in_parts [] b r = refl
  in_parts (x ∷ a) b r = in_parts a b (taken answer r x)

  -- fed byte by byte, an input is answered as its lines are in turn
  pub lines_in_turn : (state : S) (text input : List ℕ)
      → finished answer (all_taken answer (record { line = fresh; text = text; state = state }) input)
      ≡ in_turn answer state (map (told (length text)) (split input))
  lines_in_turn state text input =
      follows (length text) input [] (record { line = fresh; text = text; state = state }) (has_none text)
      ∙ ap (λ (l : List (List ℕ)). in_turn answer state (map (told (length text)) l)) (onto-none (split input))
