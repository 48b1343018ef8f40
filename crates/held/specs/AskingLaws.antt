-- Laws: two answers that meet a promise are equal; a frame that was read carries its request.
use Rattle.std.specs.Prelude.{◌≡◌, refl, Result, List, ◌++◌, ℕ, ◌-◌, length, replicate}
use Rattle.std.proofs.Common.{sym, ap, ◌∙◌, arith, length-append, take_at}
use Rattle.lines.specs.declared.Line.{Line}
use Rattle.lines.specs.Lines.{Told, whole, too_long, heard}
use Rattle.refusal.specs.declared.Refusal.{Refusal}
use Rattle.refusal.specs.Outcomes.{Done, outcome}
use Rattle.frame.specs.declared.Request.{Request}
use Rattle.frame.specs.declared.Request.TheVariants.{New, Row, Score, Paint}
use Rattle.frame.specs.declared.Read.{Read}
use Rattle.frame.specs.Frames as frames
use Rattle.frame.specs.ReadLaws.{line_asks_unique}
use Rattle.held.specs.declared.State.{State}
use Rattle.held.specs.Asking.{request_of, Carried, asked_of, StartSays, AskSays}

pub StartSays-unique : (r k : State) → StartSays r → StartSays k → r ≡ k
StartSays-unique r k p q = p ∙ sym q

pub AskSays-unique : {E : Type 0} (f r k : Result Request E) → AskSays f r → AskSays f k → r ≡ k
AskSays-unique f r k p q = p ∙ sym q

-- of a frame that has a request or a refusal's number: the same request, or the same number
pub ask-told : (f r : Result Request Refusal) → AskSays f r → outcome r ≡ asked_of f
ask-told f r p = ap outcome p

-- ---- a request that was read: its bytes carry it, and it is the one that the line asks for
-- the rule's request by value, with the bytes of its frame
carried_by : (q : frames.Request) (z : List ℕ) (k : Request) → frames.decoded q ≡ k → Carried k (frames.frame q ++ z) × (request_of k (frames.frame q ++ z) ≡ q)
carried_by (frames.new w h r g b) z k e =
    let f : k ≡ New w h r g b = sym e in
    (rw f tt, rw f refl)
carried_by (frames.row y pixels) z k e =
    let f : k ≡ Row y (length pixels) = sym e in
    (rw f (omega (arith, length-append pixels z)), rw f (ap (frames.row y) (take_at pixels z (length pixels) refl)))
carried_by (frames.score kind o) z k e =
    let f : k ≡ Score kind o = sym e in
    (rw f tt, rw f refl)
carried_by (frames.paint kind o) z k e =
    let f : k ≡ Paint kind o = sym e in
    (rw f tt, rw f refl)

module _ (line : List ℕ) (r : Read) (k : Request) (e : asked_of r.frame ≡ Done k) where
  frame-read : frames.ReadFrameSays line r → Carried k r.bytes × ((q : frames.Request) → frames.LineAsks line q → request_of k r.bytes ≡ q)
  frame-read (frames.ReadFrameSays.refused n f) = let z : ◌≡◌ {A = ℕ} 0 1 = cc (ap (λ (x : Read). asked_of x.frame) f) in absurd (omega arith)
  frame-read (frames.ReadFrameSays.asked p a f) =
      let h : Done (frames.decoded p) ≡ Done k = sym (ap (λ (x : Read). asked_of x.frame) f) ∙ e in
      let g : frames.decoded p ≡ k = cc in
      let b = carried_by p (replicate (50 - length (frames.frame p)) 0) k g in
      (rw f b.0, λ q l. rw f b.1 ∙ line_asks_unique a l)

pub read_carries : (line : Line) (text : List ℕ) (r : Read) (k : Request) → frames.ReadLineSays line text r → asked_of r.frame ≡ Done k → Carried k r.bytes
read_carries line text r k p e = by (heard line text) p
  where
    by : (t : Told) → frames.ReadsTold t r → Carried k r.bytes
    by (whole l) q = (frame-read l r k e q).0
    by too_long q = let z : ◌≡◌ {A = ℕ} 0 1 = cc (ap (λ (x : Read). asked_of x.frame) q) in absurd (omega arith)

-- so the program steps by the request of the line
pub read_asks : (line : List ℕ) (r : Read) (k : Request) → frames.ReadFrameSays line r → asked_of r.frame ≡ Done k → (q : frames.Request) → frames.LineAsks line q
    → request_of k r.bytes ≡ q
read_asks line r k p e q l = (frame-read line r k e p).1 q l
