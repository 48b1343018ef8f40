-- Rules: the state before the first frame, and what a decoded frame asks for, by value.
use Rattle.std.specs.Prelude.{◌≡◌, false, Result, List, ℕ, ◌+◌, ◌≤◌, length, take, drop}
use Rattle.refusal.specs.declared.Refusal.{Refusal}
use Rattle.refusal.specs.Outcomes.{Outcome, outcome}
use Rattle.frame.specs.declared.Request.{Request}
use Rattle.frame.specs.declared.Request.TheVariants.{New, Row, Score, Paint}
use Rattle.frame.specs.Frames as frames
use Rattle.held.specs.declared.State.{State}

-- no picture is held as width 0
abbrev pub no_picture : State
no_picture = record { w = 0; h = 0; painted = false }

-- ---- a request by value: the pixels of a row stand among the frame's bytes, from the third on
abbrev pub request_of : Request → List ℕ → frames.Request
request_of (New w h r g b) bytes = frames.new w h r g b
request_of (Row y n) bytes = frames.row y (take n (drop 2 bytes))
request_of (Score kind opacity) bytes = frames.score kind opacity
request_of (Paint kind opacity) bytes = frames.paint kind opacity

-- they are all there
abbrev pub Carried : Request → List ℕ → Type 0
Carried (New w h r g b) bytes = Unit {0}
Carried (Row y n) bytes = 2 + n ≤ length bytes
Carried (Score kind opacity) bytes = Unit {0}
Carried (Paint kind opacity) bytes = Unit {0}

-- a decoded frame is a request or a refusal number
abbrev pub asked_of : Result Request Refusal → Outcome Request
asked_of f = outcome f

-- ---- the promises
abbrev pub StartSays : State → Type 0
StartSays r = r ≡ no_picture

-- whatever a frame is refused with
abbrev pub AskSays : {E : Type 0} → Result Request E → Result Request E → Type 0
AskSays f r = r ≡ f
