-- Rules: how the running state is held: its numbers by value, two pictures and a table at the front of what is lent; and what a step promises.
use Rattle.std.specs.Prelude.{◌≡◌, Result, Ok, Err, false, not, cond, List, [], ◌∷◌, ℕ, ◌+◌, ◌*◌, ◌≤◌, T, eqb, length, take, drop, Float}
use Rattle.refusal.specs.Refusals.{lowest, place_if, opacity_if}
use Rattle.float.specs.Within.{within, all_within}
use Rattle.cover.specs.declared.Kind.{Kind}
use Rattle.cover.specs.Cover.{bad_places}
use Rattle.grade.specs.declared.Score.{Score}
use Rattle.refusal.specs.declared.Refusal.{Refusal}
use Rattle.refusal.specs.Outcomes.{Outcome, number}
use Rattle.grade.specs.Finalize.{finalized}
use Rattle.grade.specs.Answered.{answered}
use Rattle.gather.specs.Gathered.{span_sums}
use Rattle.lines.specs.Hex.{malformed}
use Rattle.table.specs.Table.{Table}
use Rattle.frame.specs.Frames as frames
use Rattle.frame.specs.declared.Answer.{Answer}
use Rattle.frame.specs.declared.Answer.TheVariants.{Refused}
use Rattle.held.specs.declared.State.{State}
use Rattle.frame.specs.declared.Request.{Request}
use Rattle.held.specs.Asking.{no_picture, request_of}
use Rattle.session.specs.declared.Stepped.{Stepped}
use Rattle.session.specs.Session.{Session, nothing, drawing, after, answer}

-- ---- a picture with its table, each at exactly its size
pub record Sides (w h : ℕ) : Type 0 where
  pub w_low : 1 ≤ w
  pub w_high : w ≤ 16
  pub h_low : 1 ≤ h
  pub h_high : h ≤ 16

pub record Sheet (w h : ℕ) (target canvas table : List Float) : Type 0 where
  pub sides : Sides w h
  pub target_size : length target ≡ h * w * 3
  pub canvas-size : length canvas ≡ h * w * 3
  pub sums : Table w h target canvas table
  pub targets : T (all_within target)

-- ---- what is lent, and what stands at its front. No picture is held as width 0
abbrev pub picture_size : State → ℕ
picture_size s = s.h * s.w * 3

abbrev pub table_size : State → ℕ
table_size s = s.h * (s.w + 1) * 15

pub data Standing (s : State) (target canvas table : List Float) : Type 0 where
  none : s ≡ no_picture → Standing s target canvas table
  some : Sheet s.w s.h (take (picture_size s) target) (take (picture_size s) canvas) (take (table_size s) table)
      → (s.painted ≡ false → T (all_within (take (picture_size s) canvas))) → Standing s target canvas table

pub record Holds (s : State) (target canvas table : List Float) : Type 0 where
  pub target_room : length target ≡ 768
  pub canvas-room : length canvas ≡ 768
  pub table-room : length table ≡ 4080
  pub standing : Standing s target canvas table

unfoldable pub session_of : State → List Float → List Float → Session
session_of s target canvas =
    cond (eqb s.w 0) nothing (drawing s.w s.h s.painted (take (picture_size s) target) (take (picture_size s) canvas))

abbrev pub stepped : State → Answer → Stepped
stepped s a = record { state = s; answer = a }

-- a refused request leaves the state, and is answered by its number
abbrev pub stepped_by : State → Result Stepped Refusal → Stepped
stepped_by s (Ok r) = r
stepped_by s (Err e) = stepped s (Refused (number e))

-- ---- a shape on the picture held: its number, 0 for none, and its score from the table
abbrev pub shape_refusal : State → Kind → Float → ℕ
shape_refusal s kind opacity = cond (eqb s.w 0) malformed (lowest (place_if (bad_places kind) ∷ opacity_if (not (within opacity)) ∷ []))

abbrev pub weighed_of : State → Kind → Float → List Float → Outcome Score
weighed_of s kind opacity table = answered (shape_refusal s kind opacity) (finalized (span_sums kind s.w s.h (take (table_size s) table)) opacity)

-- ---- the promises
-- the rule's step from the state held before to the state held after; what lies behind the pictures and the table stays
pub record StepTakes (s : State) (q : frames.Request) (target canvas table : List Float) (r : Stepped) (target' canvas' table' : List Float) : Type 0 where
  pub answered : r.answer ≡ answer (session_of s target canvas) q
  pub session : session_of r.state target' canvas' ≡ after (session_of s target canvas) q
  pub holds : Holds r.state target' canvas' table'
  pub target_rest : drop (picture_size r.state) target' ≡ drop (picture_size r.state) target
  pub canvas-rest : drop (picture_size r.state) canvas' ≡ drop (picture_size r.state) canvas
  pub table-rest : drop (table_size r.state) table' ≡ drop (table_size r.state) table

abbrev pub StepSays : State → Request → List ℕ → List Float → List Float → List Float → Stepped → List Float → List Float → List Float → Type 0
StepSays s q bytes target canvas table r target' canvas' table' = StepTakes s (request_of q bytes) target canvas table r target' canvas' table'
