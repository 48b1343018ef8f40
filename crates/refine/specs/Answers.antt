-- Rules: what refinement answers, and what it leaves in the two work pictures.
use Rattle.std.specs.Prelude.{◌≡◌, cond, List, ℕ, eqb, Float, length, Option, None, Some}
use Rattle.refusal.specs.declared.Refusal.{Refusal}
use Rattle.refusal.specs.Outcomes.{number}
use Rattle.shapes.specs.declared.Shape.{Shape}
use Rattle.shapes.specs.declared.Shapes.{Shapes}
use Rattle.shapes.specs.declared.Candidates.{Candidates}
use Rattle.refine.specs.declared.Refined.{Refined}
use Rattle.shapes.specs.Lists.{listed}
use Rattle.refine.specs.Tests.{refusal_of}
use Rattle.traces.specs.Refinement.{Scene, Progress, drawn, refined}
use Rattle.traces.specs.Scenes.{scene_of}

-- an answer as it is compared: of the list its count and the shapes below it
pub record Told : Type 0 where
  pub refusal : ℕ
  pub count : ℕ
  pub list : List Shape
  pub passes : ℕ
  pub trials : ℕ
  pub acceptances : ℕ

-- the number of a refusal, 0 where there is none
abbrev pub number_in : Option Refusal → ℕ
number_in None = 0
number_in (Some why) = number why

abbrev pub told : Refined → Told
told r = record {
  refusal = number_in r.refusal;
  count = r.shapes.count;
  list = listed r.shapes;
  passes = r.passes;
  trials = r.trials;
  acceptances = r.acceptances;
}

-- done: what the rule gives
abbrev pub done_with : Progress Shape → Told
done_with a = record { refusal = 0; count = length a.list; list = a.list; passes = a.passes; trials = a.trials; acceptances = a.acceptances }

-- refused: the list as handed in, all else zero
abbrev pub refused_with : ℕ → Shapes → Told
refused_with n l = record { refusal = n; count = l.count; list = listed l; passes = 0; trials = 0; acceptances = 0 }

-- in both work pictures, before as it was lent: the final list drawn over the background, unless the number n is given
abbrev pub drawn_or : ℕ → Scene Shape (List Float) → Progress Shape → List Float → List Float
drawn_or n g a before = cond (eqb n 0) (drawn g a.list) before

-- w, h, the background's colour, the target, the list, the candidates, the passes and the work pictures as lent; the answer, and the work pictures as they are left
pub record RefineShapesSays (w h : ℕ) (red green blue : Float) (target : List Float) (list : Shapes) (candidates : Candidates) (passes : ℕ) (first second : List Float) (r : Refined) (first' second' : List Float) : Type 0 where
  pub answer :
      told r
      ≡ cond (eqb (refusal_of w h red green blue target list candidates passes (length first) (length second)) 0)
      (done_with (refined (scene_of w h red green blue target candidates) passes (listed list)))
      (refused_with (refusal_of w h red green blue target list candidates passes (length first) (length second)) list)
  pub left-first :
      first'
      ≡ drawn_or (refusal_of w h red green blue target list candidates passes (length first) (length second))
      (scene_of w h red green blue target candidates)
      (refined (scene_of w h red green blue target candidates) passes (listed list))
      first
  pub left-second :
      second'
      ≡ drawn_or (refusal_of w h red green blue target list candidates passes (length first) (length second))
      (scene_of w h red green blue target candidates)
      (refined (scene_of w h red green blue target candidates) passes (listed list))
      second
