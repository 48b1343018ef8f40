-- Laws: two answers that meet the promise are equal, lists below their count, and so is what is left in the work pictures.
use Rattle.std.specs.Prelude.{◌≡◌, Bool, true, false, cond, List, ℕ, eqb, Float, length, None}
use Rattle.std.proofs.Common.{sym, ap, ◌∙◌, eq-eqb, ne_eqb}
use Rattle.shapes.specs.declared.Shape.{Shape}
use Rattle.shapes.specs.declared.Shapes.{Shapes}
use Rattle.shapes.specs.declared.Candidates.{Candidates}
use Rattle.refine.specs.declared.Refined.{Refined}
use Rattle.shapes.specs.Lists.{listed}
use Rattle.refine.specs.Tests.{refusal_of}
use Rattle.traces.specs.Refinement.{Progress, drawn, refined}
use Rattle.traces.specs.Scenes.{scene_of}
use Rattle.refine.specs.Answers.{number_in, told, done_with, refused_with, RefineShapesSays}

pub RefineShapesSays-unique : (w h : ℕ) (red green blue : Float) (target : List Float) (shapes : Shapes) (candidates : Candidates) (passes : ℕ) (first second : List Float)
    (r s : Refined) (f g a b : List Float) → RefineShapesSays w h red green blue target shapes candidates passes first second r f a
    → RefineShapesSays w h red green blue target shapes candidates passes first second s g b → (told r ≡ told s) × (f ≡ g) × (a ≡ b)
RefineShapesSays-unique w h red green blue target shapes candidates passes first second r s f g a b p q =
    (p.answer ∙ sym q.answer, p.left-first ∙ sym q.left-first, p.left-second ∙ sym q.left-second)

-- ---- the two ways to meet it
module _ (w h : ℕ) (red green blue : Float) (target : List Float) (shapes : Shapes) (candidates : Candidates) (passes : ℕ) (first second : List Float) where
  module _ (e : refusal_of w h red green blue target shapes candidates passes (length first) (length second) ≡ 0) where
    pub done_says : (r : Refined) (list : Shapes) (place : ℕ) (first' second' : List Float) → r.refusal ≡ None → r.shapes ≡ list → list.count ≡ length (listed list)
        → record { list = listed list; place = place; passes = r.passes; trials = r.trials; acceptances = r.acceptances } ≡ refined (scene_of w h red green blue target candidates) passes (listed shapes)
        → first' ≡ drawn (scene_of w h red green blue target candidates) (listed list) → second' ≡ drawn (scene_of w h red green blue target candidates) (listed list)
        → RefineShapesSays w h red green blue target shapes candidates passes first second r first' second'
    done_says r list place first' second' z s c p f f' =
        let g = scene_of w h red green blue target candidates in
        let n = refusal_of w h red green blue target shapes candidates passes (length first) (length second) in
        let t : eqb n 0 ≡ true = eq-eqb n 0 e in
        let l : listed list ≡ (refined g passes (listed shapes)).list = ap (λ (a : Progress Shape). a.list) p in
        record {
          answer =
              (λ i. record { refusal = number_in (z i); count = (s i).count; list = listed (s i); passes = r.passes; trials = r.trials; acceptances = r.acceptances })
              ∙ ap (λ (k : ℕ). record { refusal = 0; count = k; list = listed list; passes = r.passes; trials = r.trials; acceptances = r.acceptances }) c
              ∙ ap done_with p
              ∙ ap (λ (b : Bool). cond b (done_with (refined g passes (listed shapes))) (refused_with n shapes)) (sym t);
          left-first = f ∙ ap (drawn g) l ∙ ap (λ (b : Bool). cond b (drawn g (refined g passes (listed shapes)).list) first) (sym t);
          left-second = f' ∙ ap (drawn g) l ∙ ap (λ (b : Bool). cond b (drawn g (refined g passes (listed shapes)).list) second) (sym t);
        }

  pub refused_says : (r : Refined) (n : ℕ) → refusal_of w h red green blue target shapes candidates passes (length first) (length second) ≡ n → (n ≡ 0 → ⊥) → told r ≡ refused_with n shapes
      → RefineShapesSays w h red green blue target shapes candidates passes first second r first second
  refused_says r n e k t =
      let g = scene_of w h red green blue target candidates in
      let m = refusal_of w h red green blue target shapes candidates passes (length first) (length second) in
      let u : eqb m 0 ≡ false = ne_eqb m 0 (λ z. k (sym e ∙ z)) in
      record {
        answer = t ∙ ap (λ (i : ℕ). refused_with i shapes) (sym e) ∙ ap (λ (b : Bool). cond b (done_with (refined g passes (listed shapes))) (refused_with m shapes)) (sym u);
        left-first = ap (λ (b : Bool). cond b (drawn g (refined g passes (listed shapes)).list) first) (sym u);
        left-second = ap (λ (b : Bool). cond b (drawn g (refined g passes (listed shapes)).list) second) (sym u);
      }
