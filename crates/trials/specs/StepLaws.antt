-- Laws: each way through a trial keeps to the rule, and only one course is the rule's next.
use Rattle.std.specs.Prelude.{◌≡◌, refl, Bool, true, false, ◌&&◌, ℕ, suc, ◌+◌, ◌*◌, ◌≤◌, ◌<◌, Float, take, drop, Option, None, Some}
use Rattle.std.proofs.Math.Path.{sym, ap, subst}
use Rattle.std.proofs.Common.{◌∙◌, arith, length-take-le}
use mathlib.Core.List.{List, [], ◌∷◌, ◌++◌}
use Rattle.std.proofs.Math.Dec.{T}
use Rattle.std.specs.Float.Ieee.Fits.{and_i}
use Rattle.std.proofs.Math.ListN.{length}
use Rattle.std.proofs.Math.Seq.{take-append-le}
use Rattle.laws.specs.Every.{every}
use Rattle.laws.specs.EveryLaws.{every_append, every_take, every_drop}
use Rattle.laws.specs.Without.{without}
use Rattle.laws.specs.WithoutLaws.{length_without, take-without}
use Rattle.float.specs.Within.{all_within}
use Rattle.shapes.specs.declared.Shape.{Shape}
use Rattle.shapes.specs.declared.Shapes.{Shapes}
use Rattle.shapes.specs.Lists.{listed, ExchangeSays}
use Rattle.shapes.specs.Ranges.{fits}
use Rattle.traces.specs.Refinement.{Scene, Progress, drawn, lower, after}
use Rattle.traces.specs.Scenes.{scene_with}
use Rattle.traces.specs.RefinementLaws.{drawn_exchanged, next-none, next-kept, next-taken}
use Rattle.trials.specs.declared.Course.{Course}
use Rattle.trials.specs.Courses.{progress_of, risen, taken, Aids, Aided, Kept, Held, Stepped, StepSays}

every-without : (p : Shape → Bool) (j : ℕ) (l : List Shape) (x : Shape) → T (every p l) → T (p x) → T (every p (without j l ++ (x ∷ [])))
unfolding without every
every-without p j l x h k =
    subst T (sym (every_append p (take j l ++ drop (suc j) l) (x ∷ []) ∙ ap (λ (b : Bool). b && every p (x ∷ [])) (every_append p (take j l) (drop (suc j) l))))
    (and_i (every p (take j l) && every p (drop (suc j) l)) (every p (x ∷ [])) (and_i (every p (take j l)) (every p (drop (suc j) l)) (every_take p j l h) (every_drop p (suc j) l h)) (and_i (p x) true k tt))

-- a list as long as its count
pub listed-length : (list : Shapes) → list.count ≤ 64 → length list.items ≡ 64 → length (listed list) ≡ list.count
listed-length list few long = length-take-le list.count list.items (omega arith)

module _ (g : Scene Shape (List Float)) (size : ℕ) (q : List Shape → Aids → Type 0) where
  pub kept-length : (c : Course) (first : List Float) (aids : Aids) → Kept g size q c first aids → length (listed c.list) ≡ c.list.count
  kept-length c first aids k = listed-length c.list k.few k.long

  -- ---- one trial
  module _ (c : Course) (first : List Float) (aids : Aids) (d : Held g size q c first aids) where
    -- without a candidate
    pub stepped_none : g.candidate c.trials ≡ None → Stepped g size q c (risen c c.made) first aids
    unfolding after
    stepped_none e = record {
      held = record {
        kept = record {
          few = d.kept.few;
          long = d.kept.long;
          fitting = d.kept.fitting;
          total = d.kept.total;
          served = d.kept.served;
          first_long = d.kept.first_long;
        };
        behind = omega (arith, d.behind);
        some_drawn = d.some_drawn;
        inside = d.inside;
      };
      same_count = refl;
      at = sym (next-none g (progress_of c) e);
    }

    module _ (x : Shape) (new : Float) (first' : List Float) (aids' : Aids) (o : g.candidate c.trials ≡ Some x)
        (e : new ≡ g.total (g.paint x (drawn g (without c.place (listed c.list))))) (f : first' ≡ drawn g (take c.place (listed c.list)))
        (first-size : length first' ≡ size) (inside : T (all_within first')) where
      -- a candidate that is not lower by enough
      pub stepped_kept : q (listed c.list) aids' → lower new c.old ≡ false → Stepped g size q c (risen c c.place) first' aids'
      unfolding after
      stepped_kept u l = record {
        held = record {
          kept = record {
            few = d.kept.few;
            long = d.kept.long;
            fitting = d.kept.fitting;
            total = d.kept.total;
            served = u;
            first_long = first-size;
          };
          behind = omega arith;
          some_drawn = f;
          inside = inside;
        };
        same_count = refl;
        at = sym (next-kept g (progress_of c) x c.old new o d.kept.total e l);
      }

      -- an accepted one
      pub stepped_taken : (list' : Shapes) → q (listed list') aids' → lower new c.old ≡ true → T (fits x) → c.place < c.list.count → ExchangeSays c.list c.place x list'
          → Stepped g size q c (taken c list' new) first' aids'
      unfolding after
      stepped_taken list' u l f-x h s =
          let j = c.place in
          let m = listed c.list in
          let below : j < length m = omega (arith, kept-length c first aids d.kept) in
          record {
            held = record {
              kept = record {
                few = omega (arith, s.0, d.kept.few);
                long = s.1;
                fitting = subst (λ (l : List Shape). T (every fits l)) (sym s.2) (every-without fits j m x d.kept.fitting f-x);
                total = e ∙ ap g.total (sym (drawn_exchanged g m j x) ∙ ap (drawn g) (sym s.2));
                served = u;
                first_long = first-size;
              };
              behind = omega arith;
              some_drawn =
                  f
                  ∙ ap (drawn g)
                  (sym
                  (ap (take j) s.2
                  ∙ take-append-le j (without j m) (x ∷ []) (omega (arith, length_without j m below))
                  ∙ take-without j j m (omega arith) (omega arith)));
              inside = inside;
            };
            same_count = s.0;
            at =
                ap (λ (k : List Shape). record { list = k; place = j; passes = c.passes; trials = c.trials + 1; acceptances = c.acceptances + 1 }) s.2
                ∙ sym (next-taken g (progress_of c) x c.old new o d.kept.total e l);
          }

-- where the course was held to the rule: how far it has come, and the list's total. How much of the list the first picture has may differ
pub StepSays-unique : (w h : ℕ) (target : List Float) (c : Course) (what : Option Shape) (first : List Float) (aids : Aids) (b : List Float) (f : ℕ → Option Shape) → f c.trials ≡ what
    → Held (scene_with w h target b f) (h * w * 3) (Aided w h target b) c first aids
    → (r s : Course) (first₁ first₂ : List Float) (aids₁ aids₂ : Aids) → StepSays w h target c what first aids r first₁ aids₁ → StepSays w h target c what first aids s first₂ aids₂
    → (progress_of r ≡ progress_of s) × (r.old ≡ s.old)
StepSays-unique w h target c what first aids b f e d r s first₁ first₂ aids₁ aids₂ p q =
    let g = scene_with w h target b f in
    let k = p b f e d in
    let l = q b f e d in
    let same = k.at ∙ sym l.at in
    (same, k.held.kept.total ∙ ap (λ (a : Progress Shape). g.total (drawn g a.list)) same ∙ sym l.held.kept.total)
