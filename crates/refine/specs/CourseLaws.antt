-- Laws: each pass of the program keeps to the rule.
use Rattle.std.specs.Prelude.{◌≡◌, refl, Bool, true, false, cond, List, ℕ, suc, ◌+◌, ◌-◌, ◌*◌, ◌≤◌, ◌<◌, T, ltb, Float}
use Rattle.std.proofs.Math.Path.{sym, ap}
use Rattle.std.proofs.Common.{◌∙◌, subst, add-one, arith, ltb-true, ltb-false}
use Rattle.std.proofs.Math.ListN.{length}
use Rattle.float.specs.Within.{all_within}
use Rattle.shapes.specs.declared.Shape.{Shape}
use Rattle.shapes.specs.Lists.{listed}
use Rattle.traces.specs.Refinement.{Scene, Progress, painted_on, next, nexts, begun, pass, passes, nothing_yet, refined}
use Rattle.traces.specs.RefinementLaws.{nexts-more, Zipped, zipped, zip_place, passes-last, passes-more, refined_short, refined_long}
use Rattle.trials.specs.declared.Course.{Course}
use Rattle.trials.specs.Courses.{progress_of, Aids, Kept, Held, Stepped}
use Rattle.trials.specs.StepLaws.{kept-length}
use Rattle.refine.specs.Passes.{restarted}

module _ (g : Scene Shape (List Float)) (size : ℕ) (q : List Shape → Aids → Type 0) where
  -- ---- the trials of a pass over n shapes
  module _ (n : ℕ) where
    -- after i trials of the pass that began at b
    pub record During (b : Progress Shape) (i : ℕ) (c : Course) (first : List Float) (aids : Aids) : Type 0 where
      pub held : Held g size q c first aids
      pub count : c.list.count ≡ n
      pub inside : i ≤ n
      pub at : progress_of c ≡ nexts g i b

    -- between passes, of which `limit` may be made
    pub record Between (end : Progress Shape) (limit : ℕ) (c : Course) (first : List Float) (aids : Aids) : Type 0 where
      pub kept : Kept g size q c first aids
      pub count : c.list.count ≡ n
      pub left : c.passes ≤ limit
      pub few : limit ≤ 16
      pub few_trials : c.trials ≤ c.passes * 64
      pub few_taken : c.acceptances ≤ c.trials
      pub rest : passes g (limit - c.passes) (progress_of c) ≡ end

    module _ (b : Progress Shape) (b-place : b.place ≡ 0) (b-length : length b.list ≡ n) (i : ℕ) (c : Course) (first : List Float) (aids : Aids) (d : During b i c first aids) where
      pub now_zipped : Zipped b i (progress_of c)
      now_zipped = subst (λ (a : Progress Shape). Zipped b i a) (sym d.at) (zipped g b b-place i (omega (arith, b-length, d.inside)))

      pub place_below : i < n → c.place < c.list.count
      place_below h = omega (arith, zip_place now_zipped (omega (arith, b-length)), kept-length g size q c first aids d.held.kept)

    pub during_next : (b : Progress Shape) (i : ℕ) (c r : Course) (first : List Float) (aids : Aids) (first' : List Float) (aids' : Aids) → During b i c first aids → i < n → Stepped g size q c r first' aids'
        → During b (i + 1) r first' aids'
    during_next b i c r first aids first' aids' d h s = record {
      held = s.held;
      count = s.same_count ∙ d.count;
      inside = omega arith;
      at = s.at ∙ ap (next g) d.at ∙ sym (nexts-more g i b) ∙ ap (λ (k : ℕ). nexts g k b) (sym (add-one i));
    }

    -- ---- passes
    module _ (c : Course) (first : List Float) (aids : Aids) (k : Kept g size q c first aids) (counts : c.list.count ≡ n) (none_yet : progress_of c ≡ nothing_yet (listed c.list)) (p : ℕ) (p-few : p ≤ 16) where
      no_passes : c.passes ≡ 0
      no_passes = ap (λ (a : Progress Shape). a.passes) none_yet

      no_trials : c.trials ≡ 0
      no_trials = ap (λ (a : Progress Shape). a.trials) none_yet

      no_acceptances : c.acceptances ≡ 0
      no_acceptances = ap (λ (a : Progress Shape). a.acceptances) none_yet

      nearly : (limit m : ℕ) → limit ≡ m → m ≤ 16 → passes g m (nothing_yet (listed c.list)) ≡ refined g p (listed c.list) → Between (refined g p (listed c.list)) limit c first aids
      nearly limit m e few r = record {
        kept = k;
        count = counts;
        left = omega (arith, no_passes);
        few = omega arith;
        few_trials = omega (arith, no_trials);
        few_taken = omega (arith, no_trials, no_acceptances);
        rest =
            ap (λ (j : ℕ). passes g j (progress_of c)) {x = limit - c.passes} {y = m} (omega (arith, no_passes))
            ∙ ap (passes g m) none_yet
            ∙ r;
      }

      -- with fewer than two shapes no pass is made
      pub between_start : (limit : ℕ) → limit ≡ cond (ltb n 2) 0 p → Between (refined g p (listed c.list)) limit c first aids
      between_start limit e = by (ltb n 2) refl
        where
          by : (b : Bool) → ltb n 2 ≡ b → Between (refined g p (listed c.list)) limit c first aids
          by true t =
              nearly limit 0 (e ∙ ap (λ (b : Bool). cond b 0 p) t) (omega arith)
              (sym (refined_short g p (listed c.list) (omega (arith, ltb-true n 2 t, kept-length g size q c first aids k))))
          by false t =
              nearly limit p (e ∙ ap (λ (b : Bool). cond b 0 p) t) p-few
              (sym (refined_long g p (listed c.list) (omega (arith, ltb-false n 2 t, kept-length g size q c first aids k))))

    module _ (end : Progress Shape) (limit : ℕ) (c : Course) (first : List Float) (aids : Aids) (s : Between end limit c first aids) (h : c.passes < limit) where
      -- a pass begins over the background
      pub during_start : (first' : List Float) → first' ≡ g.background → length first' ≡ size → T (all_within first')
          → During (progress_of (restarted c)) 0 (restarted c) first' aids
      unfolding nexts painted_on
      during_start first' e l i = record {
        held = record {
          kept = record {
            few = s.kept.few;
            long = s.kept.long;
            fitting = s.kept.fitting;
            total = s.kept.total;
            served = s.kept.served;
            first_long = l;
          };
          behind = omega arith;
          some_drawn = e;
          inside = i;
        };
        count = s.count;
        inside = omega arith;
        at = refl;
      }

      -- and ends
      module _ (i : ℕ) (r : Course) (first' : List Float) (aids' : Aids) (d : During (progress_of (restarted c)) i r first' aids') (all : n ≤ i) where
        one-pass : progress_of r ≡ pass g (progress_of c)
        unfolding pass begun
        one-pass = d.at ∙ ap (λ (m : ℕ). nexts g m (progress_of (restarted c))) {x = i} {y = length (listed c.list)} (omega (arith, d.inside, s.count, kept-length g size q c first aids s.kept))

        counted : Zipped (progress_of (restarted c)) i (progress_of r)
        counted = now_zipped (progress_of (restarted c)) refl (kept-length g size q c first aids s.kept ∙ s.count) i r first' aids' d

        one_less : limit - c.passes ≡ suc (limit - r.passes)
        one_less = omega (arith, counted.passes)

        ended : (l : ℕ) → r.passes ≤ l → l ≤ limit → passes g (l - r.passes) (progress_of r) ≡ end → Between end l r first' aids'
        ended l p q e = record {
          kept = d.held.kept;
          count = d.count;
          left = p;
          few = omega (arith, s.few);
          few_trials = omega (arith, s.few_trials, counted.trials, counted.passes, d.inside, s.count, s.kept.few);
          few_taken = omega (arith, s.few_taken, counted.trials, counted.acceptances, counted.tried);
          rest = e;
        }

        pub between_last : r.acceptances ≡ c.acceptances → Between end r.passes r first' aids'
        unfolding passes
        between_last e =
            ended r.passes (omega arith) (omega (arith, counted.passes))
            (ap (λ (m : ℕ). passes g m (progress_of r)) {x = r.passes - r.passes} {y = 0} (omega arith)
            ∙ one-pass
            ∙ sym (passes-last g (limit - r.passes) (progress_of c) (sym (ap (λ (q : Progress Shape). q.acceptances) one-pass) ∙ e))
            ∙ ap (λ (m : ℕ). passes g m (progress_of c)) (sym one_less)
            ∙ s.rest)

        pub between_more : (r.acceptances ≡ c.acceptances → ⊥) → Between end limit r first' aids'
        between_more e =
            ended limit (omega (arith, counted.passes)) (omega arith)
            (ap (passes g (limit - r.passes)) one-pass
            ∙ sym (passes-more g (limit - r.passes) (progress_of c) (λ z. e (ap (λ (q : Progress Shape). q.acceptances) one-pass ∙ z)))
            ∙ ap (λ (m : ℕ). passes g m (progress_of c)) (sym one_less)
            ∙ s.rest)

    -- ---- the end
    pub between_end : (end : Progress Shape) (limit : ℕ) (c : Course) (first : List Float) (aids : Aids) (s : Between end limit c first aids) → limit ≤ c.passes → progress_of c ≡ end
    unfolding passes
    between_end end limit c first aids s h = ap (λ (m : ℕ). passes g m (progress_of c)) {x = 0} {y = limit - c.passes} (omega arith) ∙ s.rest
