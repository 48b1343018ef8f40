-- Laws: refinement as one call: what the tests give to the trials, and the trials to the answer.
use Rattle.std.specs.Prelude.{◌≡◌, refl, Bool, true, false, ◌&&◌, cond, List, [], ◌∷◌, ◌++◌, map, ℕ, ◌+◌, ◌-◌, ◌*◌, ◌≤◌, ◌<◌, T, eqb, ltb, Float, length, take, get_or, Option, None, Some}
use Rattle.std.proofs.Common.{sym, ap, ◌∙◌, subst, append_assoc, append-nil, arith, ltb-true, ltb-false, eqb-true}
use Rattle.std.proofs.lemmas.Bool.{eqb-false}
use Rattle.std.specs.Float.Ieee.Fits.{and_l, and_r}
use Rattle.laws.specs.Every.{every}
use Rattle.laws.specs.EveryLaws.{every_append}
use Rattle.refusal.specs.Refusals.{Sized}
use Rattle.shapes.specs.declared.Shape.{Shape}
use Rattle.shapes.specs.declared.Shapes.{Shapes}
use Rattle.shapes.specs.declared.Candidates.{Candidates}
use Rattle.shapes.specs.declared.Ranges.{Ranges}
use Rattle.shapes.specs.Lists.{listed, offered}
use Rattle.shapes.specs.Ranges.{fits, ranges_of, both, shapes_in}
use Rattle.shapes.specs.RangeLaws.{both-append, shapes-more, offered-at, offered_past, fits-offered}
use Rattle.trials.specs.declared.Course.{Course}
use Rattle.traces.specs.Refinement.{Scene, Progress, drawn, refined}
use Rattle.refine.specs.Tests.{looked_at}
use Rattle.trials.specs.Courses.{Targeted, progress_of, Aids, Aided, Kept, CandidateFits, Ready}
use Rattle.trials.specs.StepLaws.{listed-length}
use Rattle.refine.specs.Passes.{untried, restarted}
use Rattle.refine.specs.CourseLaws.{During, Between, now_zipped, place_below, between_start, between_last, between_more}

-- ---- the candidates looked at, one after another
abbrev pub looked_up_to : Shapes → List (Option Shape) → ℕ → List Shape
looked_up_to list slots i = listed list ++ shapes_in (take i slots)

pub look_none : (list : Shapes) (slots : List (Option Shape)) (r : Ranges) → r ≡ ranges_of (listed list) → r ≡ ranges_of (looked_up_to list slots 0)
look_none list slots r e = e ∙ ap ranges_of (sym (append-nil (listed list)))

pub look_more : (list : Shapes) (slots : List (Option Shape)) (i : ℕ) (d : Option Shape) (r q : Ranges) → i < length slots → r ≡ ranges_of (looked_up_to list slots i)
    → q ≡ both r (ranges_of (shapes_in (get_or slots i d ∷ []))) → q ≡ ranges_of (looked_up_to list slots (i + 1))
look_more list slots i d r q h e f =
    let one = shapes_in (get_or slots i d ∷ []) in
    let so_far = shapes_in (take i slots) in
    f
    ∙ ap (λ (x : Ranges). both x (ranges_of one)) e
    ∙ both-append (listed list ++ so_far) one
    ∙ ap ranges_of (append_assoc (listed list) so_far one ∙ ap (λ (l : List Shape). listed list ++ l) (sym (shapes-more slots i d h)))

-- what was looked at fits: the list, and the candidates
module _ (list : Shapes) (candidates : Candidates) (h : T (every fits (looked_at list candidates))) where
  both_fit : T (every fits (listed list) && every fits (shapes_in (offered candidates)))
  both_fit = subst T (every_append fits (listed list) (shapes_in (offered candidates))) h

  pub list-fits : T (every fits (listed list))
  list-fits = and_l (every fits (listed list)) (every fits (shapes_in (offered candidates))) both_fit

  pub offers_fit : T (every fits (shapes_in (offered candidates)))
  offers_fit = and_r (every fits (listed list)) (every fits (shapes_in (offered candidates))) both_fit

-- ---- the candidate of trial k
pub offer_at_lem : (candidates : Candidates) (k : ℕ) (d : Option Shape) → candidates.count ≤ length candidates.slots
    → get_or (offered candidates) k None ≡ cond (ltb k candidates.count) (get_or candidates.slots k d) None
offer_at_lem candidates k d l = by (ltb k candidates.count) refl
  where
    by : (b : Bool) → ltb k candidates.count ≡ b → get_or (offered candidates) k None ≡ cond b (get_or candidates.slots k d) None
    by true e = offered-at candidates k d (ltb-true k candidates.count e) l
    by false e = offered_past candidates k (ltb-false k candidates.count e)

pub offer_fits : (l : List (Option Shape)) (k : ℕ) (o : Option Shape) → T (every fits (shapes_in l)) → get_or l k None ≡ o → CandidateFits o
offer_fits l k None h e = tt
offer_fits l k (Some x) h e = fits-offered l k x h e

module _ (g : Scene Shape (List Float)) (size : ℕ) (q : List Shape → Aids → Type 0) where
  -- ---- before the first pass
  pub started : (list : Shapes) (first : List Float) (aids : Aids) (p limit : ℕ) (c : Course) → c ≡ untried list (g.total (drawn g (listed list))) → q (listed list) aids → list.count ≤ 64 → length list.items ≡ 64
      → T (every fits (listed list)) → length first ≡ size → p ≤ 16 → limit ≡ cond (ltb list.count 2) 0 p
      → Between g size q list.count (refined g p (listed c.list)) limit c first aids
  started list first aids p limit c e u few long fitting first-size p-few l =
      let start = untried list (g.total (drawn g (listed list))) in
      let kept : Kept g size q start first aids = record { few = few; long = long; fitting = fitting; total = refl; served = u; first_long = first-size } in
      subst (λ (a : Course). Between g size q list.count (refined g p (listed a.list)) limit a first aids) (sym e) (between_start g size q list.count start first aids kept refl refl p p-few limit l)

  module _ (n : ℕ) (end : Progress Shape) (limit : ℕ) (c : Course) (first : List Float) (aids : Aids) (s : Between g size q n end limit c first aids) (h : c.passes < limit) (i : ℕ) (r : Course) (first' : List Float) (aids' : Aids) (d : During g size q n (progress_of (restarted c)) i r first' aids') where
    -- ---- a trial of the pass
    long : length (listed c.list) ≡ n
    long = listed-length c.list s.kept.few s.kept.long ∙ s.count

    pub trial_below : i < n → r.trials < 1024
    trial_below l = omega (arith, (now_zipped g size q n (progress_of (restarted c)) refl long i r first' aids' d).trials, s.few_trials, s.few, s.count, s.kept.few)

    pub ready : (w h : ℕ) (target : List Float) (what : Option Shape) (background : List Float) → size ≡ h * w * 3 → i < n → Sized w h → Targeted w h target → CandidateFits what → Aided w h target background (listed r.list) aids'
        → Ready w h target r what first' aids'.second aids'.sums aids'.runs aids'.paints
    ready w h target what background e l sized aim f u =
        let z = now_zipped g size q n (progress_of (restarted c)) refl long i r first' aids' d in
        record {
          list = record { sized = sized; few = d.held.kept.few; fitting = d.held.kept.fitting };
          candidate = f;
          aim = aim;
          place = place_below g size q n (progress_of (restarted c)) refl long i r first' aids' d l;
          behind = d.held.behind;
          few_trials = trial_below l;
          few_taken = omega (arith, z.trials, z.acceptances, z.tried, s.few_taken);
          first_long = d.held.kept.first_long ∙ e;
          second_long = u.second_long;
          inside = d.held.inside;
          second-inside = u.inside;
          sums_long = u.sums_long;
          traced = u.traced;
        }

    -- ---- the end of the pass
    pub onward : (limit' : ℕ) → n ≤ i → limit' ≡ cond (eqb r.acceptances c.acceptances) r.passes limit → Between g size q n end limit' r first' aids'
    onward limit' all e = by (eqb r.acceptances c.acceptances) refl
      where
        by : (b : Bool) → eqb r.acceptances c.acceptances ≡ b → Between g size q n end limit' r first' aids'
        by true t =
            subst (λ (l : ℕ). Between g size q n end l r first' aids') (sym (e ∙ ap (λ (b : Bool). cond b r.passes limit) t))
            (between_last g size q n end limit c first aids s h i r first' aids' d all (eqb-true r.acceptances c.acceptances t))
        by false t =
            subst (λ (l : ℕ). Between g size q n end l r first' aids') (sym (e ∙ ap (λ (b : Bool). cond b r.passes limit) t))
            (between_more g size q n end limit c first aids s h i r first' aids' d all (eqb-false r.acceptances c.acceptances t))

    pub fewer : (limit' : ℕ) → limit' ≡ cond (eqb r.acceptances c.acceptances) r.passes limit → limit' - r.passes < limit - c.passes
    fewer limit' e = by (eqb r.acceptances c.acceptances) refl
      where
        more : r.passes ≡ c.passes + 1
        more = (now_zipped g size q n (progress_of (restarted c)) refl long i r first' aids' d).passes

        by : (b : Bool) → eqb r.acceptances c.acceptances ≡ b → limit' - r.passes < limit - c.passes
        by true t = omega (arith, e ∙ ap (λ (b : Bool). cond b r.passes limit) t)
        by false t = omega (arith, e ∙ ap (λ (b : Bool). cond b r.passes limit) t, more)
