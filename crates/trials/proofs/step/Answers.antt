use Rattle.std.specs.Prelude.{Option}
use mathlib.Core.Path.{◌≡◌, refl, sym, ap, subst, ◌∙◌}
use mathlib.Core.Bool.{true, false}
use mathlib.Core.List.{List, [], ◌∷◌, ◌++◌}
use Prim.Native.Nat.{ℕ, ◌+◌, ◌*◌, ◌<◌}
use lib.Dec.{T}
use lib.Ieee.{Float, nan, round, of_bits}
use lib.ListN.{length, get_or, take, length-append, length-replicate}
use lib.Seq.{take_at}
use Rattle.laws.specs.Without.{without}
use Rattle.float.specs.Within.{nought}
use Rattle.shapes.specs.declared.Shape.{Shape}
use Rattle.shapes.specs.Lists.{listed}
use Rattle.shapes.specs.Ranges.{fits}
use Rattle.trials.specs.declared.Course.{Course}
use Rattle.traces.specs.Refinement.{Scene, drawn, lower}
use Rattle.traces.specs.Scenes.{scene_with}
use Rattle.traces.specs.Traces.{Traced}
use Rattle.traces.specs.RefinementLaws.{drawn_exchanged}
use Rattle.traces.specs.PartLaws.{part_on, all_on, trial_on}
use Rattle.traces.specs.TraceLaws.{traced_front, without_front, traced_drop}
use Rattle.trials.specs.SumLaws.{sums-last}
use Rattle.trials.specs.StepLaws.{listed-length, stepped_none, stepped_kept, stepped_taken}
use Rattle.trials.specs.Courses.{SummedTo, Judged, Aids, Aided, aids_of, CandidateFits, Held, Stepped}
use native.Mathlib.Omega.{arith}
use borrow.Author.Rules.{rules}
use Rattle.trials.proofs.step.Goals as goal
use Rattle.trials.proofs.step.Goals.{After-try_candidate-new, Else-new-c, In-Some, Start, Then-new-c}

-- Each way through a trial is a law of StepLaws; the pictures of the trial are those of the rule by PartLaws.

pub rise-requires : goal.rise-requires
rise-requires c = let r = c.requires in (omega (arith, r.place, r.list.few), r.few_trials)

-- the candidate fits
chosen : (c : In-Some) → T (fits c.in-Some.x)
chosen c = subst CandidateFits c.in-Some.is c.requires.candidate

pub try_candidate-new-requires : goal.try_candidate-new-requires
try_candidate-new-requires c = let r = c.requires in record { drawable = (r.list, r.behind, r.place, chosen (goal.at.try_candidate-new-requires c).In-Some, r.traced, refl, r.sums_long); targeted = (r.aim, r.first_long, r.second_long, r.inside, r.second-inside) }

pub drop_column-requires : goal.drop_column-requires
drop_column-requires c = let r = c.requires in let t = c.try_candidate-new.ensures.3 in (r.list.sized.h_high, omega (arith, r.place), omega (arith, r.list.few), t.runs_long, t.paints_long)

pub exchange-list-requires : goal.exchange-list-requires
exchange-list-requires c = let r = c.requires in (r.place, r.list.few)

pub accept-requires : goal.accept-requires
accept-requires c = let r = c.requires in (r.few_trials, r.few_taken)

pub rise-requires-else-new-c : goal.rise-requires-else-new-c
rise-requires-else-new-c c = let r = c.requires in (omega (arith, r.place, r.list.few), r.few_trials)

-- the rule's pictures and numbers over any background and candidates
abbrev scene_at : Start → List Float → (ℕ → Option Shape) → Scene Shape (List Float)
scene_at s b f = scene_with s.args.w s.args.h s.args.target.now b f

abbrev size_at : Start → ℕ
size_at s = s.args.h * s.args.w * 3

-- what the aids serve
abbrev served_at : Start → List Float → List Shape → Aids → Type 0
served_at s b = Aided s.args.w s.args.h s.args.target.now b

abbrev aidsAt : Start → Aids
aidsAt s = aids_of s.args.second.now s.args.sums.now s.args.strokes.now.runs s.args.strokes.now.paints

abbrev HeldAt : Start → List Float → (ℕ → Option Shape) → Type 0
HeldAt s b f = Held (scene_at s b f) (size_at s) (served_at s b) s.args.c s.args.first.now (aidsAt s)

pub returns-in-None : goal.returns-in-None
returns-in-None c b f e d =
    let a = c.args in
    subst (λ (r : Course). Stepped (scene_at (goal.at.returns-in-None c).Start b f) (size_at (goal.at.returns-in-None c).Start) (served_at (goal.at.returns-in-None c).Start b) a.c r a.first.now (aidsAt (goal.at.returns-in-None c).Start)) (sym c.rise.ensures)
    (stepped_none (scene_at (goal.at.returns-in-None c).Start b f) (size_at (goal.at.returns-in-None c).Start) (served_at (goal.at.returns-in-None c).Start b) a.c a.first.now (aidsAt (goal.at.returns-in-None c).Start) d (e ∙ c.in-None.is))

-- what the trial leaves
abbrev first_at : After-try_candidate-new → List Float
first_at t = t.try_candidate-new.new.first

abbrev secondAt : After-try_candidate-new → List Float
secondAt t = t.try_candidate-new.new.second

abbrev runsAt : After-try_candidate-new → List ℕ
runsAt t = t.try_candidate-new.new.strokes.runs

abbrev paintsAt : After-try_candidate-new → List Float
paintsAt t = t.try_candidate-new.new.strokes.paints

abbrev trialSums : After-try_candidate-new → List Float
trialSums t = t.try_candidate-new.new.trial

abbrev start_at : After-try_candidate-new → Start
start_at t = t.before.before.before.before.before.before.before.before.before.before.before.before

abbrev shape_at : After-try_candidate-new → Shape
shape_at t = t.in-Some.x

abbrev listAt : After-try_candidate-new → List Shape
listAt t = listed (start_at t).args.c.list

-- the list, and the candidate
abbrev allAt : After-try_candidate-new → List Shape
allAt t = listAt t ++ (shape_at t ∷ [])

module _ (t : After-try_candidate-new) (b : List Float) (f : ℕ → Option Shape) (d : HeldAt (start_at t) b f) where
  count-is : length (listAt t) ≡ (start_at t).args.c.list.count
  count-is = listed-length (start_at t).args.c.list d.kept.few d.kept.long

  take-list : take (start_at t).args.c.list.count (allAt t) ≡ listAt t
  take-list = take_at (listAt t) (shape_at t ∷ []) (start_at t).args.c.list.count count-is

  drawn-all : first_at t ≡ drawn (scene_at (start_at t) b f) (take (start_at t).args.c.place (take (start_at t).args.c.list.count (allAt t)))
  drawn-all =
      let s = start_at t in
      let c = s.args.c in
      t.try_candidate-new.ensures.0
      ∙ part_on (scene_at s b f) (allAt t) c.list.count s.args.first.now c.made c.place d.behind (omega (arith, s.requires.place)) (d.some_drawn ∙ ap (λ (l : List Shape). drawn (scene_at s b f) (take c.made l)) (sym take-list))

  drawn-before : first_at t ≡ drawn (scene_at (start_at t) b f) (take (start_at t).args.c.place (listAt t))
  drawn-before = drawn-all ∙ ap (λ (l : List Shape). drawn (scene_at (start_at t) b f) (take (start_at t).args.c.place l)) take-list

  -- the trial's picture, as the rule has it
  abbrev trialAt : List Float
  trialAt = (scene_at (start_at t) b f).paint (shape_at t) (drawn (scene_at (start_at t) b f) (without (start_at t).args.c.place (listAt t)))

  judged : Judged (start_at t).args.w (start_at t).args.h (start_at t).args.target.now trialAt (start_at t).args.sums.now (trialSums t) t.try_candidate-new.result
  judged =
      let s = start_at t in
      let c = s.args.c in
      subst (λ (p : List Float). Judged s.args.w s.args.h s.args.target.now p s.args.sums.now (trialSums t) t.try_candidate-new.result)
      (trial_on (scene_at s b f) (allAt t) c.list.count (first_at t) c.place (shape_at t) drawn-all ∙ ap (λ (l : List Shape). (scene_at s b f).paint (shape_at t) (drawn (scene_at s b f) (without c.place l))) take-list)
      (t.try_candidate-new.ensures.4
      (subst (λ (p : List Float). SummedTo s.args.w s.args.h s.args.target.now p s.args.sums.now)
      (sym (all_on (scene_at s b f) (allAt t) c.list.count (first_at t) c.place (omega (arith, s.requires.place)) drawn-all ∙ ap (drawn (scene_at s b f)) take-list)) d.kept.served.sums))

  -- the last of the list's sums is its total
  old-at : get_or (start_at t).args.sums.now (start_at t).args.h nan ≡ (start_at t).args.c.old
  old-at = let a = (start_at t).args in sums-last a.w a.h a.target.now (drawn (scene_at (start_at t) b f) (listAt t)) a.sums.now (start_at t).requires.aim.long d.kept.served.sums ∙ sym d.kept.total

  verdict : lower t.try_candidate-new.result (start_at t).args.c.old ≡ lower ((scene_at (start_at t) b f).total trialAt) (start_at t).args.c.old
  verdict = subst (λ (o : Float). lower t.try_candidate-new.result o ≡ lower ((scene_at (start_at t) b f).total trialAt) o) old-at judged.verdict

  module _ (l : lower t.try_candidate-new.result (start_at t).args.c.old ≡ true) where
    new-sums : SummedTo (start_at t).args.w (start_at t).args.h (start_at t).args.target.now trialAt (trialSums t)
    new-sums = judged.sums (ap (lower t.try_candidate-new.result) old-at ∙ l)

    new-total : t.try_candidate-new.result ≡ (scene_at (start_at t) b f).total trialAt
    new-total = judged.total (ap (lower t.try_candidate-new.result) old-at ∙ l)

is-lower : (c : Then-new-c) → lower c.try_candidate-new.result c.args.c.old ≡ true
unfolding lower round of_bits
is-lower c = c.if-new-c.true

pub returns-then-new-c : goal.returns-then-new-c
returns-then-new-c c b f e d =
    let s = start_at (goal.at.returns-then-new-c c).After-try_candidate-new in
    let a = s.args in
    let low = is-lower (goal.at.returns-then-new-c c).Then-new-c in
    let sums = c.try_candidate-new.new.trial in
    let long-sums : length c.try_candidate-new.new.trial ≡ 257 = search rules in
    let table = c.drop_column in
    let x = c.exchange-list in
    let aids = aids_of (secondAt (goal.at.returns-then-new-c c).After-try_candidate-new) sums table.new.self.runs table.new.self.paints in
    let long = length-append (listAt (goal.at.returns-then-new-c c).After-try_candidate-new) (shape_at (goal.at.returns-then-new-c c).After-try_candidate-new ∷ []) ∙ ap (λ (n : ℕ). n + 1) (count-is (goal.at.returns-then-new-c c).After-try_candidate-new b f d) in
    let below : a.c.place < length (listAt (goal.at.returns-then-new-c c).After-try_candidate-new) = omega (arith, s.requires.place, count-is (goal.at.returns-then-new-c c).After-try_candidate-new b f d) in
    subst (λ (r : Course). Stepped (scene_at s b f) (size_at s) (served_at s b) a.c r (first_at (goal.at.returns-then-new-c c).After-try_candidate-new) aids) (sym c.accept.ensures)
    (stepped_taken (scene_at s b f) (size_at s) (served_at s b) a.c a.first.now (aidsAt s) d (shape_at (goal.at.returns-then-new-c c).After-try_candidate-new) c.try_candidate-new.result
    (first_at (goal.at.returns-then-new-c c).After-try_candidate-new) aids (e ∙ c.in-Some.is) (new-total (goal.at.returns-then-new-c c).After-try_candidate-new b f d low) (drawn-before (goal.at.returns-then-new-c c).After-try_candidate-new b f d)
    (c.try_candidate-new.auto.first ∙ s.requires.first_long) c.try_candidate-new.ensures.1
    x.result
    (record {
      second_long = c.try_candidate-new.auto.second ∙ s.requires.second_long;
      inside = c.try_candidate-new.ensures.2;
      sums_long = long-sums;
      sums = subst (λ (p : List Float). SummedTo a.w a.h a.target.now p sums) (sym (drawn_exchanged (scene_at s b f) (listAt (goal.at.returns-then-new-c c).After-try_candidate-new) a.c.place (shape_at (goal.at.returns-then-new-c c).After-try_candidate-new)) ∙ ap (drawn (scene_at s b f)) (sym x.ensures.2)) (new-sums (goal.at.returns-then-new-c c).After-try_candidate-new b f d low);
      traced = subst (λ (l : List Shape). Traced a.w a.h l table.new.self.runs table.new.self.paints) (without_front a.c.place (listAt (goal.at.returns-then-new-c c).After-try_candidate-new) (shape_at (goal.at.returns-then-new-c c).After-try_candidate-new) below ∙ sym x.ensures.2)
          (traced_drop a.w a.h a.c.place a.c.list.count (allAt (goal.at.returns-then-new-c c).After-try_candidate-new) (runsAt (goal.at.returns-then-new-c c).After-try_candidate-new) table.new.self.runs (paintsAt (goal.at.returns-then-new-c c).After-try_candidate-new) table.new.self.paints c.try_candidate-new.ensures.3 long (omega (arith, s.requires.place)) table.ensures.2 table.ensures.3 table.ensures.0 table.ensures.1);
    })
    low (chosen (goal.at.returns-then-new-c c).In-Some) s.requires.place x.ensures)

not_lower : (c : Else-new-c) → lower c.try_candidate-new.result c.args.c.old ≡ false
unfolding lower round of_bits
not_lower c = c.if-new-c.false

pub returns-else-new-c : goal.returns-else-new-c
returns-else-new-c c b f e d =
    let s = start_at (goal.at.returns-else-new-c c).After-try_candidate-new in
    let a = s.args in
    let aids = aids_of (secondAt (goal.at.returns-else-new-c c).After-try_candidate-new) a.sums.now (runsAt (goal.at.returns-else-new-c c).After-try_candidate-new) (paintsAt (goal.at.returns-else-new-c c).After-try_candidate-new) in
    subst (λ (r : Course). Stepped (scene_at s b f) (size_at s) (served_at s b) a.c r (first_at (goal.at.returns-else-new-c c).After-try_candidate-new) aids) (sym c.rise-else-new-c.ensures)
    (stepped_kept (scene_at s b f) (size_at s) (served_at s b) a.c a.first.now (aidsAt s) d (shape_at (goal.at.returns-else-new-c c).After-try_candidate-new) ((scene_at s b f).total (trialAt (goal.at.returns-else-new-c c).After-try_candidate-new b f d))
    (first_at (goal.at.returns-else-new-c c).After-try_candidate-new) aids (e ∙ c.in-Some.is) refl (drawn-before (goal.at.returns-else-new-c c).After-try_candidate-new b f d)
    (c.try_candidate-new.auto.first ∙ s.requires.first_long) c.try_candidate-new.ensures.1
    (record {
      second_long = c.try_candidate-new.auto.second ∙ s.requires.second_long;
      inside = c.try_candidate-new.ensures.2;
      sums_long = d.kept.served.sums_long;
      sums = d.kept.served.sums;
      traced = traced_front a.w a.h (listAt (goal.at.returns-else-new-c c).After-try_candidate-new) (shape_at (goal.at.returns-else-new-c c).After-try_candidate-new) (runsAt (goal.at.returns-else-new-c c).After-try_candidate-new) (paintsAt (goal.at.returns-else-new-c c).After-try_candidate-new) c.try_candidate-new.ensures.3;
    })
    (sym (verdict (goal.at.returns-else-new-c c).After-try_candidate-new b f d) ∙ not_lower (goal.at.returns-else-new-c c).Else-new-c))
