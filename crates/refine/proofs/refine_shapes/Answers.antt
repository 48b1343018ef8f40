use Rattle.std.specs.Prelude.{None}
use native.Mathlib.Omega.{arith}
use mathlib.Core.Path.{◌≡◌, refl, sym, ap, subst, ◌∙◌}
use mathlib.Core.List.{List}
use Prim.Native.Nat.{ℕ, ◌*◌, ◌≤◌, ◌<◌}
use lib.Dec.{T}
use lib.Ieee.{Float}
use lib.ListN.{length, get_or, take, length-replicate}
use lib.Seq.{take-take}
use Rattle.float.specs.Within.{nought, all_within}
use Rattle.picture.specs.Pixels.{filled}
use Rattle.picture.specs.PixelLaws.{filled_within}
use Rattle.shapes.specs.declared.Shape.{Shape}
use Rattle.shapes.specs.Lists.{listed, offered}
use Rattle.shapes.specs.Ranges.{ranges_of}
use Rattle.trials.specs.declared.Course.{Course}
use Rattle.refine.specs.declared.Refined.{Refined}
use Rattle.traces.specs.Refinement.{Scene, Progress, painted_on, refined}
use Rattle.traces.specs.Scenes.{shape_painted, scene_of}
use Rattle.traces.specs.TraceLaws.{table_of}
use Rattle.refine.specs.Tests.{looked_at, size_tests, range_tests}
use Rattle.refusal.specs.Refusals.{lowest}
use Rattle.refusal.specs.Outcomes.{number}
use Rattle.refusal.specs.OutcomeLaws.{number-positive}
use Rattle.refine.specs.TestLaws.{SizesPassed, RangesPassed, sizes_passed, ranges_passed, none_refused}
use Rattle.trials.specs.Courses.{progress_of, Aids, aids_of, Aided}
use Rattle.trials.specs.StepLaws.{listed-length}
use Rattle.refine.specs.Passes.{restarted}
use Rattle.refine.specs.CourseLaws.{During, during_start, during_next, between_end}
use Rattle.refine.specs.CallLaws.{list-fits, offers_fit, offer_fits, started, trial_below, ready, onward, fewer}
use Rattle.refine.specs.AnswerLaws.{done_says, refused_says}
use Rattle.refine.proofs.refine_shapes.Goals as goal
use Rattle.refine.proofs.refine_shapes.Goals.{At-loop-c, At-loop-t, In_default, Start}

-- The tests give what the loops rest on; each loop carries what CourseLaws and CallLaws say of it.

abbrev scene_at : Start → Scene Shape (List Float)
scene_at s = scene_of s.args.w s.args.h s.args.red s.args.green s.args.blue s.args.target.now s.args.candidates

abbrev size_at : Start → ℕ
size_at s = s.args.h * s.args.w * 3

-- what the aids serve
abbrev served_at : Start → List Shape → Aids → Type 0
served_at s = Aided s.args.w s.args.h s.args.target.now (filled s.args.w s.args.h s.args.red s.args.green s.args.blue)

-- an array's length is among what owning the parameter tells
items-long : (s : Start) → length s.args.list.items ≡ 64
items-long s = s.well_formed.0.1.1.0.1.0.1

pub returns-in-Err : goal.returns-in-Err
returns-in-Err c =
    let a = c.args in
    let e = c.in-Err.why in
    refused_says a.w a.h a.red a.green a.blue a.target.now a.list a.candidates a.passes a.first.now a.second.now c.refuse.result (number e) (sym c.in-Err.ensures) (number-positive e) c.refuse.ensures

module _ (c : In_default) where
  passed : (0 ≡ lowest (size_tests c.args.w c.args.h (length c.args.target.now) (length c.args.first.now) (length c.args.second.now) c.args.list.count c.args.candidates.count c.args.passes))
      × (0 ≡ lowest (range_tests (ranges_of (looked_at c.args.list c.args.candidates)) c.args.red c.args.green c.args.blue c.args.target.now))
  passed =
      let a = c.args in
      none_refused a.w a.h a.red a.green a.blue a.target.now a.list a.candidates a.passes (length a.first.now) (length a.second.now) (sym c.in_default.ensures)

  sizes : SizesPassed c.args.w c.args.h (length c.args.target.now) (length c.args.first.now) (length c.args.second.now) c.args.list.count c.args.candidates.count c.args.passes
  sizes = sizes_passed _ _ _ _ _ _ _ _ passed.0

  ranges : RangesPassed (looked_at c.args.list c.args.candidates) c.args.red c.args.green c.args.blue c.args.target.now
  ranges = ranges_passed _ _ _ _ _ _ refl passed.1

pub offer-what-requires : goal.offer-what-requires
offer-what-requires c = (sizes (goal.at.offer-what-requires c).In_default).few_candidates

pub start-c-requires : goal.start-c-requires
start-c-requires c =
    let a = c.args in
    let z = sizes (goal.at.start-c-requires c).In_default in
    let r = ranges (goal.at.start-c-requires c).In_default in record {
      drawable = (
        record { sized = z.sized; few = z.few_shapes; fitting = list-fits a.list a.candidates r.fitting },
        r.background,
        record { long = z.target_long; inside = r.target_within },
        z.first_long,
        z.second_long,
      );
      sums_len = (length-replicate 257 nought, length-replicate {A = ℕ} 33280 0, length-replicate 260 nought);
    }

pub loop-c-init : goal.loop-c-init
loop-c-init c =
    let a = c.args in
    let z = sizes (goal.at.loop-c-init c).In_default in
    let r = ranges (goal.at.loop-c-init c).In_default in
    let u = c.start-c in
    started (scene_at (goal.at.loop-c-init c).Start) (size_at (goal.at.loop-c-init c).Start) (served_at (goal.at.loop-c-init c).Start) a.list u.new.first (aids_of u.new.second u.new.sums u.new.strokes.runs u.new.strokes.paints) a.passes c.most-limit.result u.result u.ensures.0 u.ensures.1 z.few_shapes (items-long (goal.at.loop-c-init c).Start) (list-fits a.list a.candidates r.fitting)
    (u.auto.first ∙ z.first_long) z.few_passes c.most-limit.ensures

pub restart-c-requires : goal.restart-c-requires
restart-c-requires c =
    let l = c.loop-c in
    (omega (arith, l.invariant.few), l.invariant.kept.first_long)

pub loop-t-init : goal.loop-t-init
loop-t-init c =
    let a = c.args in
    let l = c.loop-c in
    let r = c.restart-c in
    let first = r.new.first in
    let aids = aids_of l.second l.sums l.strokes.runs l.strokes.paints in
    subst (λ (m : Course). During (scene_at (goal.at.loop-t-init c).Start) (size_at (goal.at.loop-t-init c).Start) (served_at (goal.at.loop-t-init c).Start) a.list.count (progress_of m) 0 m first aids) (sym r.ensures.0)
    (during_start (scene_at (goal.at.loop-t-init c).Start) (size_at (goal.at.loop-t-init c).Start) (served_at (goal.at.loop-t-init c).Start) a.list.count (refined (scene_at (goal.at.loop-t-init c).Start) a.passes (listed c.start-c.result.list)) l.limit l.c l.first aids l.invariant c.loop-c-test.true first r.ensures.1
    (r.auto.first ∙ l.invariant.kept.first_long)
    (subst (λ (p : List Float). T (all_within p)) (sym r.ensures.1) (filled_within a.w a.h a.red a.green a.blue (ranges (goal.at.loop-t-init c).In_default).background)))

abbrev aidsAt : At-loop-t → Aids
aidsAt c = aids_of c.loop-t.second c.loop-t.sums c.loop-t.strokes.runs c.loop-t.strokes.paints

-- those of the pass before
abbrev aidsBefore : At-loop-t → Aids
aidsBefore c = aids_of c.loop-c.second c.loop-c.sums c.loop-c.strokes.runs c.loop-c.strokes.paints

-- the pass that is being made began with the course after the passes before it
abbrev FromAt : At-loop-t → Progress Shape → Type 0
FromAt c b =
    During (scene_of c.args.w c.args.h c.args.red c.args.green c.args.blue c.args.target.now c.args.candidates) (c.args.h * c.args.w * 3)
    (Aided c.args.w c.args.h c.args.target.now (filled c.args.w c.args.h c.args.red c.args.green c.args.blue)) c.args.list.count b c.loop-t.t c.loop-t.c c.loop-t.first (aidsAt c)

during : (c : At-loop-t) → FromAt c (progress_of (restarted c.loop-c.c))
during c = subst (λ (m : Course). FromAt c (progress_of m)) c.restart-c.ensures.0 c.loop-t.invariant

abbrev end_at : At-loop-t → Progress Shape
end_at c = refined (scene_of c.args.w c.args.h c.args.red c.args.green c.args.blue c.args.target.now c.args.candidates) c.args.passes (listed c.start-c.result.list)

pub step-c-requires : goal.step-c-requires
step-c-requires c =
    let s = (goal.at.step-c-requires c).Start in
    let a = s.args in
    let o = c.loop-c in
    let l = c.loop-t in
    let z = sizes (goal.at.step-c-requires c).In_default in
    let r = ranges (goal.at.step-c-requires c).In_default in
    ready (scene_at s) (size_at s) (served_at s) a.list.count (end_at (goal.at.step-c-requires c).At-loop-t) o.limit o.c o.first (aidsBefore (goal.at.step-c-requires c).At-loop-t) o.invariant c.loop-c-test.true l.t l.c l.first (aidsAt (goal.at.step-c-requires c).At-loop-t) (during (goal.at.step-c-requires c).At-loop-t) a.w a.h a.target.now
    c.offer-what.result (filled a.w a.h a.red a.green a.blue) refl c.loop-t-test.true z.sized (record { long = z.target_long; inside = r.target_within })
    (offer_fits (offered a.candidates) l.c.trials c.offer-what.result (offers_fit a.list a.candidates r.fitting) (sym c.offer-what.ensures)) l.invariant.held.kept.served

pub loop-t-preserved : goal.loop-t-preserved
loop-t-preserved c =
    let s = (goal.at.loop-t-preserved c).Start in
    let a = s.args in
    let l = c.loop-t in
    let k = c.step-c in
    let first = k.new.first in
    let aids = aids_of k.new.second k.new.sums k.new.strokes.runs k.new.strokes.paints in
    during_next (scene_at s) (size_at s) (served_at s) a.list.count (progress_of c.restart-c.result) l.t l.c k.result l.first (aidsAt (goal.at.loop-t-preserved c).At-loop-t) first aids l.invariant c.loop-t-test.true
    (k.ensures (filled a.w a.h a.red a.green a.blue) (λ j. get_or (offered a.candidates) j None) (sym c.offer-what.ensures) l.invariant.held)

pub loop-c-smaller : goal.loop-c-smaller
loop-c-smaller c =
    let s = (goal.at.loop-c-smaller c).Start in
    let a = s.args in
    let o = c.loop-c in
    let l = c.loop-t in
    fewer (scene_at s) (size_at s) (served_at s) a.list.count (end_at (goal.at.loop-c-smaller c).At-loop-t) o.limit o.c o.first (aidsBefore (goal.at.loop-c-smaller c).At-loop-t) o.invariant c.loop-c-test.true l.t l.c l.first (aidsAt (goal.at.loop-c-smaller c).At-loop-t) (during (goal.at.loop-c-smaller c).At-loop-t) c.still-limit.result c.still-limit.ensures

pub loop-c-preserved : goal.loop-c-preserved
loop-c-preserved c =
    let s = (goal.at.loop-c-preserved c).Start in
    let a = s.args in
    let o = c.loop-c in
    let l = c.loop-t in
    onward (scene_at s) (size_at s) (served_at s) a.list.count (end_at (goal.at.loop-c-preserved c).At-loop-t) o.limit o.c o.first (aidsBefore (goal.at.loop-c-preserved c).At-loop-t) o.invariant c.loop-c-test.true l.t l.c l.first (aidsAt (goal.at.loop-c-preserved c).At-loop-t) (during (goal.at.loop-c-preserved c).At-loop-t) c.still-limit.result c.loop-t-test.false c.still-limit.ensures

-- the list at the end is as long as it was
many : (c : At-loop-c) → c.args.list.count ≤ length (listed c.loop-c.c.list)
many c = omega (arith, listed-length c.loop-c.c.list c.loop-c.invariant.kept.few c.loop-c.invariant.kept.long, c.loop-c.invariant.count)

pub finish-requires : goal.finish-requires
finish-requires c =
    let l = c.loop-c in
    let a = c.args in
    let r = ranges (goal.at.finish-requires c).In_default in
    (table_of a.w a.h a.list.count (listed l.c.list) l.strokes.runs l.strokes.paints l.invariant.kept.served.traced (many (goal.at.finish-requires c).At-loop-c), r.background, l.invariant.kept.first_long, l.invariant.kept.served.second_long)

pub shape_of-first : goal.shape_of-first
shape_of-first c = c.finish.auto.first ∙ c.loop-c.invariant.kept.first_long ∙ sym (sizes (goal.at.shape_of-first c).In_default).first_long

pub shape_of-second : goal.shape_of-second
shape_of-second c = c.finish.auto.second ∙ c.loop-c.invariant.kept.served.second_long ∙ sym (sizes (goal.at.shape_of-second c).In_default).second_long

pub returns : goal.returns
returns c =
    let a = c.args in
    let l = c.loop-c in
    let f = c.finish in
    let k = c.answer.ensures in
    let start = c.start-c in
    let background = filled a.w a.h a.red a.green a.blue in
    let drawn-list = f.ensures (listed l.c.list) l.invariant.kept.served.traced (many (goal.at.returns c).At-loop-c) in
    let whole : take a.list.count (listed l.c.list) ≡ listed l.c.list = ap (λ (n : ℕ). take n (listed l.c.list)) (sym l.invariant.count) ∙ take-take l.c.list.count l.c.list.count l.c.list.items (omega arith) in
    done_says a.w a.h a.red a.green a.blue a.target.now a.list a.candidates a.passes a.first.now a.second.now
    (sym c.in_default.ensures)
    c.answer.result l.c.list l.c.place f.new.first f.new.second (ap (λ (r : Refined). r.refusal) k) (ap (λ (r : Refined). r.shapes) k) (sym (listed-length l.c.list l.invariant.kept.few l.invariant.kept.long))
    (ap (λ (r : Refined). record { list = listed l.c.list; place = l.c.place; passes = r.passes; trials = r.trials; acceptances = r.acceptances }) k
    ∙ between_end (scene_at (goal.at.returns c).Start) (size_at (goal.at.returns c).Start) (served_at (goal.at.returns c).Start) a.list.count (refined (scene_at (goal.at.returns c).Start) a.passes (listed start.result.list)) l.limit l.c l.first (aids_of l.second l.sums l.strokes.runs l.strokes.paints) l.invariant c.loop-c-test.false
    ∙ ap (λ (x : Course). refined (scene_at (goal.at.returns c).Start) a.passes (listed x.list)) start.ensures.0)
    (drawn-list.0 ∙ ap (painted_on (shape_painted a.w a.h) background) whole) (drawn-list.1 ∙ ap (painted_on (shape_painted a.w a.h) background) whole)
