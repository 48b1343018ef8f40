use mathlib.Core.Path.{◌≡◌, sym, ap, subst, ◌∙◌}
use mathlib.Core.List.{List, [], ◌∷◌, ◌++◌}
use Prim.Native.Nat.{ℕ, ◌+◌, ◌<◌}
use lib.Ieee.{Float}
use lib.ListN.{length, length-append}
use Rattle.shapes.specs.Lists.{listed}
use Rattle.traces.specs.Traces.{SameColumn, brush_at, Column, Traced}
use Rattle.traces.specs.DrawingLaws.{shape-fits}
use Rattle.traces.specs.TraceLaws.{table_of, traced_push}
use Rattle.trials.specs.SumLaws.{judged_trial}
use Rattle.trials.specs.StepLaws.{listed-length}
use native.Mathlib.Omega.{arith}
use Rattle.trials.proofs.try_candidate.Goals as goal
use Rattle.trials.proofs.try_candidate.Goals.{Start}

-- The candidate stands after the list in the table; the trial's rows are judged.

-- an array's length is among what owning the parameter tells
len : (s : Start) → length s.args.list.items ≡ 64
len s = s.well_formed.1.1.1.0.1.1.0.1.0.1

count-is : (s : Start) → length (listed s.args.list) ≡ s.args.list.count
count-is s = listed-length s.args.list s.requires.drawable.0.few (len s)

all_long : (s : Start) → length (listed s.args.list ++ (s.args.x ∷ [])) ≡ s.args.list.count + 1
all_long s = length-append (listed s.args.list) (s.args.x ∷ []) ∙ ap (λ (n : ℕ). n + 1) (count-is s)

-- the candidate stands after the list
stands : (s : Start) (runs : List ℕ) (paints : List Float) → length runs ≡ 33280 → length paints ≡ 260 → Column s.args.w s.args.h s.args.x runs paints s.args.list.count
    → ((k : ℕ) → k < 65 → (k ≡ s.args.list.count → ⊥) → SameColumn s.args.strokes.now.runs runs k × (brush_at paints k ≡ brush_at s.args.strokes.now.paints k)) → Traced s.args.w s.args.h (listed s.args.list ++ (s.args.x ∷ [])) runs paints
stands s runs paints long paints_long c others =
    let a = s.args in
    traced_push a.w a.h (listed a.list) a.x a.strokes.now.runs runs a.strokes.now.paints paints s.requires.drawable.4 (omega (arith, count-is s, s.requires.drawable.0.few))
    (subst (λ (n : ℕ). Column a.w a.h a.x runs paints n) (sym (count-is s)) c) (λ k l o. others k l (λ e. o (e ∙ sym (count-is s)))) long paints_long

pub offset_bounds-list-j : goal.offset_bounds-list-j
offset_bounds-list-j c = omega (arith, c.requires.drawable.2, c.requires.drawable.0.few)

pub bounds-list-j : goal.bounds-list-j
bounds-list-j c = omega (arith, c.requires.drawable.2, c.requires.drawable.0.few)

pub spanned-rows-requires : goal.spanned-rows-requires
spanned-rows-requires c = (c.requires.drawable.0.sized, shape-fits c.args.list c.args.j c.requires.drawable.2 (omega (arith, len (goal.at.spanned-rows-requires c).Start, c.requires.drawable.0.few)) c.requires.drawable.0.fitting, c.requires.drawable.3)

pub trace-requires : goal.trace-requires
trace-requires c = (c.requires.drawable.0.sized, c.requires.drawable.3, omega (arith, c.requires.drawable.0.few), c.requires.drawable.4.runs_long, c.requires.drawable.4.paints_long)

pub paint_all-requires : goal.paint_all-requires
paint_all-requires c =
    let t = c.trace in
    (table_of c.args.w c.args.h c.args.j (listed c.args.list ++ (c.args.x ∷ [])) t.new.self.runs t.new.self.paints (stands (goal.at.paint_all-requires c).Start t.new.self.runs t.new.self.paints t.ensures.0 t.ensures.1 t.ensures.2 t.ensures.3) (omega (arith, all_long (goal.at.paint_all-requires c).Start, c.requires.drawable.2)), c.requires.drawable.1, c.requires.targeted.1, c.requires.targeted.3)

pub try_rows-requires : goal.try_rows-requires
try_rows-requires c =
    let t = c.trace in
    let p = c.paint_all in
    let o = c.spanned-rows.ensures in record { tabled = (table_of c.args.w c.args.h (c.args.list.count + 1) (listed c.args.list ++ (c.args.x ∷ [])) t.new.self.runs t.new.self.paints (stands (goal.at.try_rows-requires c).Start t.new.self.runs t.new.self.paints t.ensures.0 t.ensures.1 t.ensures.2 t.ensures.3) (omega (arith, all_long (goal.at.try_rows-requires c).Start)), omega (arith, c.requires.drawable.2), o.ordered, o.inside, c.requires.drawable.5, c.requires.drawable.6); targeted = (c.requires.targeted.0, p.auto.canvas ∙ c.requires.targeted.1, c.requires.targeted.2, p.ensures.0, c.requires.targeted.4) }

pub returns : goal.returns
returns c =
    let a = c.args in
    let t = c.trace in
    let p = c.paint_all in
    let r = c.try_rows in
    let all = stands (goal.at.returns c).Start t.new.self.runs t.new.self.paints t.ensures.0 t.ensures.1 t.ensures.2 t.ensures.3 in (
      p.ensures.1 (listed c.args.list ++ (c.args.x ∷ [])) all (omega (arith, all_long (goal.at.returns c).Start, c.requires.drawable.2)),
      p.ensures.0,
      r.ensures.0,
      all,
      judged_trial a.w a.h c.requires.drawable.0.sized.w_low a.target.now p.new.canvas a.sums.now r.new.trial a.list c.requires.drawable.0.few (len (goal.at.returns c).Start) a.j c.requires.drawable.2 a.x c.spanned-rows.result c.spanned-rows.ensures r.result
          (λ q apart summed. r.ensures.2 (listed c.args.list ++ (c.args.x ∷ [])) q all (omega (arith, all_long (goal.at.returns c).Start)) apart summed),
    )
