use mathlib.Core.Path.{◌≡◌, subst}
use Prim.Native.Nat.{ℕ, ◌≤◌, ◌<◌}
use mathlib.Core.Logic.{⊎_elim}
use Rattle.laws.specs.StrokeLaws.{le-or-lt}
use lib.ListN.{length, get_or}
use Rattle.shapes.specs.Blank.{blank}
use Rattle.traces.specs.Traces.{Column}
use Rattle.traces.specs.DrawingLaws.{shape-fits}
use Rattle.traces.specs.TraceLaws.{column_kept, traced_list}
use native.Mathlib.Omega.{arith}
use Rattle.traces.proofs.Strokes.trace_list.Goals as goal
use Rattle.traces.proofs.Strokes.trace_list.Goals.{Start}

-- The shapes up to i stand in the table.

-- an array's length is among what owning the parameter tells
len : (s : Start) → length s.args.list.items ≡ 64
len s = s.well_formed.1.1.1.0.1.1.0.1.0.1

pub loop-i-init : goal.loop-i-init
loop-i-init c = (c.requires.1, c.requires.2, λ k l. absurd (omega arith))

pub trace-requires : goal.trace-requires
trace-requires c =
    let l = c.loop-i in
    (c.requires.0.sized, shape-fits c.args.list l.i (omega arith) (omega (arith, len (goal.at.trace-requires c).Start, c.requires.0.few)) c.requires.0.fitting, omega (arith, c.requires.0.few), l.invariant.0, l.invariant.1)

pub loop-i-preserved : goal.loop-i-preserved
loop-i-preserved c =
    let l = c.loop-i in
    let a = c.args in
    let t = c.trace in (
      t.ensures.0,
      t.ensures.1,
      λ k m.
          ⊎_elim
          (λ (here : l.i ≤ k). let e : l.i ≡ k = omega arith in subst (λ (i : ℕ). Column a.w a.h (get_or a.list.items i blank) t.new.self.runs t.new.self.paints i) e t.ensures.2)
          (λ (passed : k < l.i).
          let o = t.ensures.3 k (omega (arith, c.requires.0.few)) (λ e. omega arith) in
          column_kept a.w a.h (get_or a.list.items k blank) l.self.runs t.new.self.runs l.self.paints t.new.self.paints k (l.invariant.2 k passed) o.0 o.1)
          (le-or-lt l.i k),
    )

pub returns : goal.returns
returns c =
    let l = c.loop-i in
    let a = c.args in
    traced_list a.w a.h a.list l.self.runs l.self.paints c.requires.0.sized c.requires.0.few (len (goal.at.returns c).Start) l.invariant.0 l.invariant.1 (λ k m. l.invariant.2 k (omega (arith, c.loop-i-test.false)))
