use mathlib.Core.Path.{◌≡◌, refl, sym, ap, subst, ◌∙◌}
use mathlib.Core.List.{List}
use Prim.Native.Nat.{◌*◌}
use lib.Ieee.{Float, nan}
use lib.ListN.{length}
use Rattle.traces.specs.Traces.{Moved}
use Rattle.traces.specs.TraceLaws.{rows_dropped_none, rows_dropped_more, brush_dropped, moved_within}
use native.Mathlib.Omega.{arith}
use Rattle.traces.proofs.Strokes.drop_column.Goals as goal

-- Row after row.

pub loop-y-init : goal.loop-y-init
loop-y-init c = let a = c.args in (rows_dropped_none a.j a.n a.self.now.runs, refl)

pub loop-y-preserved : goal.loop-y-preserved
loop-y-preserved c =
    let l = c.loop-y in
    let a = c.args in
    let m = c.copy_within-in-loop-y in
    (rows_dropped_more a.j a.n l.y a.self.now.runs l.self.runs m.new.self c.requires.1 c.requires.2 l.invariant.0 (moved_within _ _ _ _ m.ensures.len m.ensures.by_index (omega arith) (omega (arith, c.requires.1))), l.invariant.1)

pub returns : goal.returns
returns c =
    let l = c.loop-y in
    let a = c.args in
    let p = c.copy_within in
    let e : l.self.paints ≡ p.new.self = l.invariant.1 in
    (l.invariant.0.long ∙ c.requires.3, ap length e ∙ p.ensures.len ∙ c.requires.4, λ y k. l.invariant.0.done y (omega (arith, c.loop-y-test.false)), brush_dropped a.j a.n a.self.now.paints l.self.paints (subst (λ (q : List Float). Moved 4 (a.j * 4) nan a.self.now.paints (a.n * 4) q) (sym e) (moved_within _ _ _ _ p.ensures.len p.ensures.by_index (omega arith) (omega (arith, c.requires.1)))))
