use mathlib.Core.Path.{◌≡◌, refl, sym, ap, ◌∙◌}
use mathlib.Core.Bool.{false}
use Prim.Native.Nat.{ℕ, ◌+◌, ◌-◌, ◌*◌, ◌/◌, ◌≤◌, ◌<◌, min}
use native.Mathlib.Nat.{mul-le-mul_right}
use Rattle.std.proofs.lemmas.Grind.{div_ceil_times}
use Rattle.laws.specs.Rows.{put_rows}
use Rattle.laws.specs.RowLaws.{put_rows-none, put_rows-split}
use Rattle.table.specs.Fills.{row_at}
use native.Mathlib.Omega.{arith}
use Rattle.table.proofs.update_rows.Goals as goal

-- `update_rows`: the rows of the parts passed are written.

pub loop-part-init : goal.loop-part-init
loop-part-init c =
    let a = c.args in
    let e : min a.hi (a.lo + 0 * (256 / (a.w + 1) + 1)) ≡ a.lo = omega (arith, c.requires.1) in
    (omega arith, rw e (sym (put_rows-none _ _ _ _)), c.requires.0.places)

-- a part that is begun is not empty, and ends where the next one begins
begun : (part parts n m lo hi : ℕ) → part + 1 ≤ parts → parts * n < m + n → m ≡ hi - lo → lo + part * n < hi
begun part parts n m lo hi a b e = let u : (part + 1) * n ≤ parts * n = mul-le-mul_right n a in omega (arith, u, b, e)

ended : (part n lo hi r : ℕ) → r ≡ min hi (lo + part * n + n) → min hi (lo + (part + 1) * n) ≡ r
ended part n lo hi r e = omega (arith, e)

pub loop-part-preserved : goal.loop-part-preserved
loop-part-preserved c =
    let a = c.args in
    let l = c.loop-part in
    let n = 256 / (a.w + 1) + 1 in
    let d : c.div_ceil-part-end.result * n < a.hi - a.lo + n = rw c.div_ceil-part-end.ensures (div_ceil_times (a.hi - a.lo) n (omega arith)).1 in
    let more : l.part + 1 ≤ c.div_ceil-part-end.result = omega (arith, c.loop-part-test.true) in
    let on : a.lo + l.part * n < a.hi = begun l.part c.div_ceil-part-end.result n (a.hi - a.lo) a.lo a.hi more d refl in
    let from : min a.hi (a.lo + l.part * n) ≡ a.lo + l.part * n = omega (arith, on) in
    let to : min a.hi (a.lo + (l.part + 1) * n) ≡ c.min.result = ended l.part n a.lo a.hi c.min.result c.min.ensures in
    let f = row_at false a.w a.target.now a.canvas.now in
    let u = c.update_some in (
      more,
      rw to (u.ensures
          ∙ ap (put_rows ((a.w + 1) * 15) f (a.lo + l.part * n) c.min.result) (rw from at l.invariant.1)
          ∙ put_rows-split ((a.w + 1) * 15) f a.lo (a.lo + l.part * n) c.min.result a.table.now (omega arith) (omega (arith, on, c.min.ensures))),
      u.auto.table ∙ l.invariant.2,
    )
