use mathlib.Core.Path.{◌∙◌}
use Prim.Native.Nat.{◌*◌, ◌≤◌}
use Rattle.picture.specs.PixelLaws.{coloured_none, coloured_first, coloured_all}
use native.Mathlib.Omega.{arith}
use Rattle.picture.proofs.fill.Goals as goal

-- The first pixels, then four at a time, then those that are left.

pub returns-then-n-le16 : goal.returns-then-n-le16
returns-then-n-le16 c =
    let a = c.args in
    let p = c.put_each in
    let n = c.min_usize-begun.result in
    let all : a.h * a.w ≤ n = omega arith in
    coloured_all a.w a.h a.colour.red a.colour.green a.colour.blue n _ (p.auto.canvas ∙ c.requires) all (p.ensures (coloured_none _ _))

pub returns : goal.returns
returns c =
    let a = c.args in
    let p = c.put_each in
    let q = c.put_fours in
    let r = c.put_each-2 in
    let n = c.min_usize-begun.result in
    let first : 16 ≤ n = omega arith in
    let size = r.auto.canvas ∙ q.auto.canvas ∙ p.auto.canvas ∙ c.requires in
    coloured_all a.w a.h a.colour.red a.colour.green a.colour.blue (a.h * a.w) _ size (omega arith) (r.ensures (q.ensures _ (coloured_first _ 16 n _ first (p.ensures (coloured_none _ _)))))
