use Prim.Native.Nat.{◌≤◌}
use native.Mathlib.Omega.{arith}
use mir.Facts.{to_z-of_z}
use mir.Syntax.{w32}
use mir.Val.{SFits}
use borrow.Author.Tests.{eq-eqb, ne_eqb}
use lib.ListN.{length}
use Rattle.crossing.specs.Outlines.{coordinate, kind_sized}
use Rattle.crossing.specs.OutlineLaws.{three, six, eight}
use borrow.Author.Rules.{sfits_of}
use Rattle.crossing.proofs.kind_sized.Goals as goal
use Rattle.crossing.proofs.kind_sized.Goals.{Else-n-eq6, Then-n-eq3, Then-n-eq6}

-- Each coordinate that is read back from its bits is itself.

three-there : (c : Then-n-eq3) → 3 ≤ length c.args.zs.now
three-there c = three c.args.n (length c.args.zs.now) c.requires c.if-n-eq3.true

six-there : (c : Then-n-eq6) → 6 ≤ length c.args.zs.now
six-there c = six c.args.n (length c.args.zs.now) c.requires c.if-n-eq3.false c.if-n-eq6.true

eight-there : (c : Else-n-eq6) → 8 ≤ length c.args.zs.now
eight-there c = eight c.args.n (length c.args.zs.now) c.requires c.if-n-eq3.false c.if-n-eq6.false

pub bounds-zs-0 : goal.bounds-zs-0
bounds-zs-0 c = omega (arith, three-there (goal.at.bounds-zs-0 c).Then-n-eq3)

pub bounds-zs-1 : goal.bounds-zs-1
bounds-zs-1 c = omega (arith, three-there (goal.at.bounds-zs-1 c).Then-n-eq3)

pub bounds-zs-2 : goal.bounds-zs-2
bounds-zs-2 c = omega (arith, three-there (goal.at.bounds-zs-2 c).Then-n-eq3)

pub returns-then-n-eq3 : goal.returns-then-n-eq3
unfolding kind_sized
returns-then-n-eq3 c =
    let a = c.args in
    let zs = a.zs.now in
    let f0 : SFits w32 (coordinate zs 0) = sfits_of c.result-1.given in
    let f1 : SFits w32 (coordinate zs 1) = sfits_of c.result-then-n-eq3-1.given in
    let f2 : SFits w32 (coordinate zs 2) = sfits_of c.result-then-n-eq3-2-1.given in
    simp (to_z-of_z, f0, f1, f2, eq-eqb a.n 3 c.if-n-eq3.true)

pub bounds-zs-0-then-n-eq6 : goal.bounds-zs-0-then-n-eq6
bounds-zs-0-then-n-eq6 c = omega (arith, six-there (goal.at.bounds-zs-0-then-n-eq6 c).Then-n-eq6)

pub bounds-zs-1-then-n-eq6 : goal.bounds-zs-1-then-n-eq6
bounds-zs-1-then-n-eq6 c = omega (arith, six-there (goal.at.bounds-zs-1-then-n-eq6 c).Then-n-eq6)

pub bounds-zs-2-then-n-eq6 : goal.bounds-zs-2-then-n-eq6
bounds-zs-2-then-n-eq6 c = omega (arith, six-there (goal.at.bounds-zs-2-then-n-eq6 c).Then-n-eq6)

pub bounds-zs-3 : goal.bounds-zs-3
bounds-zs-3 c = omega (arith, six-there (goal.at.bounds-zs-3 c).Then-n-eq6)

pub bounds-zs-4 : goal.bounds-zs-4
bounds-zs-4 c = omega (arith, six-there (goal.at.bounds-zs-4 c).Then-n-eq6)

pub bounds-zs-5 : goal.bounds-zs-5
bounds-zs-5 c = omega (arith, six-there (goal.at.bounds-zs-5 c).Then-n-eq6)

pub returns-then-n-eq6 : goal.returns-then-n-eq6
unfolding kind_sized
returns-then-n-eq6 c =
    let a = c.args in
    let zs = a.zs.now in
    let f0 : SFits w32 (coordinate zs 0) = sfits_of c.result-then-n-eq6-1.given in
    let f1 : SFits w32 (coordinate zs 1) = sfits_of c.result-then-n-eq6-2-1.given in
    let f2 : SFits w32 (coordinate zs 2) = sfits_of c.result-then-n-eq6-3-1.given in
    let f3 : SFits w32 (coordinate zs 3) = sfits_of c.result-then-n-eq6-4-1.given in
    let f4 : SFits w32 (coordinate zs 4) = sfits_of c.result-then-n-eq6-5-1.given in
    let f5 : SFits w32 (coordinate zs 5) = sfits_of c.result-then-n-eq6-6-1.given in
    simp (to_z-of_z, f0, f1, f2, f3, f4, f5, ne_eqb a.n 3 c.if-n-eq3.false, eq-eqb a.n 6 c.if-n-eq6.true)

pub bounds-zs-0-else-n-eq6 : goal.bounds-zs-0-else-n-eq6
bounds-zs-0-else-n-eq6 c = omega (arith, eight-there (goal.at.bounds-zs-0-else-n-eq6 c).Else-n-eq6)

pub bounds-zs-1-else-n-eq6 : goal.bounds-zs-1-else-n-eq6
bounds-zs-1-else-n-eq6 c = omega (arith, eight-there (goal.at.bounds-zs-1-else-n-eq6 c).Else-n-eq6)

pub bounds-zs-2-else-n-eq6 : goal.bounds-zs-2-else-n-eq6
bounds-zs-2-else-n-eq6 c = omega (arith, eight-there (goal.at.bounds-zs-2-else-n-eq6 c).Else-n-eq6)

pub bounds-zs-3-else-n-eq6 : goal.bounds-zs-3-else-n-eq6
bounds-zs-3-else-n-eq6 c = omega (arith, eight-there (goal.at.bounds-zs-3-else-n-eq6 c).Else-n-eq6)

pub bounds-zs-4-else-n-eq6 : goal.bounds-zs-4-else-n-eq6
bounds-zs-4-else-n-eq6 c = omega (arith, eight-there (goal.at.bounds-zs-4-else-n-eq6 c).Else-n-eq6)

pub bounds-zs-5-else-n-eq6 : goal.bounds-zs-5-else-n-eq6
bounds-zs-5-else-n-eq6 c = omega (arith, eight-there (goal.at.bounds-zs-5-else-n-eq6 c).Else-n-eq6)

pub bounds-zs-6 : goal.bounds-zs-6
bounds-zs-6 c = omega (arith, eight-there (goal.at.bounds-zs-6 c).Else-n-eq6)

pub bounds-zs-7 : goal.bounds-zs-7
bounds-zs-7 c = omega (arith, eight-there (goal.at.bounds-zs-7 c).Else-n-eq6)

pub returns-else-n-eq6 : goal.returns-else-n-eq6
unfolding kind_sized
returns-else-n-eq6 c =
    let a = c.args in
    let zs = a.zs.now in
    let f0 : SFits w32 (coordinate zs 0) = sfits_of c.result-else-n-eq6-1.given in
    let f1 : SFits w32 (coordinate zs 1) = sfits_of c.result-else-n-eq6-2-1.given in
    let f2 : SFits w32 (coordinate zs 2) = sfits_of c.result-else-n-eq6-3-1.given in
    let f3 : SFits w32 (coordinate zs 3) = sfits_of c.result-else-n-eq6-4-1.given in
    let f4 : SFits w32 (coordinate zs 4) = sfits_of c.result-else-n-eq6-5-1.given in
    let f5 : SFits w32 (coordinate zs 5) = sfits_of c.result-else-n-eq6-6-1.given in
    let f6 : SFits w32 (coordinate zs 6) = sfits_of c.result-else-n-eq6-7-1.given in
    let f7 : SFits w32 (coordinate zs 7) = sfits_of c.result-else-n-eq6-8-1.given in
    simp (to_z-of_z, f0, f1, f2, f3, f4, f5, f6, f7, ne_eqb a.n 3 c.if-n-eq3.false, ne_eqb a.n 6 c.if-n-eq6.false)
