use Prim.Native.Nat.{◌*◌}
use mathlib.Core.Path.{ap}
use mathlib.Core.Bool.{not}
use native.Mathlib.Omega.{arith}
use borrow.Author.Tests.{eq-eqb, ne_eqb}
use lib.Dec.{eqb}
use Rattle.crossing.specs.CrossedLaws.{or_yes}
use Rattle.crossing.proofs.lists.bad_lengths.Goals as goal

-- A length is eight or four times the count exactly if it divides so.

pub returns-then-places-n : goal.returns-then-places-n
returns-then-places-n c =
    let a = c.args in
    or_yes (not (eqb a.places (a.n * 8))) (not (eqb a.paints (a.n * 4))) (ap not (ne_eqb a.places (a.n * 8) (λ e. c.if-places-n.true (omega (arith, e)))))

pub returns-then-places-ne0 : goal.returns-then-places-ne0
returns-then-places-ne0 c =
    let a = c.args in
    or_yes (not (eqb a.places (a.n * 8))) (not (eqb a.paints (a.n * 4))) (ap not (ne_eqb a.places (a.n * 8) (λ e. c.if-places-ne0.true (omega (arith, e)))))

pub returns-then-paints-n : goal.returns-then-paints-n
returns-then-paints-n c =
    let a = c.args in
    simp (eq-eqb a.places (a.n * 8) (omega (arith, c.if-places-n.false, c.if-places-ne0.false)), ne_eqb a.paints (a.n * 4) (λ e. c.if-paints-n.true (omega (arith, e))))

pub returns-then-paints-ne0 : goal.returns-then-paints-ne0
returns-then-paints-ne0 c =
    let a = c.args in
    simp (eq-eqb a.places (a.n * 8) (omega (arith, c.if-places-n.false, c.if-places-ne0.false)), ne_eqb a.paints (a.n * 4) (λ e. c.if-paints-ne0.true (omega (arith, e))))

pub returns : goal.returns
returns c =
    let a = c.args in
    simp (eq-eqb a.places (a.n * 8) (omega (arith, c.if-places-n.false, c.if-places-ne0.false)), eq-eqb a.paints (a.n * 4) (omega (arith, c.if-paints-n.false, c.if-paints-ne0.false)))
