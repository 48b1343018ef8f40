use mathlib.Core.Path.{◌≡◌, ap, ◌∙◌}
use Prim.Native.Nat.{ℕ, ◌<◌, ◌*◌, ◌/◌, ◌%◌}
use native.Mathlib.Omega.{arith}
use lib.ListN.{length}
use mir.Facts.{to_z-of_z}
use mir.Syntax.{w32}
use Rattle.shapes.specs.declared.Shape.{Shape}
use Rattle.shapes.specs.Lists.{listed}
use Rattle.crossing.specs.Crossed.{place_in}
use Rattle.crossing.specs.CrossedLaws.{written_none, written_more, written_all, item_of, listed_long}
use borrow.Author.Rules.{rules, sfits_of}
use Rattle.crossing.proofs.lists.write_places.Invariants.{place_at}
use Rattle.crossing.proofs.lists.write_places.Goals as goal
use Rattle.crossing.proofs.lists.write_places.Goals.{Start}

-- The loop carries what is written so far.

-- an array's length is among what owning the parameter tells
all : (c : Start) → length (listed c.args.list) ≡ c.args.list.count
all c = listed_long c.args.list.items c.args.list.count c.well_formed.0.1.1.0.1.0.1 c.requires.1

pub loop-k-init : goal.loop-k-init
loop-k-init c = written_none _ (search rules)

pub loop-k-preserved : goal.loop-k-preserved
loop-k-preserved c =
    let a = c.args.list in
    let i = c.loop-k.k / 8 in
    let h : i < a.count = omega (arith, c.loop-k-test.true) in
    written_more (place_at a) _ c.loop-k.invariant (omega arith) (to_z-of_z {w = w32} (sfits_of c.place_of.type_inv) ∙ c.place_of.ensures ∙ ap (λ (x : Shape). place_in x.kind (c.loop-k.k % 8)) (item_of a.items a.count i h))

pub returns : goal.returns
returns c = written_all (place_at c.args.list) c.loop-k.invariant (omega arith) (ap (λ (m : ℕ). m * 8) (all (goal.at.returns c).Start))
