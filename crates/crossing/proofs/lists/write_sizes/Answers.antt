use mathlib.Core.Path.{◌≡◌, ap, ◌∙◌}
use Prim.Native.Nat.{◌<◌}
use native.Mathlib.Omega.{arith}
use lib.ListN.{length}
use Rattle.cover.specs.Cover.{places}
use Rattle.shapes.specs.declared.Shape.{Shape}
use Rattle.shapes.specs.Lists.{listed}
use Rattle.crossing.specs.CrossedLaws.{written_none, written_more, written_all, item_of, listed_long}
use borrow.Author.Rules.{rules}
use Rattle.crossing.proofs.lists.write_sizes.Invariants.{size_at}
use Rattle.crossing.proofs.lists.write_sizes.Goals as goal
use Rattle.crossing.proofs.lists.write_sizes.Goals.{Start}

-- The loop carries what is written so far.

-- an array's length is among what owning the parameter tells
all : (c : Start) → length (listed c.args.list) ≡ c.args.list.count
all c = listed_long c.args.list.items c.args.list.count c.well_formed.0.1.1.0.1.0.1 c.requires.1

pub loop-i-init : goal.loop-i-init
loop-i-init c = written_none _ (search rules)

pub loop-i-preserved : goal.loop-i-preserved
loop-i-preserved c =
    let a = c.args.list in
    let i = c.loop-i.i in
    let h : i < a.count = omega (arith, c.loop-i-test.true) in
    written_more (size_at a) _ c.loop-i.invariant (omega arith) (c.size_of.ensures ∙ ap (λ (x : Shape). length (places x.kind)) (item_of a.items a.count i h))

pub returns : goal.returns
returns c = written_all (size_at c.args.list) c.loop-i.invariant (omega arith) (all (goal.at.returns c).Start)
