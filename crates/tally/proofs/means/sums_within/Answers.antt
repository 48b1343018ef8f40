use mathlib.Core.Path.{◌≡◌, refl, sym, ◌∙◌}
use Prim.Native.Nat.{ℕ, ◌+◌, ◌*◌}
use lib.Ieee.{of_bits}
use lib.ListN.{take}
use Rattle.laws.specs.Bools.{true_is}
use Rattle.laws.specs.Every.{every}
use Rattle.float.specs.Within.{all_within}
use Rattle.tally.specs.TallyLaws.{sums_none, sums_beyond, sums-done, first_bad, first-all}
use native.Mathlib.Omega.{arith}
use Rattle.tally.proofs.means.sums_within.Goals as goal

-- The sums so far are those of the parts passed, and they were within 0..1.

pub loop-part-init : goal.loop-part-init
unfolding of_bits every
loop-part-init c = (omega arith, refl, λ k e. let z : k ≡ 0 = omega (arith, e) in rw z (sums_none c.args.target.now, tt))

pub part_within-requires : goal.part_within-requires
part_within-requires c = (omega arith, omega (arith, c.requires), (c.loop-part.invariant.2 (c.loop-part.part * 16) refl).1)

pub returns-then-not-part_within : goal.returns-then-not-part_within
returns-then-not-part_within c =
    let a = c.args in
    let part = c.part_within in
    sums_beyond a.target.now a.n (first_bad a.target.now ((c.loop-part.part * 16 + 16) * 3) (sym part.ensures ∙ c.if-not-part_within.true))

pub add_pixels-sums-requires : goal.add_pixels-sums-requires
add_pixels-sums-requires c =
    let l = c.loop-part in
    let good = sym c.part_within.ensures ∙ c.if-not-part_within.false in
    record { from_le_to = (omega arith, omega (arith, c.requires), true_is (all_within (take ((l.part * 16 + 16) * 3) c.args.target.now)) good); before_value = (l.invariant.2 (l.part * 16) refl).0 }

pub loop-part-preserved : goal.loop-part-preserved
loop-part-preserved c =
    let l = c.loop-part in
    let good = sym c.part_within.ensures ∙ c.if-not-part_within.false in (
      omega arith,
      refl,
      λ k e. let z : k ≡ l.part * 16 + 16 = omega (arith, e) in rw z (c.add_pixels-sums.ensures, true_is (all_within (take ((l.part * 16 + 16) * 3) c.args.target.now)) good),
    )

pub part_within-requires-2 : goal.part_within-requires-2
part_within-requires-2 c =
    (omega arith, omega (arith, c.requires), (c.loop-part.invariant.2 _ (omega arith)).1)

pub returns-then-not-part_within-2 : goal.returns-then-not-part_within-2
returns-then-not-part_within-2 c =
    let a = c.args in
    let part = c.part_within-2 in
    sums_beyond a.target.now a.n (first_bad a.target.now (a.n * 3) (sym part.ensures ∙ c.if-not-part_within-2.true))

pub add_pixels-requires : goal.add_pixels-requires
add_pixels-requires c =
    let a = c.args in
    let good = sym c.part_within-2.ensures ∙ c.if-not-part_within-2.false in
    record { from_le_to = (omega arith, omega (arith, c.requires), true_is (all_within (take (a.n * 3) a.target.now)) good); before_value = (c.loop-part.invariant.2 _ (omega arith)).0 }

pub returns : goal.returns
returns c =
    let a = c.args in
    let t = a.target.now in
    let part = c.part_within-2 in
    let good = sym part.ensures ∙ c.if-not-part_within-2.false in
    sums-done t a.n _ c.add_pixels.ensures (first-all t (a.n * 3) (omega (arith, c.requires)) (true_is (all_within (take (a.n * 3) t)) good))
