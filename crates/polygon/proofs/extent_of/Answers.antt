use Rattle.std.proofs.Common.{rules, ◌≡◌, refl, List, ◌∷◌, w32, to_z, of_z, ℤ, subst}
use Rattle.polygon.specs.Polygon.{least_of, greatest_of, ExtentOfSays}
use Rattle.polygon.specs.StepLaws.{least_more, greatest_more, extent_none, extent-all}
use Rattle.polygon.proofs.extent_of.Goals as goal

-- The least and the greatest of the first number and those that the loop has passed.

pub returns-in_default : goal.returns-in_default
returns-in_default c = extent_none c.args.zs.now c.in_default.ensures.cases

pub loop-z-init : goal.loop-z-init
unfolding least_of greatest_of
loop-z-init c = (refl, refl)

pub loop-z-preserved : goal.loop-z-preserved
loop-z-preserved c =
    let a = to_z w32 (of_z w32 c.in-Some.field-0-0.now) in
    let h = least_more a c.in-Some.rest.now c.loop-z.z-index c.loop-z-test.true in
    let k = greatest_more a c.in-Some.rest.now c.loop-z.z-index c.loop-z-test.true in
    (search rules, search rules)

pub returns : goal.returns
returns c =
    let a = to_z w32 (of_z w32 c.in-Some.field-0-0.now) in
    let e = extent-all a c.in-Some.rest.now c.loop-z.z-index _ _ c.loop-z-test.false c.loop-z.invariant.0 c.loop-z.invariant.1 in
    let s : (a ∷ c.in-Some.rest.now) ≡ c.args.zs.now = search rules in
    subst (λ (zs : List ℤ). ExtentOfSays zs (to_z w32 c.loop-z.least-bits) (to_z w32 c.loop-z.greatest-bits)) s e
