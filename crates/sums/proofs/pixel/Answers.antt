use Rattle.laws.specs.F64.{◌⊗◌}
use Rattle.std.proofs.Common.{rules}
use Rattle.sums.specs.Sums.{pixel_sums}
use Rattle.sums.proofs.pixel.Goals as goal

-- `pixel`: the products channel by channel.

pub returns : goal.returns
unfolding pixel_sums
returns c =
    let tc = c.each3-s_tc.ensures ◌⊗◌ (λ x y z p. search (rules, p)) in
    let cc = c.each3-s_c2.ensures ◌⊗◌ (λ x y z p. search (rules, p)) in
    let tt2 = c.each3-s_t2.ensures ◌⊗◌ (λ x y z p. search (rules, p)) in
    simp (tc, cc, tt2)
