use Rattle.std.proofs.Common.{◌≡◌, ℕ, ◌<◌, not, T, sym, ap, ◌∙◌, subst, arith}
use lib.Ieee.{binary32, binary64, fits, nan_bits, of_bits, to_bits, round}
use lib.Ieee.Bits.{of_bits-to_bits}
use Rattle.laws.specs.Bools.{true_is}
use Rattle.float.specs.Within.{number}
use Rattle.float.specs.Clamped.{clamped}
use Rattle.float.specs.ClampLaws.{clamped_upto, clamped-above, clamped_nan, beside-one, narrowed-one}
use Rattle.float.specs.Narrowed.{narrowed}
use Rattle.float.specs.NarrowLaws.{narrowed_no_nan, narrowed-fits}
use Rattle.float.specs.Narrowing.{between, at_positive, positive}
use Rattle.float.specs.Numbers.{nan32, no_nan_bits}
use Rattle.float.specs.OrderLaws.{le_numbers}
use Rattle.float.proofs.narrow01.Goals as goal
use Rattle.float.proofs.narrow01.Goals.{After-shorten}

-- A positive normal number's pattern is shortened; what is below 0 is 0; the rest is narrowed as ever.

pub float_to_bits-b : goal.float_to_bits-b
float_to_bits-b c = (le_numbers c.args.q _ (true_is _ c.if-q.true)).0

pub shorten-requires : goal.shorten-requires
shorten-requires c = between _ _ _ c.if-b.true

is_number : (c : After-shorten) → T (number c.args.q)
is_number c = (le_numbers c.args.q _ (true_is _ c.if-q.true)).0

-- the pattern that came back is that of `narrowed q`
pattern : (c : After-shorten) → c.shorten.result ≡ to_bits binary32 (narrowed c.args.q)
pattern c =
    let q = c.args.q in
    let w = between 0x3810_0000_0000_0000 (to_bits binary64 q) 0x47ef_ffff_f000_0000 c.if-b.true in
    let e = c.shorten.ensures in
    e.0 ∙ at_positive q (true_is (fits binary64 q) c.well_formed.0.1) (omega (arith, w.1)) w.0 (subst (λ (z : ℕ). z < 0x7f80_0000) e.0 e.1) (omega (arith, w.1))

pub float_from_bits-result : goal.float_from_bits-result
float_from_bits-result c =
    let q = c.args.q in
    subst (λ (n : ℕ). T (not (nan_bits binary32 n))) (sym (pattern (goal.at.float_from_bits-result c).After-shorten)) (no_nan_bits binary32 (narrowed q) (narrowed-fits q) (narrowed_no_nan q (is_number (goal.at.float_from_bits-result c).After-shorten)))

pub returns-then-b : goal.returns-then-b
unfolding of_bits
returns-then-b c =
    let q = c.args.q in
    let w = between 0x3810_0000_0000_0000 (to_bits binary64 q) 0x47ef_ffff_f000_0000 c.if-b.true in
    ap (of_bits binary32) (pattern (goal.at.returns-then-b c).After-shorten)
    ∙ of_bits-to_bits binary32 (narrowed q) (narrowed-fits q)
    ∙ ap narrowed (sym (clamped_upto q c.if-q.true (positive q (is_number (goal.at.returns-then-b c).After-shorten) (omega (arith, w.1)))))

pub returns-then-q-2 : goal.returns-then-q-2
unfolding clamped narrowed of_bits round
returns-then-q-2 c = simp c.if-q-2.true

pub returns-then-q : goal.returns-then-q
unfolding of_bits
returns-then-q c =
    let q = c.args.q in
    c.narrow.ensures ∙ ap narrowed (sym (clamped_upto q c.if-q.true c.if-q-2.false))

pub returns-then-q-3 : goal.returns-then-q-3
unfolding of_bits
returns-then-q-3 c = sym (ap narrowed (clamped-above c.args.q c.if-q-3.true) ∙ narrowed-one)

pub returns : goal.returns
unfolding of_bits narrowed
returns c = nan32 ∙ sym (ap narrowed (ap clamped (beside-one c.args.q c.if-q.false c.if-q-3.false) ∙ clamped_nan))
