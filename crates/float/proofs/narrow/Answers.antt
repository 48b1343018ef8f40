use Rattle.std.proofs.Common.{◌≡◌, ℕ, not, T, sym, ap, ◌∙◌, subst}
use lib.Ieee.{Float, binary32, binary64, nan_bits, of_bits, to_bits}
use lib.Ieee.Bits.{of_bits-to_bits}
use lib.Ieee.Compare.{differs_from_itself}
use Rattle.float.specs.Narrowed.{narrowed}
use Rattle.float.specs.Numbers.{itself_no_nan, nan32, no_nan_bits}
use Rattle.float.specs.NarrowLaws.{narrowed_no_nan, narrowed-fits}
use Rattle.float.proofs.narrow.Goals as goal
use Rattle.float.proofs.narrow.Goals.{After-any_bits}

-- NaNs go their own way; else the pattern is that of `narrowed x`, and reading it back gives `narrowed x`.

pub returns-then-x : goal.returns-then-x
unfolding narrowed
returns-then-x c = nan32 ∙ sym (ap narrowed (differs_from_itself c.args.x (subst T (sym c.if-x.true) tt)))

pub float_to_bits-x : goal.float_to_bits-x
float_to_bits-x c = itself_no_nan c.args.x c.if-x.false

-- the pattern that came back is that of `narrowed x`
pattern : (c : After-any_bits) → c.any_bits.result ≡ to_bits binary32 (narrowed c.args.x)
pattern c =
    c.any_bits.ensures ∙ ap (λ (v : Float). to_bits binary32 (narrowed v)) (of_bits-to_bits binary64 c.args.x (subst T (sym c.well_formed.0.1) tt))

pub float_from_bits-result : goal.float_from_bits-result
float_from_bits-result c =
    let x = c.args.x in
    subst (λ (n : ℕ). T (not (nan_bits binary32 n))) (sym (pattern (goal.at.float_from_bits-result c).After-any_bits)) (no_nan_bits binary32 (narrowed x) (narrowed-fits x) (narrowed_no_nan x (itself_no_nan x c.if-x.false)))

pub returns : goal.returns
returns c =
    let x = c.args.x in
    ap (of_bits binary32) (pattern (goal.at.returns c).After-any_bits) ∙ of_bits-to_bits binary32 (narrowed x) (narrowed-fits x)
