use Rattle.std.proofs.Common.{◌≡◌, ℕ, ◌+◌, ◌<◌, ◌≤◌, false, ◌||◌, ltb, leb, sym, ap, ◌∙◌, subst, arith}
use Rattle.float.specs.Narrowing.{sgn, body, between, not_outside, at_nan, at_under, at_far, at_tiny, tiny_small}
use Rattle.float.proofs.any_bits.Goals as goal

-- Each way out is one case of the laws in `Narrowing`: normal, NaN, zero or infinity, below the normal range.

subnormal : (b : ℕ) → ltb (body b) 0x3670_0000_0000_0000 || leb 0x3810_0000_0000_0000 (body b) ≡ false → (0x3670_0000_0000_0000 ≤ body b) × (body b < 0x3810_0000_0000_0000)
subnormal b h = not_outside 0x3670_0000_0000_0000 (body b) 0x3810_0000_0000_0000 h

pub shorten-requires : goal.shorten-requires
shorten-requires c = between _ _ _ c.if-r.true

pub returns-then-r : goal.returns-then-r
returns-then-r c =
    let e = c.shorten.ensures in
    ap (λ (z : ℕ). sgn c.args.b + z) e.0
    ∙ sym (at_under c.args.b c.ranges.b.fits (between _ _ _ c.if-r.true).0 (subst (λ (z : ℕ). z < 0x7f80_0000) e.0 e.1))

pub returns-then-r-gt9218868437227405312 : goal.returns-then-r-gt9218868437227405312
returns-then-r-gt9218868437227405312 c = sym (at_nan c.args.b c.if-r-gt9218868437227405312.true)

pub overflow_add-result-then-r-2 : goal.overflow_add-result-then-r-2
overflow_add-result-then-r-2 c = omega (arith, c.far.ensures.1)

pub overflow_cast-result-then-r-2 : goal.overflow_cast-result-then-r-2
overflow_cast-result-then-r-2 c = omega (arith, c.far.ensures.1)

pub returns-then-r-2 : goal.returns-then-r-2
returns-then-r-2 c =
    ap (λ (z : ℕ). sgn c.args.b + z) c.far.ensures.0
    ∙ sym (at_far c.args.b c.ranges.b.fits c.if-r.false c.if-r-2.true c.if-r-gt9218868437227405312.false)

pub overflow_sub-r : goal.overflow_sub-r
overflow_sub-r c = let w = subnormal c.args.b c.if-r-2.false in omega (arith, w.0, w.1)

pub closest_shift-requires : goal.closest_shift-requires
closest_shift-requires c = let w = subnormal c.args.b c.if-r-2.false in (omega arith, omega (arith, w.0, w.1))

pub overflow_add-result-2 : goal.overflow_add-result-2
overflow_add-result-2 c =
    let w = subnormal c.args.b c.if-r-2.false in
    omega (arith, c.closest_shift.ensures, tiny_small c.args.b c.ranges.b.fits (omega (arith, w.1)))

pub overflow_cast-result-2 : goal.overflow_cast-result-2
overflow_cast-result-2 c =
    let w = subnormal c.args.b c.if-r-2.false in
    omega (arith, c.closest_shift.ensures, tiny_small c.args.b c.ranges.b.fits (omega (arith, w.1)))

pub returns : goal.returns
returns c =
    let w = subnormal c.args.b c.if-r-2.false in
    ap (λ (z : ℕ). sgn c.args.b + z) c.closest_shift.ensures ∙ sym (at_tiny c.args.b c.ranges.b.fits (omega (arith, w.0)) (omega (arith, w.1)))
