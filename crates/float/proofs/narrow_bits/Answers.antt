use Rattle.std.proofs.Common.{◌≡◌, ℕ, ◌+◌, ◌/◌, ◌%◌, ◌<◌, ◌≤◌, sym, ap, ◌∙◌, subst, arith}
use Rattle.float.specs.Narrowing.{sgn, body, expo, between, at_under, at_beyond}
use Rattle.float.proofs.narrow_bits.Goals as goal

-- By the exponent: f32's normal range, what is 0 or infinity; the rest is `any_bits`'s.

exponent : (b : ℕ) → b / 0x10_0000_0000_0000 % 2048 ≡ expo b
exponent b = omega arith

normal : (b : ℕ) → (897 ≤ b / 0x10_0000_0000_0000 % 2048) × (b / 0x10_0000_0000_0000 % 2048 < 1150) → (0x3810_0000_0000_0000 ≤ body b) × (body b < 0x47ef_ffff_f000_0000)
normal b w = (omega (arith, w.0), omega (arith, w.1))

pub shorten-requires : goal.shorten-requires
shorten-requires c = normal _ (between _ _ _ c.if-e.true)

pub returns-then-e : goal.returns-then-e
returns-then-e c =
    let e = c.shorten.ensures in
    ap (λ (z : ℕ). sgn c.args.b + z) e.0
    ∙ sym (at_under c.args.b c.ranges.b.fits (normal _ (between _ _ _ c.if-e.true)).0 (subst (λ (z : ℕ). z < 0x7f80_0000) e.0 e.1))

pub returns-then-e-lt2047 : goal.returns-then-e-lt2047
returns-then-e-lt2047 c =
    let b = c.args.b in
    let x = exponent b in
    rw x (sym (at_beyond b c.ranges.b.fits (rw x at c.if-e-2.true) (rw x at c.if-e-lt2047.true)))
