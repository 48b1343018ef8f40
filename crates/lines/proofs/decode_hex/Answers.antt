use Prim.Native.Nat.{◌/◌}
use mathlib.Core.Path.{refl}
use native.Mathlib.Omega.{arith}
use lib.ListN.{length, length-take}
use Rattle.lines.specs.HexLaws.{decodes, spells-length, spells_digits}
use Rattle.lines.specs.Hex.{DecodeHexSays}
use Rattle.lines.proofs.decode_hex.Goals as goal

-- `lines::decode_hex` meets its contract: each refusal because the characters that any bytes give are as many as two a byte, and digits.

pub returns-then-n-eq0 : goal.returns-then-n-eq0
returns-then-n-eq0 c = DecodeHexSays.refused (λ bytes s l. omega (arith, s.some, spells-length s)) refl refl

pub returns-then-n-line : goal.returns-then-n-line
returns-then-n-line c = DecodeHexSays.refused (λ bytes s l. omega (arith, spells-length s)) refl refl

pub returns-then-out-n : goal.returns-then-out-n
returns-then-out-n c = DecodeHexSays.refused (λ bytes s l. omega (arith, spells-length s)) refl refl

pub fill-requires : goal.fill-requires
fill-requires c = (simp length-take (omega arith), c.all_digits.ensures.yes c.if-not-all_digits.false)

pub returns : goal.returns
returns c =
    let a = c.args in
    let f = c.fill in
    decodes a.line.now a.out.now f.new.out _ (length a.line.now / 2) refl
    (omega (arith, simp length-take at f.auto.out)) (omega arith) (omega arith)
    (λ k. (c.type_inv.out k).fits)
    f.ensures

pub returns-then-not-all_digits : goal.returns-then-not-all_digits
returns-then-not-all_digits c = DecodeHexSays.refused (λ bytes s l. c.all_digits.ensures.no c.if-not-all_digits.true (spells_digits s)) refl refl
