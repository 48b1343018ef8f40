use mathlib.Core.Path.{◌≡◌, sym, ap, ◌∙◌}
use Rattle.std.proofs.Common.{ℕ, ◌-◌, List, slice_index_or, length, length-drop}
use lib.ListN.{take, drop}
use lib.Seq.{take_all}
use Rattle.words.specs.Words.{negated, digits}
use Rattle.words.specs.WordLaws.{value_none, value-minus, value_hex, value_decimal}
use native.Mathlib.Omega.{arith}
use Rattle.words.proofs.value.Goals as goal

-- By the first byte, as the rule goes.

-- the part that the code hands on is all behind the first byte
behind : (w : List ℕ) → take (length w - 1) (drop 1 w) ≡ drop 1 w
behind w = take_all (length w - 1) (drop 1 w) (rw length-drop (omega arith))

pub returns-in-empty : goal.returns-in-empty
returns-in-empty c = sym (value_none c.args.word.now (omega arith))

pub returns-in_err-digits_to-in-45 : goal.returns-in_err-digits_to-in-45
unfolding negated
returns-in_err-digits_to-in-45 c =
    let w = c.args.word.now in
    let m : slice_index_or w 0 0 ≡ 45 = omega arith in
    c.from_residual.ensures ∙ ap negated (c.in_err-digits_to-in-45.ensures ∙ ap (digits 10) (behind w)) ∙ sym (value-minus w (omega arith) m)

pub returns-in_ok-digits_to-in-45 : goal.returns-in_ok-digits_to-in-45
returns-in_ok-digits_to-in-45 c =
    let w = c.args.word.now in
    let m : slice_index_or w 0 0 ≡ 45 = omega arith in
    c.negative.ensures ∙ ap negated (c.in_ok-digits_to-in-45.ensures ∙ ap (digits 10) (behind w)) ∙ sym (value-minus w (omega arith) m)

pub returns-in-120 : goal.returns-in-120
returns-in-120 c =
    let w = c.args.word.now in
    let m : slice_index_or w 0 0 ≡ 120 = omega arith in
    c.digits_to-in-120.ensures ∙ ap (digits 16) (behind w) ∙ sym (value_hex w (omega arith) m)

pub returns-in_default : goal.returns-in_default
returns-in_default c =
    let w = c.args.word.now in
    c.digits_to-in_default.ensures ∙ sym (value_decimal w (omega arith) (λ z. omega arith) (λ z. omega arith))
