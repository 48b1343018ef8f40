use mathlib.Core.Path.{sym, ◌∙◌}
use Rattle.std.proofs.Common.{◌≡◌, length}
use Rattle.std.proofs.lemmas.Bool.{eqb-true, eqb-false}
use Prim.Native.Nat.{ℕ, ◌≤◌, ◌<◌, ◌*◌}
use native.Mathlib.Nat.{mul-le-mul}
use Rattle.words.specs.WordLaws.{digit-next, digit_bad, digit_full, digits_all, digits_end, digits_none}
use native.Mathlib.Omega.{arith}
use Rattle.words.proofs.digits_to.Goals as goal

-- The digits still to come, after the number so far, say what all digits say.

pub returns-then-is_empty : goal.returns-then-is_empty
returns-then-is_empty c = sym (digits_none _ _ (eqb-true _ _ (sym c.is_empty.ensures ∙ c.if-is_empty.true)))

pub loop-b-init : goal.loop-b-init
loop-b-init c = digits_all c.args.base c.args.text.now (let k : length c.args.text.now ≡ 0 → ⊥ = eqb-false _ _ (sym c.is_empty.ensures ∙ c.if-is_empty.false) in omega arith)

pub returns-in_err-d : goal.returns-in_err-d
returns-in_err-d c = c.from_residual.ensures ∙ sym (digit_bad c.args.base c.loop-b.sum c.loop-b.b-index c.args.text.now c.loop-b-test.true c.in_err-d.ensures) ∙ c.loop-b.invariant

pub returns-then-sum-ge1152921504606846976 : goal.returns-then-sum-ge1152921504606846976
returns-then-sum-ge1152921504606846976 c =
    let d = c.in_ok-d.ensures in
    sym (digit_full c.args.base c.loop-b.sum c.loop-b.b-index c.args.text.now c.loop-b-test.true (omega arith) c.if-sum-ge1152921504606846976.true) ∙ c.loop-b.invariant

-- the number so far times the base
room : (s b : ℕ) → s < 1152921504606846976 → b ≤ 16 → s * b ≤ 1152921504606846975 * 16
room s b h k = mul-le-mul {n₂ = 1152921504606846975} {m₂ = 16} (omega arith) (omega arith)

pub overflow_mul-sum : goal.overflow_mul-sum
overflow_mul-sum c = omega (arith, room c.loop-b.sum c.args.base (omega arith) (omega arith))

pub overflow_add-sum : goal.overflow_add-sum
overflow_add-sum c = let d = c.in_ok-d.ensures in omega (arith, room c.loop-b.sum c.args.base (omega arith) (omega arith))

pub loop-b-preserved : goal.loop-b-preserved
loop-b-preserved c =
    let d = c.in_ok-d.ensures in
    rw d.1 (sym (digit-next c.args.base c.loop-b.sum c.loop-b.b-index c.args.text.now c.loop-b-test.true (omega arith) c.if-sum-ge1152921504606846976.false) ∙ c.loop-b.invariant)

pub returns : goal.returns
returns c = sym (digits_end c.args.base c.loop-b.sum c.loop-b.b-index c.args.text.now c.loop-b-test.false) ∙ c.loop-b.invariant
