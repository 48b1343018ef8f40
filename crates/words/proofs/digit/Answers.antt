use native.Mathlib.Omega.{arith}
use borrow.Author.Tests.{lt-ltb, le-ltb}
use Prim.Native.Nat.{ℕ, ◌<◌, ◌≤◌, ◌-◌, ◌+◌}
use Rattle.std.specs.Prelude.{◌≡◌}
use Rattle.words.specs.Words.{digit_of}
use Rattle.words.proofs.digit.Goals as goal
use Rattle.words.proofs.digit.Goals.{in-48-to-57, in-65-to-70}

-- The match goes by the rule's tests.

low : (b : ℕ) → b < 48 → digit_of b ≡ 16
unfolding digit_of
low b h = simp (lt-ltb b 48 h)

decimal : (b : ℕ) → 48 ≤ b → b < 58 → digit_of b ≡ b - 48
unfolding digit_of
decimal b h k = simp (le-ltb b 48 h, lt-ltb b 58 k)

middle : (b : ℕ) → 58 ≤ b → b < 65 → digit_of b ≡ 16
unfolding digit_of
middle b h k = simp (le-ltb b 48 (omega arith), le-ltb b 58 h, lt-ltb b 65 k)

letter : (b : ℕ) → 65 ≤ b → b < 71 → digit_of b ≡ b - 65 + 10
unfolding digit_of
letter b h k = simp (le-ltb b 48 (omega arith), le-ltb b 58 (omega arith), le-ltb b 65 h, lt-ltb b 71 k) (omega arith)

high : (b : ℕ) → 71 ≤ b → digit_of b ≡ 16
unfolding digit_of
high b h = simp (le-ltb b 48 (omega arith), le-ltb b 58 (omega arith), le-ltb b 65 (omega arith), le-ltb b 71 h)

pub returns-in_default : goal.returns-in_default
returns-in_default c = omega (arith, low c.args.b (omega arith))

pub returns-in_default-2 : goal.returns-in_default-2
returns-in_default-2 c = omega (arith, middle c.args.b (omega arith) (omega arith))

pub returns-in_default-3 : goal.returns-in_default-3
returns-in_default-3 c = omega (arith, high c.args.b (omega arith))

pub returns-then-d-base : goal.returns-then-d-base
returns-then-d-base c =
    elim c.if-b-lt58.branch [
      | in-48-to-57 w ↦ (omega arith, omega (arith, decimal c.args.b (omega arith) (omega arith)))
      | in-65-to-70 w ↦ (omega arith, omega (arith, letter c.args.b (omega arith) (omega arith)))
    ]

pub returns-else-d-base : goal.returns-else-d-base
returns-else-d-base c =
    elim c.if-b-lt58.branch [
      | in-48-to-57 w ↦ omega (arith, decimal c.args.b (omega arith) (omega arith))
      | in-65-to-70 w ↦ omega (arith, letter c.args.b (omega arith) (omega arith))
    ]
