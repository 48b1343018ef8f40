use Rattle.std.proofs.Common.{ℕ, ◌<◌, slice_index_or}
use Rattle.lines.specs.Inside.{IsDigit}
use Rattle.lines.proofs.all_digits.Given as goal

abbrev pub invariant-loop-c : goal.invariant-loop-c
invariant-loop-c l = (k : ℕ) → k < l.c-index → IsDigit (slice_index_or l.line k 0)
