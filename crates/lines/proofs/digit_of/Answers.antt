use native.Mathlib.Omega.{arith}
use Rattle.lines.specs.HexLaws.{digit_number, digit_capital, digit_small, digit_none}
use Rattle.lines.proofs.digit_of.Goals as goal

-- `lines::digit_of` meets its contract: each range of characters by its own law.

pub returns-in-48-to-57 : goal.returns-in-48-to-57
returns-in-48-to-57 c = digit_number _ (omega arith) (omega arith)

pub returns-in-65-to-70 : goal.returns-in-65-to-70
returns-in-65-to-70 c = digit_capital _ (omega arith) (omega arith)

pub returns-in-97-to-102 : goal.returns-in-97-to-102
returns-in-97-to-102 c = digit_small _ (omega arith) (omega arith)

pub returns-in_default : goal.returns-in_default
returns-in_default c = digit_none _ (λ d. omega arith) (λ d. omega arith) (λ d. omega arith)

pub returns-in_default-2 : goal.returns-in_default-2
returns-in_default-2 c = digit_none _ (λ d. omega arith) (λ d. omega arith) (λ d. omega arith)

pub returns-in_default-3 : goal.returns-in_default-3
returns-in_default-3 c = digit_none _ (λ d. omega arith) (λ d. omega arith) (λ d. omega arith)

pub returns-in_default-4 : goal.returns-in_default-4
returns-in_default-4 c = digit_none _ (λ d. omega arith) (λ d. omega arith) (λ d. omega arith)
