use mathlib.Core.Path.{◌≡◌, refl}
use lib.Ieee.{binary32, of_bits, round}
use borrow.Author.Tests.{eq-eqb, ne_eqb}
use Rattle.grade.specs.Levels.{level_of, low_level, high_level}
use Rattle.grade.proofs.levels.level.Goals as goal

-- `grade::levels::level` meets its contract: the fractions are the constants.

low-is : of_bits binary32 1045220557 ≡ low_level
unfolding of_bits round
low-is = refl

high_is : of_bits binary32 1063675494 ≡ high_level
unfolding of_bits round
high_is = refl

pub returns-then-n-eq1 : goal.returns-then-n-eq1
unfolding level_of
returns-then-n-eq1 c = simp (eq-eqb _ _ c.if-n-eq1.true, low-is)

pub returns : goal.returns
unfolding level_of
returns c = simp (ne_eqb _ _ c.if-n-eq1.false, low-is, high_is)
