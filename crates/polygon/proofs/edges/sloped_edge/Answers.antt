use native.Mathlib.Omega.{arith}
use native.Mathlib.Nat.{mod-eq_of_lt, pow-le-pow_right}
use mathlib.Core.Path.{◌≡◌, refl, ap, ◌∙◌}
use Prim.Native.Nat.{ℕ, ◌+◌, ◌*◌, ◌/◌, ◌%◌, ◌^◌, ◌<◌, ◌≤◌}
use lib.IntN.{ℤ, pos, nat_abs}
use lib.Signed.{lt_z}
use mir.Syntax.{w32}
use mir.Facts.{to_z-of_z}
use Rattle.polygon.specs.Steps.{digits_of}
use Rattle.polygon.specs.EdgeLaws.{abs-some, digits_few, times_slim, cuts_half}
use Rattle.laws.specs.Fit.{read}
use Rattle.laws.specs.Bounds.{arg, ld}
use Rattle.polygon.proofs.edges.sloped_edge.Goals as goal
use Rattle.polygon.proofs.edges.sloped_edge.Goals.{After-abs_i32-height, After-digits_of-digits}

-- `polygon::sloped_edge` meets its contract: the numbers are those that the law asks for, by the sign of the slope.

-- the height
module _ (c : After-abs_i32-height) where
  abbrev tall : ℕ
  tall = nat_abs c.args.a

  is-tall : c.abs_i32-height.result ≡ tall
  is-tall = rw (to_z-of_z c.ranges.a) at c.abs_i32-height.ensures

  above : 0 < tall
  above = abs-some c.args.a c.requires.some

  few : tall ≤ 16382
  few = c.requires.slope.within

-- the digits
digits-is : (c : After-digits_of-digits) → c.digits_of-digits.result ≡ digits_of (tall c.before)
digits-is c = c.digits_of-digits.ensures ∙ ap digits_of (is-tall c.before)

pub overflow_shl-power : goal.overflow_shl-power
overflow_shl-power c = omega (arith, digits-is (goal.at.overflow_shl-power c).After-digits_of-digits, digits_few (tall (goal.at.overflow_shl-power c).After-abs_i32-height))

-- the power, and the number that stands for the division
module _ (c : After-digits_of-digits) where
  abbrev a : After-abs_i32-height
  a = c.before

  power-is : (1 * 2 ^ c.digits_of-digits.result) % 18446744073709551616 ≡ 2 ^ digits_of (tall a)
  power-is =
      ap (λ (k : ℕ). (1 * 2 ^ k) % 18446744073709551616) (digits-is c)
      ∙ mod-eq_of_lt (omega (arith, pow-le-pow_right {n = 2} (omega arith) (digits_few (tall a))))
      ∙ omega arith

  times-is : (1 * 2 ^ c.digits_of-digits.result) % 18446744073709551616 / a.abs_i32-height.result + 1 ≡ 2 ^ digits_of (tall a) / tall a + 1
  times-is =
      ap (λ (h : ℕ). (1 * 2 ^ c.digits_of-digits.result) % 18446744073709551616 / h + 1) (is-tall a) ∙ ap (λ (n : ℕ). n / tall a + 1) power-is

  slim : (1 * 2 ^ c.digits_of-digits.result) % 18446744073709551616 / a.abs_i32-height.result + 1 < 4294967296
  slim = omega (arith, times-is, times_slim (tall a) (above a) (few a))

pub nonzero_div-times : goal.nonzero_div-times
nonzero_div-times c = omega (arith, is-tall (a (goal.at.nonzero_div-times c).After-digits_of-digits), above (a (goal.at.nonzero_div-times c).After-digits_of-digits))

pub overflow_add-times : goal.overflow_add-times
overflow_add-times c = record { fits = omega (arith, slim (goal.at.overflow_add-times c).After-digits_of-digits) }

pub overflow_cast-times-2 : goal.overflow_cast-times-2
overflow_cast-times-2 c = record { fits = omega (arith, slim (goal.at.overflow_cast-times-2 c).After-digits_of-digits) }

pub overflow_mul-most : goal.overflow_mul-most
overflow_mul-most c = omega (arith, is-tall (a (goal.at.overflow_mul-most c).After-digits_of-digits), few (a (goal.at.overflow_mul-most c).After-digits_of-digits))

pub start_of-start-requires : goal.start_of-start-requires
start_of-start-requires c = (arg tt (ld c.ranges.a c.requires.slope), arg tt (ld c.ranges.c c.requires.offset))

pub step_of-step-requires : goal.step_of-step-requires
step_of-step-requires c = arg tt (ld c.ranges.s c.requires.fall)

pub returns : goal.returns
returns c =
    let t = a (goal.at.returns c).After-digits_of-digits in
    let s = t.before in
    let g = s.args in
    cuts_half g.a g.c g.s _ s.requires.some s.requires.slope s.requires.offset s.requires.fall (lt_z (pos 0) g.a) refl
    (read w32 c.start_of-start.result c.start_of-start.type_inv ∙ (rw (to_z-of_z s.ranges.a, to_z-of_z s.ranges.c) at c.start_of-start.ensures))
    (read w32 c.step_of-step.result c.step_of-step.type_inv ∙ (rw (to_z-of_z s.ranges.a, to_z-of_z s.ranges.s) at c.step_of-step.ensures))
    (ap (λ (z : ℤ). lt_z (pos 0) z) (to_z-of_z s.ranges.a)) (digits-is (goal.at.returns c).After-digits_of-digits) (times-is (goal.at.returns c).After-digits_of-digits) (ap (λ (h : ℕ). h * 257) (is-tall t))
