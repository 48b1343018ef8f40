use Rattle.std.proofs.Common.{◌≡◌, ℕ, ◌+◌, ◌-◌, ◌*◌, ◌/◌, ◌%◌, ◌^◌, ◌≤◌, sym, ap, ◌∙◌, lt_of_le_of_lt, mod-eq_of_lt, one-mul, arith, lit<, pow_pos, pow_mono}
use Rattle.float.specs.Rounding.{closest_shift}
use Rattle.float.proofs.closest_shift.Goals as goal

-- Adding half a unit less one, and one more at an odd quotient, and cutting: `closest_shift`.

-- 1 << k does not wrap
power : (k : ℕ) → k ≤ 62 → (1 * 2 ^ k) % 2 ^ 64 ≡ 2 ^ k
power k h = ap (λ (x : ℕ). x % 2 ^ 64) (one-mul (2 ^ k)) ∙ mod-eq_of_lt (lt_of_le_of_lt (pow_mono h) (lit< tt))

pub overflow_sub-result : goal.overflow_sub-result
overflow_sub-result c = omega (arith, power c.args.k c.requires.1, pow_pos c.args.k)

pub overflow_add-result : goal.overflow_add-result
overflow_add-result c = omega (arith, power c.args.k c.requires.1, pow_mono c.requires.1)

pub overflow_add-result-3 : goal.overflow_add-result-3
overflow_add-result-3 c = omega (arith, power c.args.k c.requires.1, pow_mono c.requires.1)

pub returns : goal.returns
returns c = ap (λ (h : ℕ). (c.args.q + (h - 1) + c.args.q / 2 ^ (c.args.k + 1) % 2) / 2 ^ (c.args.k + 1)) (power c.args.k c.requires.1) ∙ sym (closest_shift c.args.q c.args.k)
