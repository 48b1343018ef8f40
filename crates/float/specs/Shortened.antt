-- Rules: how the code of `narrow_bits` drops the last 29 digits of a pattern: half a unit less one is added, one more where the digit before is odd, and the rest cut off.
use Rattle.std.specs.Prelude.{◌≡◌, ℕ, ◌+◌, ◌*◌, ◌/◌, ◌%◌, ◌<◌, ◌≤◌, ◌⊎◌}

abbrev pub shortened : ℕ → ℕ
shortened u = (u + 0x0fff_ffff + u / 0x2000_0000 % 2) / 0x2000_0000

-- the same with the digits left 0, as a score rounds its colours
abbrev pub masked : ℕ → ℕ
masked b = (b + 0x0fff_ffff + b / 0x2000_0000 % 2) / 0x2000_0000 * 0x2000_0000

-- where that is the narrowed number's pattern: 0, or from f32's normal range up to below 2
abbrev pub Plain : ℕ → Type 0
Plain b = (b ≡ 0) ⊎ ((0x3810_0000_0000_0000 ≤ b) × (b < 0x4000_0000_0000_0000))
