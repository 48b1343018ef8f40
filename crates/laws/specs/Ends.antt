-- Rules: the numbers below n at which a test holds: how many, the first and the last. Over any test.
use Rattle.std.specs.Prelude.{Bool, true, false, ℕ, zero, suc, ◌+◌}

-- the first and the last, or none
pub data Ends : Type 0 where
  none : Ends
  ends : ℕ → ℕ → Ends

abbrev pub grow : Bool → ℕ → Ends → Ends
grow false x e = e
grow true x none = ends x x
grow true x (ends l r) = ends l x

unfoldable pub ends_of : (ℕ → Bool) → ℕ → Ends
ends_of p zero = none
ends_of p (suc n) = grow (p n) n (ends_of p n)

-- as a run of columns, left <= x < right; none is 0, 0
abbrev pub left_of : Ends → ℕ
left_of none = 0
left_of (ends l r) = l

abbrev pub right_of : Ends → ℕ
right_of none = 0
right_of (ends l r) = r + 1

-- how many
abbrev pub bit : Bool → ℕ
bit true = 1
bit false = 0

unfoldable pub how_many : (ℕ → Bool) → ℕ → ℕ
how_many p zero = 0
how_many p (suc n) = how_many p n + bit (p n)

-- f 0 + f 1 + .. over the numbers below n
unfoldable pub total : (ℕ → ℕ) → ℕ → ℕ
total f zero = 0
total f (suc n) = total f n + f n
