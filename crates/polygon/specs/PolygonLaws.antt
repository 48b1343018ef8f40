-- Laws: each promise has one answer; and what a caller shows of corners that it has one by one.
use Rattle.std.specs.Prelude.{◌≡◌, List, [], ◌∷◌, ℕ, zero, suc, ◌≤◌, length, get_or, ℤ, pos}
use Rattle.std.proofs.Common.{sym, ◌∙◌, arith}
use Rattle.laws.specs.Bound.{Bounded}
use Rattle.polygon.specs.Polygon.{InRange, ExtentOfSays, FillRunsSays}

pub FillRunsSays-unique : (xs ys : List ℤ) (w h : ℕ) (r s : List ℕ) → FillRunsSays xs ys w h r → FillRunsSays xs ys w h s → r ≡ s
FillRunsSays-unique xs ys w h r s p q = p ∙ sym q

pub ExtentOfSays-unique : (zs : List ℤ) (a b c d : ℤ) → ExtentOfSays zs a b → ExtentOfSays zs c d → (a ≡ c) × (b ≡ d)
ExtentOfSays-unique zs a b c d p q = (p.low ∙ sym q.low, p.high ∙ sym q.high)

-- ---- corners one by one
abbrev pub Each : ℕ → List ℤ → Type 0
Each n [] = Unit {0}
Each n (a ∷ r) = Bounded n a × Each n r

each_at : {n : ℕ} (l : List ℤ) → Each n l → (i : ℕ) → Bounded n (get_or l i (pos 0))
each_at [] h i = record { within = omega arith }
each_at (a ∷ r) h zero = h.0
each_at (a ∷ r) h (suc i) = each_at r h.1 i

pub in_range : (xs ys : List ℤ) → length ys ≡ length xs → 3 ≤ length xs → Each 8191 xs → Each 8191 ys → InRange xs ys
in_range xs ys e l f g = record { same = e; three = l; x = each_at xs f; y = each_at ys g }
