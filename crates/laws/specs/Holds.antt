-- Laws: every test of a list holds, by the place of each; and convexity of tests that hold together.
use Rattle.std.specs.Prelude.{◌≡◌, refl, Bool, true, ◌&&◌, List, [], ◌∷◌, ℕ, zero, suc, ◌<◌, length, get_or}
use Rattle.std.proofs.Common.{arith}
use Rattle.laws.specs.Runs.{all_hold}
use Rattle.laws.specs.EndsLaws.{Convex}
use Rattle.laws.specs.Bools.{and_left, and_right, and_both}

pub hold_at : (l : List Bool) → all_hold l ≡ true → (i : ℕ) (d : Bool) → i < length l → get_or l i d ≡ true
hold_at [] h i d k = absurd (omega arith)
hold_at (t ∷ r) h zero d k = and_left t (all_hold r) h
hold_at (t ∷ r) h (suc i) d k = hold_at r (and_right t (all_hold r) h) i d (omega arith)

pub all_hold_lem : (l : List Bool) (d : Bool) → ((i : ℕ) → i < length l → get_or l i d ≡ true) → all_hold l ≡ true
all_hold_lem [] d f = refl
all_hold_lem (t ∷ r) d f = and_both t (all_hold r) (f 0 (omega arith)) (all_hold_lem r d (λ i k. f (suc i) (omega arith)))

pub and_convex : (p q : ℕ → Bool) → Convex p → Convex q → Convex (λ x. p x && q x)
and_convex p q f g a i b l m s t =
    and_both (p i) (q i)
    (f a i b l m (and_left (p a) (q a) s) (and_left (p b) (q b) t))
    (g a i b l m (and_right (p a) (q a) s) (and_right (p b) (q b) t))

pub const_convex : (t : Bool) → Convex (λ x. t)
const_convex t a i b l m s u = s
