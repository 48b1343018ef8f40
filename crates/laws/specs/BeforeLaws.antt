-- Laws: ordered sums: one more, equal terms, and a part of every number by itself.
use Rattle.std.specs.Prelude.{◌≡◌}
use Rattle.std.proofs.Math.Path.{refl}
use Rattle.std.proofs.Common.{sym, ap, ◌∙◌, add-one, arith}
use Prim.Native.Nat.{ℕ, zero, suc, ◌+◌, ◌<◌}
use Rattle.laws.specs.Before.{before}

module _ {E : Type 0} (none : E) (plus : E → E → E) where
  pub before-none : (f : ℕ → E) → before none plus f 0 ≡ none
  unfolding before
  before-none f = refl

  pub before_more : (f : ℕ → E) (x : ℕ) → plus (before none plus f x) (f x) ≡ before none plus f (x + 1)
  unfolding before
  before_more f x = rw (add-one x) refl

  -- only the terms before x count
  pub before_same : (f g : ℕ → E) (x : ℕ) → ((i : ℕ) → i < x → f i ≡ g i) → before none plus f x ≡ before none plus g x
  unfolding before
  before_same f g zero e = refl
  before_same f g (suc x) e = rw (before_same f g x (λ i l. e i (omega arith)), e x (omega arith)) refl

-- what adds up by itself: the sum of the parts is the part of the sum
pub before-part : {E F : Type 0} (none : E) (plus : E → E → E) (none' : F) (plus' : F → F → F) (part : E → F)
    → part none ≡ none' → ((a b : E) → part (plus a b) ≡ plus' (part a) (part b))
    → (f : ℕ → E) (x : ℕ) → part (before none plus f x) ≡ before none' plus' (λ i. part (f i)) x
unfolding before
before-part none plus none' plus' part z p f zero = z
before-part none plus none' plus' part z p f (suc x) =
    p (before none plus f x) (f x) ∙ ap (λ s. plus' s (part (f x))) (before-part none plus none' plus' part z p f x)
