-- Laws: what the steps of fill_quad rest on: the list's corners by place, the sign of the area, the ends of a list.
use Rattle.std.specs.Prelude.{◌≡◌, refl, Bool, true, false, cond, ◌⊎◌, List, [], ◌∷◌, ◌++◌, ℕ, suc, ◌+◌, ◌≤◌, ◌<◌, length, get_or, take, ℤ, pos, negsuc, ◌≤ℤ◌, ◌<ℤ◌}
use Rattle.std.proofs.Math.Path.{sym}
use Rattle.std.proofs.Common.{◌∙◌, ap, arith, inl, inr, lt-ltb, le-ltb, add-one, take-suc, take_all, to_z, of_z}
use Rattle.std.specs.Int.Signed.{le_z, lt_z}
use Rattle.std.specs.Int.{w32}
use Rattle.laws.specs.Bound.{Bounded}
use Rattle.laws.specs.Bounds.{arg, ldw}
use Rattle.laws.specs.Parts.{zord}
use Rattle.laws.specs.Order.{≤ℤ-or-<ℤ, <ℤ→≤ℤ}
use Rattle.whole.specs.Whole.{lesser, greater}
use Rattle.whole.specs.WholeLaws.{lesser_low, lesser_high, greater_low, greater_high}
use Rattle.polygon.specs.Polygon.{at, side, area2, corners, least_of, greatest_of, InRange, ExtentOfSays}
use Rattle.polygon.specs.Steps.{Placed, sign_of, next_of}

-- ---- the corner after i
pub next_in : (n i : ℕ) → i + 1 < n → i + 1 ≡ next_of n i
next_in n i h = sym (ap (λ (b : Bool). cond b (i + 1) 0) (lt-ltb (i + 1) n h))

pub next-out : (n i : ℕ) → n ≤ i + 1 → 0 ≡ next_of n i
next-out n i h = sym (ap (λ (b : Bool). cond b (i + 1) 0) (le-ltb (i + 1) n h))

-- ---- area2 of two lists of three or more
pub area2-at : (xs ys : List ℤ) → length ys ≡ length xs → 3 ≤ length xs
    → side (at (get_or xs 0 (pos 0)) (get_or ys 0 (pos 0))) (at (get_or xs 1 (pos 0)) (get_or ys 1 (pos 0))) (at (get_or xs 2 (pos 0)) (get_or ys 2 (pos 0))) ≡ area2 (corners xs ys)
area2-at (a ∷ b ∷ d ∷ xs) (e ∷ f ∷ g ∷ ys) h l = refl
area2-at (a ∷ b ∷ d ∷ xs) (e ∷ f ∷ []) h l = absurd (omega arith)
area2-at (a ∷ b ∷ d ∷ xs) (e ∷ []) h l = absurd (omega arith)
area2-at (a ∷ b ∷ d ∷ xs) [] h l = absurd (omega arith)
area2-at (a ∷ b ∷ []) ys h l = absurd (omega arith)
area2-at (a ∷ []) ys h l = absurd (omega arith)
area2-at [] ys h l = absurd (omega arith)

-- ---- the sign of the area
pub sign_above : (area : ℤ) → lt_z (pos 0) area ≡ true → pos 1 ≡ sign_of area
sign_above area e = rw e refl

pub sign_below : (area : ℤ) → lt_z (pos 0) area ≡ false → negsuc 0 ≡ sign_of area
sign_below area e = rw e refl

pub sign_bounded : (area : ℤ) → Bounded 1 (sign_of area)
sign_bounded area = by (lt_z (pos 0) area)
  where
    by : (b : Bool) → Bounded 1 (cond b (pos 1) (negsuc 0))
    by true = record { within = omega arith }
    by false = record { within = omega arith }

-- ---- a corner as it is read from the two lists
module _ (xs ys : List ℤ) (r : InRange xs ys) (i : ℕ) where
  pub corner_placed : Placed (at (to_z w32 (of_z w32 (get_or xs i (pos 0)))) (to_z w32 (of_z w32 (get_or ys i (pos 0)))))
  corner_placed = record { x = arg tt (ldw w32 tt (r.x i)); y = arg tt (ldw w32 tt (r.y i)) }

-- ---- the least and the greatest of a list, number by number
lesser_assoc : (a b c : ℤ) → lesser (lesser a b) c ≡ lesser a (lesser b c)
lesser_assoc a b c = by (≤ℤ-or-<ℤ a b) (≤ℤ-or-<ℤ b c)
  where
    by : (a ≤ℤ b) ⊎ (b <ℤ a) → (b ≤ℤ c) ⊎ (c <ℤ b) → lesser (lesser a b) c ≡ lesser a (lesser b c)
    by (inl h) (inl l) = rw (lesser_low a b h, lesser_low b c l) (lesser_low a c (omega (arith, zord)) ∙ sym (lesser_low a b h))
    by (inl h) (inr l) = rw (lesser_low a b h, lesser_high b c (<ℤ→≤ℤ l)) refl
    by (inr h) (inl l) = rw (lesser_high a b (<ℤ→≤ℤ h), lesser_low b c l) (sym (lesser_high a b (<ℤ→≤ℤ h)))
    by (inr h) (inr l) = rw (lesser_high a b (<ℤ→≤ℤ h), lesser_high b c (<ℤ→≤ℤ l)) (sym (lesser_high a c (omega (arith, zord))))

greater_assoc : (a b c : ℤ) → greater (greater a b) c ≡ greater a (greater b c)
greater_assoc a b c = by (≤ℤ-or-<ℤ a b) (≤ℤ-or-<ℤ b c)
  where
    by : (a ≤ℤ b) ⊎ (b <ℤ a) → (b ≤ℤ c) ⊎ (c <ℤ b) → greater (greater a b) c ≡ greater a (greater b c)
    by (inl h) (inl l) = rw (greater_high a b h, greater_high b c l) (sym (greater_high a c (omega (arith, zord))))
    by (inl h) (inr l) = rw (greater_high a b h, greater_low b c (<ℤ→≤ℤ l)) (sym (greater_high a b h))
    by (inr h) (inl l) = rw (greater_low a b (<ℤ→≤ℤ h), greater_high b c l) refl
    by (inr h) (inr l) = rw (greater_low a b (<ℤ→≤ℤ h), greater_low b c (<ℤ→≤ℤ l)) (greater_low a c (omega (arith, zord)) ∙ sym (greater_low a b (<ℤ→≤ℤ h)))

least_append : (a : ℤ) (r : List ℤ) (z : ℤ) → least_of (a ∷ (r ++ z ∷ [])) ≡ lesser (least_of (a ∷ r)) z
unfolding least_of
least_append a [] z = refl
least_append a (b ∷ r) z = ap (lesser a) (least_append b r z) ∙ sym (lesser_assoc a (least_of (b ∷ r)) z)

greatest_append : (a : ℤ) (r : List ℤ) (z : ℤ) → greatest_of (a ∷ (r ++ z ∷ [])) ≡ greater (greatest_of (a ∷ r)) z
unfolding greatest_of
greatest_append a [] z = refl
greatest_append a (b ∷ r) z = ap (greater a) (greatest_append b r z) ∙ sym (greater_assoc a (greatest_of (b ∷ r)) z)

module _ (a : ℤ) (r : List ℤ) (i : ℕ) where
  step : i < length r → take (i + 1) r ≡ take i r ++ get_or r i (pos 0) ∷ []
  step h = ap (λ (n : ℕ). take n r) (add-one i) ∙ take-suc r i (pos 0) h

  pub least_more : i < length r → lesser (least_of (a ∷ take i r)) (get_or r i (pos 0)) ≡ least_of (a ∷ take (i + 1) r)
  least_more h = sym (ap (λ (t : List ℤ). least_of (a ∷ t)) (step h) ∙ least_append a (take i r) (get_or r i (pos 0)))

  pub greatest_more : i < length r → greater (greatest_of (a ∷ take i r)) (get_or r i (pos 0)) ≡ greatest_of (a ∷ take (i + 1) r)
  greatest_more h = sym (ap (λ (t : List ℤ). greatest_of (a ∷ t)) (step h) ∙ greatest_append a (take i r) (get_or r i (pos 0)))

pub extent_none : (zs : List ℤ) → length zs ≡ 0 → ExtentOfSays zs (pos 0) (pos 0)
unfolding least_of greatest_of
extent_none [] h = record { low = refl; high = refl }
extent_none (a ∷ r) h = absurd (omega arith)

-- of all numbers after the first
pub extent-all : (a : ℤ) (r : List ℤ) (i : ℕ) (x y : ℤ) → length r ≤ i → x ≡ least_of (a ∷ take i r) → y ≡ greatest_of (a ∷ take i r) → ExtentOfSays (a ∷ r) x y
extent-all a r i x y h f g = record {
  low = f ∙ ap (λ (t : List ℤ). least_of (a ∷ t)) (take_all i r h);
  high = g ∙ ap (λ (t : List ℤ). greatest_of (a ∷ t)) (take_all i r h);
}

-- both are within what bounds every number of the list
one_of : {n : ℕ} (b : Bool) {x y : ℤ} → Bounded n x → Bounded n y → Bounded n (cond b x y)
one_of true f g = f
one_of false f g = g

pub least_bounded : {n : ℕ} (zs : List ℤ) → ((i : ℕ) → Bounded n (get_or zs i (pos 0))) → Bounded n (least_of zs)
unfolding least_of
least_bounded [] f = f 0
least_bounded (a ∷ []) f = f 0
least_bounded (a ∷ b ∷ r) f = one_of (le_z a (least_of (b ∷ r))) (f 0) (least_bounded (b ∷ r) (λ i. f (suc i)))

pub greatest_bounded : {n : ℕ} (zs : List ℤ) → ((i : ℕ) → Bounded n (get_or zs i (pos 0))) → Bounded n (greatest_of zs)
unfolding greatest_of
greatest_bounded [] f = f 0
greatest_bounded (a ∷ []) f = f 0
greatest_bounded (a ∷ b ∷ r) f = one_of (le_z a (greatest_of (b ∷ r))) (greatest_bounded (b ∷ r) (λ i. f (suc i))) (f 0)
