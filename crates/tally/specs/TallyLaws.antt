-- Laws: the steps of the sums and the total; the difference of two values within 0..1 is a number; the first numbers of a picture; each promise has one answer.
use Rattle.std.specs.Prelude.{◌≡◌, refl, Bool, true, false, not, ◌&&◌, cond, List, ℕ, ◌+◌, ◌*◌, ◌≤◌, ◌<◌, T, length, get_or, take, Float, Option, None, Some}
use Rattle.std.proofs.Common.{sym, ap, ◌∙◌, subst, ⊎_elim, lt_of_lt_of_le, le_of_eq, arith, take_all, take-take, get_or-take, length-take-le}
use Rattle.std.specs.Float.{nan, inf, fin, Format}
use Rattle.std.specs.Float.Ieee.{add, sub, neg}
use Rattle.laws.specs.Bools.{is_true, true_is, true_or_false, and_left, and_right, and_both}
use Rattle.laws.specs.Before.{before}
use Rattle.laws.specs.BeforeLaws.{before-none, before_more}
use Rattle.laws.specs.EveryLaws.{every-each, every_take}
use Rattle.laws.specs.F64.{◌⊕◌}
use Rattle.laws.specs.Fit.{no_both}
use Rattle.float.specs.Within.{nought, number, within, all_within}
use Rattle.float.specs.WithinLaws.{Says, says, within-number}
use Rattle.float.specs.MarksLaws.{sum_number}
use Rattle.tally.specs.declared.means.Sums.{Sums}
use Rattle.tally.specs.Tally.{channel_sum, sums_to, SumsWithinSays, ShareSays, squared_difference, total_of, total_to, TotalWithinSays, SquaredAnySays}

-- ---- each promise has one answer
pub SumsWithinSays-unique : (target : List Float) (n : ℕ) (r s : Option Sums) → SumsWithinSays target n r → SumsWithinSays target n s → r ≡ s
SumsWithinSays-unique target n r s p q = p ∙ sym q

pub ShareSays-unique : (sum : Float) (n : ℕ) (r s : Float) → ShareSays sum n r → ShareSays sum n s → r ≡ s
ShareSays-unique sum n r s p q = p ∙ sym q

pub TotalWithinSays-unique : (target canvas : List Float) (r s : Option Float) → TotalWithinSays target canvas r → TotalWithinSays target canvas s → r ≡ s
TotalWithinSays-unique target canvas r s p q = p ∙ sym q

pub SquaredAnySays-unique : (t c r s : Float) → SquaredAnySays t c r → SquaredAnySays t c s → r ≡ s
SquaredAnySays-unique t c r s p q = p ∙ sym q

-- ---- mean: pixel i is added
pub sum-none : (target : List Float) (ch : ℕ) → nought ≡ channel_sum target ch 0
unfolding channel_sum
sum-none target ch = sym (before-none nought ◌⊕◌ (λ i. get_or target (i * 3 + ch) nan))

pub sum_more : (target : List Float) (ch i j : ℕ) (s v : Float) → j ≡ i * 3 + ch → s ≡ channel_sum target ch i → v ≡ get_or target j nan → s ⊕ v ≡ channel_sum target ch (i + 1)
unfolding channel_sum
sum_more target ch i j s v e p q =
    ap (λ (t : Float). t ⊕ v) p
    ∙ ap (λ (t : Float). before nought ◌⊕◌ (λ k. get_or target (k * 3 + ch) nan) i ⊕ t) (q ∙ ap (λ (k : ℕ). get_or target k nan) e)
    ∙ before_more nought ◌⊕◌ (λ k. get_or target (k * 3 + ch) nan) i

abbrev pub sums_of_lem : Float → Float → Float → Sums
sums_of_lem r g b = record { red = r; green = g; blue = b }

sums_same : (r g b x y z : Float) → r ≡ x → g ≡ y → b ≡ z → sums_of_lem r g b ≡ sums_of_lem x y z
sums_same r g b x y z p q u = ap (λ (k : Float). sums_of_lem k g b) p ∙ ap (λ (k : Float). sums_of_lem x k b) q ∙ ap (λ (k : Float). sums_of_lem x y k) u

pub sums_none : (target : List Float) → sums_of_lem nought nought nought ≡ sums_to target 0
unfolding sums_to
sums_none target = sums_same nought nought nought _ _ _ (sum-none target 0) (sum-none target 1) (sum-none target 2)

-- pixel i, whose three numbers were added
pub sums-more : (target : List Float) (i : ℕ) (s : Sums) (r g b : Float) → s ≡ sums_to target i
    → r ≡ get_or target (i * 3) nan → g ≡ get_or target (i * 3 + 1) nan → b ≡ get_or target (i * 3 + 2) nan
    → sums_of_lem (s.red ⊕ r) (s.green ⊕ g) (s.blue ⊕ b) ≡ sums_to target (i + 1)
unfolding sums_to
sums-more target i s r g b p q u v =
    sums_same (s.red ⊕ r) (s.green ⊕ g) (s.blue ⊕ b) _ _ _
    (sum_more target 0 i (i * 3) s.red r (omega arith) (ap (λ (z : Sums). z.red) p) q)
    (sum_more target 1 i (i * 3 + 1) s.green g refl (ap (λ (z : Sums). z.green) p) u)
    (sum_more target 2 i (i * 3 + 2) s.blue b refl (ap (λ (z : Sums). z.blue) p) v)

-- the channels' sums
pub sums_are : (target : List Float) (n : ℕ) → sums_to target n ≡ sums_of_lem (channel_sum target 0 n) (channel_sum target 1 n) (channel_sum target 2 n)
unfolding sums_to
sums_are target n = refl

pub sums_beyond : (target : List Float) (n : ℕ) → all_within target ≡ false → SumsWithinSays target n None
sums_beyond target n e = sym (ap (λ (b : Bool). cond b (Some (sums_to target n)) None) e)

pub sums-done : (target : List Float) (n : ℕ) (s : Sums) → s ≡ sums_to target n → all_within target ≡ true → SumsWithinSays target n (Some s)
sums-done target n s p e = ap Some p ∙ sym (ap (λ (b : Bool). cond b (Some (sums_to target n)) None) e)

-- ---- total: number i is added
pub total-none : (target canvas : List Float) → nought ≡ total_to target canvas 0
unfolding total_to
total-none target canvas = sym (before-none nought ◌⊕◌ (λ i. squared_difference (get_or target i nan) (get_or canvas i nan)))

pub total-more : (target canvas : List Float) (i : ℕ) (s v : Float) → s ≡ total_to target canvas i → v ≡ squared_difference (get_or target i nan) (get_or canvas i nan) → s ⊕ v ≡ total_to target canvas (i + 1)
unfolding total_to
total-more target canvas i s v p q =
    ap (λ (t : Float). t ⊕ v) p
    ∙ ap (λ (t : Float). total_to target canvas i ⊕ t) q
    ∙ before_more nought ◌⊕◌ (λ k. squared_difference (get_or target k nan) (get_or canvas k nan)) i

pub total-all : (target canvas : List Float) (n : ℕ) (s : Float) → n ≡ length target → s ≡ total_to target canvas n → s ≡ total_of target canvas
unfolding total_to total_of
total-all target canvas n s e p = p ∙ ap (total_to target canvas) e

pub total_beyond : (target canvas : List Float) → all_within target && all_within canvas ≡ false → TotalWithinSays target canvas None
total_beyond target canvas e = sym (ap (λ (b : Bool). cond b (Some (total_of target canvas)) None) e)

pub total-done : (target canvas : List Float) (s : Float) → s ≡ total_of target canvas → all_within target && all_within canvas ≡ true → TotalWithinSays target canvas (Some s)
total-done target canvas s p e = ap Some p ∙ sym (ap (λ (b : Bool). cond b (Some (total_of target canvas)) None) e)

-- ---- the difference of two values within 0..1 is a number
pub difference_number : (f : Format) (x y : Float) → T (within x) → T (within y) → T (number (sub f x y))
unfolding sub add neg
difference_number f x y h k = go x y (says x h) (says y k)
  where
    go : (x y : Float) → Says x → Says y → T (number (sub f x y))
    go nan y p q = absurd p
    go (inf s) y p q = absurd p
    go (fin s m e) nan p q = absurd q
    go (fin s m e) (inf t) p q = absurd q
    go (fin s m e) (fin t n d) p q = sum_number f s _ (not t) _ _

-- an element of a picture within 0..1
pub within-at : (xs : List Float) (k : ℕ) → T (all_within xs) → k < length xs → T (within (get_or xs k nan))
within-at xs k h l = every-each within xs k nan h l

-- the first numbers are not within 0..1, or all are
pub first_bad : (t : List Float) (k : ℕ) → all_within (take k t) ≡ false → all_within t ≡ false
first_bad t k h =
    ⊎_elim (λ (y : all_within t ≡ true). no_both (is_true (all_within (take k t)) (every_take within k t (true_is (all_within t) y))) h) (λ (n : all_within t ≡ false). n)
    (true_or_false (all_within t))

pub first-all : (t : List Float) (k : ℕ) → length t ≤ k → T (all_within (take k t)) → all_within t ≡ true
first-all t k h p = ap all_within (sym (take_all k t h)) ∙ is_true (all_within (take k t)) p

-- of two pictures
pub part_bad : (t c : List Float) (k : ℕ) → all_within (take k t) && all_within (take k c) ≡ false → all_within t && all_within c ≡ false
part_bad t c k h =
    ⊎_elim
    (λ (y : all_within t && all_within c ≡ true).
    no_both
    (and_both (all_within (take k t)) (all_within (take k c))
    (is_true (all_within (take k t)) (every_take within k t (true_is (all_within t) (and_left (all_within t) (all_within c) y))))
    (is_true (all_within (take k c)) (every_take within k c (true_is (all_within c) (and_right (all_within t) (all_within c) y)))))
    h)
    (λ (n : all_within t && all_within c ≡ false). n)
    (true_or_false (all_within t && all_within c))

pub part-all : (t c : List Float) (k : ℕ) → length t ≤ k → length c ≤ k → T (all_within (take k t)) → T (all_within (take k c)) → all_within t && all_within c ≡ true
part-all t c k h l p q = and_both (all_within t) (all_within c) (first-all t k h p) (first-all c k l q)

-- an element of the first numbers
pub within-before : (xs : List Float) (n k : ℕ) → T (all_within (take n xs)) → k < n → n ≤ length xs → T (within (get_or xs k nan))
within-before xs n k h l m =
    subst (λ (x : Float). T (within x)) (get_or-take n xs k nan l) (within-at (take n xs) k h (lt_of_lt_of_le l (le_of_eq (sym (length-take-le n xs m)))))

pub number-before : (xs : List Float) (n k : ℕ) → T (all_within (take n xs)) → k < n → n ≤ length xs → T (number (get_or xs k nan))
number-before xs n k h l m = within-number (get_or xs k nan) (within-before xs n k h l m)

-- the first i of numbers that are within 0..1 are
pub within_first : (xs : List Float) (i n : ℕ) → i ≤ n → T (all_within (take n xs)) → T (all_within (take i xs))
within_first xs i n h p = subst (λ (l : List Float). T (all_within l)) (take-take i n xs h) (every_take within i (take n xs) p)
