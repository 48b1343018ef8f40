-- Laws: two answers are equal; a turn of each loop, and its end.
use Rattle.std.specs.Prelude.{◌≡◌, refl, cond, List, [], ◌∷◌, ◌++◌, ℕ, suc, ◌+◌, ◌-◌, ◌≤◌, ◌<◌, length, take, set, Float}
use Rattle.std.proofs.Common.{sym, ◌∙◌, append-nil, add-one, arith, take-suc-set, take_all}
use Rattle.std.proofs.Math.Seq.{append_snoc}
use Rattle.std.specs.Prelude.{count_by}
use Rattle.std.specs.List.{zip}
use Rattle.std.proofs.Common.{ap}
use Rattle.std.proofs.lemmas.List.Sums.{sum_by-cons}
use Rattle.std.specs.Float.Ieee.{ne}
use Rattle.laws.specs.F32.{◌⊞◌}
use Rattle.figures.specs.Figures.{slope_from, differences, SlopeSays, DifferingSays}

pub SlopeSays-unique : (b : List Float) (x s : Float) (r t : List Float) → SlopeSays b x s r → SlopeSays b x s t → r ≡ t
SlopeSays-unique b x s r t p q = p ∙ sym q

pub DifferingSays-unique : (a b : List Float) (r s : ℕ) → DifferingSays a b r → DifferingSays a b s → r ≡ s
DifferingSays-unique a b r s p q = p ∙ sym q

-- ---- what is written, and the slope that is to come

slope_cons : (n m : ℕ) (x s : Float) → n ≡ suc m → slope_from n x s ≡ x ∷ slope_from m (x ⊞ s) s
unfolding slope_from
slope_cons n m x s e = rw e refl

pub slope-start : (n : ℕ) (x s : Float) → slope_from (n - 0) x s ≡ slope_from n x s
slope-start n x s =
    let e : n - 0 ≡ n = omega arith in
    rw e refl

pub slope-next : (l : List Float) (n i : ℕ) (x s : Float) → length l ≡ n → i < n
    → take (i + 1) (set l i x) ++ slope_from (n - (i + 1)) (x ⊞ s) s ≡ take i l ++ slope_from (n - i) x s
slope-next l n i x s e h =
    rw (slope_cons (n - i) (n - (i + 1)) x s (omega arith), add-one i, take-suc-set l i x (omega arith))
    (append_snoc (take i l) x (slope_from (n - suc i) (x ⊞ s) s))

pub slope-end : (l : List Float) (n i : ℕ) (x s : Float) → length l ≡ n → n ≤ i → l ≡ take i l ++ slope_from (n - i) x s
unfolding slope_from
slope-end l n i x s e h =
    let k : n - i ≡ 0 = omega arith in
    rw (k, take_all i l (omega arith)) (sym (append-nil l))

-- ---- differences are pairs that differ

pub differences-count : (a b : List Float) → differences a b ≡ count_by (λ p. ne p.0 p.1) (zip a b)
unfolding differences
differences-count [] b = refl
differences-count (x ∷ a) [] = refl
differences-count (x ∷ a) (y ∷ b) =
    ap (λ n. cond (ne x y) 1 0 + n) (differences-count a b)
    ∙ sym (sum_by-cons (λ p. cond (ne p.0 p.1) 1 0) (x, y) (zip a b))
