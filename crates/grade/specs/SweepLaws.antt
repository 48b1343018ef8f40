-- Laws: what is worked out from the first level on is the first level with the strictly smallest change, or none is below infinity.
use Rattle.std.specs.Prelude.{◌≡◌, Bool, true, false, not, List, ◌⊎◌, T, Float, Option, Some, None, unwrap_or}
use Rattle.std.proofs.lemmas.Option.{none-some}
use Rattle.std.proofs.Math.Path.{refl}
use Rattle.std.proofs.Common.{sym, ◌∙◌, ap, subst, inl, inr, ⊎_elim, arith}
use Prim.Native.Nat.{ℕ, zero, suc, ◌+◌, ◌≤◌, ◌<◌}
use Rattle.std.proofs.Math.Numerals.{add-one}
use Rattle.std.proofs.Math.Decide.{dec_le}
use Rattle.std.specs.Float.{inf}
use Rattle.std.specs.Float.Ieee.{lt, le}
use Rattle.laws.specs.Bools.{is_true, true_is, true_or_false}
use Rattle.laws.specs.Fit.{no_both}
use Rattle.float.specs.Within.{nought}
use Rattle.float.specs.OrderLaws.{le_is, lt_skip, lt_numbers, lt_asym, lt_trans, le_numbers}
use Rattle.sums.specs.declared.ShapeSums.{ShapeSums}
use Rattle.grade.specs.Finalize.{no_score, finalized}
use Rattle.grade.specs.FinalizeLaws.{finalized-none}
use Rattle.grade.specs.declared.Score.{Score}
use Rattle.grade.specs.Swept.{level, change_of, swept_at, swept, SweepSays}
use Rattle.grade.specs.Sweep.{Best, Found, nowhere, at, change_at, better, best_of}

pub SweepSays-unique : (s : ShapeSums) (levels : List Float) (n : ℕ) (r q : Score) → SweepSays s levels n r → SweepSays s levels n q → r ≡ q
SweepSays-unique s levels n r q f g = f ∙ sym g

-- no change is below infinity, or i is the best
abbrev pub BestAt : (ℕ → Float) → ℕ → Found → Type 0
BestAt change n nowhere = (j : ℕ) → j < n → lt (change j) (inf false) ≡ false
BestAt change n (at i) = Best change n i

not-true : (b : Bool) → T (not b) → b ≡ false
not-true false h = refl
not-true true h = absurd h

false_not : (b : Bool) → b ≡ false → T (not b)
false_not false h = tt
false_not true h = no_both refl h

-- c is below d, and a is not: then a is neither below c nor the same
not_below : (a c d : Float) → lt c d ≡ true → lt a d ≡ false → lt a c ≡ false
not_below a c d h g =
    ⊎_elim
    (λ (y : lt a c ≡ true). no_both (is_true (lt a d) (lt_trans a c d (true_is (lt a c) y) (true_is (lt c d) h))) g)
    (λ (n : lt a c ≡ false). n)
    (true_or_false (lt a c))

not_same : (a c d : Float) → lt c d ≡ true → lt a d ≡ false → le a c ≡ false
not_same a c d h g =
    ⊎_elim
    (λ (y : le a c ≡ true).
    let n = le_numbers a c (true_is (le a c) y) in
    let below : T (lt c a) = lt_skip c d a n.0 (true_is (lt c d) h) (false_not (lt a d) g) in
    no_both (is_true (lt c a) below) (not-true (lt c a) (subst T (le_is a c n.0 n.1) (true_is (le a c) y))))
    (λ (n : le a c ≡ false). n)
    (true_or_false (le a c))

itself : (a : Float) → lt a a ≡ false
itself a = ⊎_elim (λ (y : lt a a ≡ true). not-true (lt a a) (lt_asym a a (true_is (lt a a) y))) (λ (n : lt a a ≡ false). n) (true_or_false (lt a a))

module _ (change : ℕ → Float) where
  -- all levels before k were no lower than the best so far
  abbrev Passed : ℕ → Float → Type 0
  Passed k d = (j : ℕ) → j < k → lt (change j) d ≡ false

  -- level k is lower than the best so far: it is the best of k + 1
  taken : (k : ℕ) (d : Float) → lt d (inf false) ≡ true ⊎ (d ≡ inf false) → lt (change k) d ≡ true → Passed k d → Best change (suc k) k
  taken k d fin h p = record {
    below = omega arith;
    finite = ⊎_elim
        (λ (l : lt d (inf false) ≡ true). is_true (lt (change k) (inf false)) (lt_trans (change k) d (inf false) (true_is (lt (change k) d) h) (true_is (lt d (inf false)) l)))
        (λ (e : d ≡ inf false). subst (λ (x : Float). lt (change k) x ≡ true) e h) fin;
    least = λ j l. by j l (dec_le k j);
    first = λ j l. not_same (change j) (change k) d h (p j l);
  }
    where
      by : (j : ℕ) → j < suc k → Dec (k ≤ j) → lt (change j) (change k) ≡ false
      by j l (yes g) = let e : j ≡ k = omega arith in subst (λ (i : ℕ). lt (change i) (change k) ≡ false) (sym e) (itself (change k))
      by j l (no g) = not_below (change j) (change k) d h (p j (omega arith))

  -- what the fold gives is what is meant
  pub best_means : (n : ℕ) → BestAt change n (best_of change n)
  unfolding best_of
  best_means zero = λ j l. absurd (omega arith)
  best_means (suc k) = more k (best_of change k) (lt (change k) (change_at change (best_of change k))) refl (best_means k)
    where
      passed_of : (k : ℕ) (f : Found) → BestAt change k f → Passed k (change_at change f)
      passed_of k nowhere b = b
      passed_of k (at i) b = b.least

      finite_of : (k : ℕ) (f : Found) → BestAt change k f → (lt (change_at change f) (inf false) ≡ true) ⊎ (change_at change f ≡ inf false)
      finite_of k nowhere b = inr refl
      finite_of k (at i) b = inl b.finite

      kept : (k : ℕ) (f : Found) → lt (change k) (change_at change f) ≡ false → BestAt change k f → BestAt change (suc k) f
      kept k nowhere h b = λ j l. by j l (dec_le k j)
        where
          by : (j : ℕ) → j < suc k → Dec (k ≤ j) → lt (change j) (inf false) ≡ false
          by j l (yes g) = let e : j ≡ k = omega arith in subst (λ (i : ℕ). lt (change i) (inf false) ≡ false) (sym e) h
          by j l (no g) = b j (omega arith)
      kept k (at i) h b = record { below = omega (arith, b.below); finite = b.finite; least = λ j l. by j l (dec_le k j); first = b.first }
        where
          by : (j : ℕ) → j < suc k → Dec (k ≤ j) → lt (change j) (change i) ≡ false
          by j l (yes g) = let e : j ≡ k = omega arith in subst (λ (m : ℕ). lt (change m) (change i) ≡ false) (sym e) h
          by j l (no g) = b.least j (omega arith)

      more : (k : ℕ) (f : Found) (b : Bool) → lt (change k) (change_at change f) ≡ b → BestAt change k f → BestAt change (suc k) (better b k f)
      more k f true h b = taken k (change_at change f) (finite_of k f b) h (passed_of k f b)
      more k f false h b = kept k f h b

-- and nothing else is: two best levels are the same
pub best_unique : (change : ℕ → Float) (n i j : ℕ) → Best change n i → Best change n j → i ≡ j
best_unique change n i j a b = by (dec_le i j) (dec_le j i)
  where
    -- an earlier best level is at most the later one, which the later one rules out
    clash : (i j : ℕ) → Best change n i → Best change n j → i < j → ⊥
    clash i j a b l =
        let ni = (lt_numbers (change i) (inf false) (true_is (lt (change i) (inf false)) a.finite)).0 in
        let nj = (lt_numbers (change j) (inf false) (true_is (lt (change j) (inf false)) b.finite)).0 in
        let e : le (change i) (change j) ≡ true = le_is (change i) (change j) ni nj ∙ ap not (a.least j b.below) in
        no_both e (b.first i l)

    by : Dec (i ≤ j) → Dec (j ≤ i) → i ≡ j
    by (yes h) (yes l) = omega arith
    by (no h) l = absurd (clash j i b a (omega arith))
    by (yes h) (no l) = absurd (clash i j a b (omega arith))

-- ---- a step of the code
module _ (change : ℕ → Float) (k : ℕ) where
  pub best_of-taken : lt (change k) (change_at change (best_of change k)) ≡ true → best_of change (k + 1) ≡ at k
  unfolding best_of
  best_of-taken h = rw add-one (ap (λ (b : Bool). better b k (best_of change k)) h)

  pub best_of-kept : lt (change k) (change_at change (best_of change k)) ≡ false → best_of change (k + 1) ≡ best_of change k
  unfolding best_of
  best_of-kept h = rw add-one (ap (λ (b : Bool). better b k (best_of change k)) h)

-- ---- changes that are all the same, and below infinity: the first level is the best. So it is where nothing is covered: each change is +0
pub swept-nothing : (s : ShapeSums) (levels : List Float) (n : ℕ) → s.count ≡ 0 → 1 ≤ n → no_score (level levels 0) 0 ≡ swept s levels n
unfolding swept no_score lt best_of
swept-nothing s levels zero z h = absurd (omega arith)
swept-nothing s levels (suc k) z h = finalized-none s (level levels 0) z ∙ sym (ap (swept_at s levels) (first_of_equals (change_of s levels) nought nothing refl k))
  where
    nothing : (i : ℕ) → change_of s levels i ≡ nought
    nothing i = sym (ap (λ (r : Score). r.change) (finalized-none s (level levels i) z))

    stays : (change : ℕ → Float) (d : Float) → ((i : ℕ) → change i ≡ d) → (k : ℕ) (f : Found) → f ≡ at 0 → better (lt (change k) (change_at change f)) k f ≡ at 0
    stays change d same k f e = simp (e, same, itself)

    first_of_equals : (change : ℕ → Float) (d : Float) → ((i : ℕ) → change i ≡ d) → lt d (inf false) ≡ true → (k : ℕ) → best_of change (suc k) ≡ at 0
    first_of_equals change d same finite zero = simp (same, finite)
    first_of_equals change d same finite (suc k) = stays change d same (suc k) (best_of change (suc k)) (first_of_equals change d same finite k)

-- ---- the code's answer: the best level itself, if there is one
abbrev pub level_found : List Float → Found → Option Float
level_found levels nowhere = None
level_found levels (at i) = Some (level levels i)

module _ (s : ShapeSums) (levels : List Float) where
  pub swept_none : (f : Found) → None ≡ level_found levels f → no_score (level levels 0) s.count ≡ swept_at s levels f
  swept_none nowhere e = refl
  swept_none (at i) e = absurd (none-some (level levels i) e)

  pub swept-some : (f : Found) (a : Float) (r : Score) → Some a ≡ level_found levels f → r ≡ finalized s a → r ≡ swept_at s levels f
  swept-some nowhere a r e g = absurd (none-some a (sym e))
  swept-some (at i) a r e g = g ∙ ap (λ (o : Option Float). finalized s (unwrap_or o a)) e
