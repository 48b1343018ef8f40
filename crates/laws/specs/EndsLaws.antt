-- Laws: what the first and the last mean; runs of a test whose numbers are all between two of them.
use Rattle.std.specs.Prelude.{Bool, true, false, ◌≡◌, ◌⊎◌, T}
use Rattle.std.proofs.Math.Path.{refl}
use Rattle.std.proofs.Common.{sym, ◌∙◌, ap, subst, inl, inr, ⊎_elim}
use Prim.Native.Nat.{ℕ, zero, suc, ◌+◌, ◌-◌, ◌≤◌, ◌<◌}
use native.Mathlib.Omega.{arith}
use Rattle.std.proofs.Math.Decide.{dec_le}
use Rattle.laws.specs.Ends.{Ends, none, ends, grow, ends_of, left_of, right_of, bit, how_many, total}

-- e is where p holds below n
abbrev pub Ended : (ℕ → Bool) → ℕ → Ends → Type 0
Ended p n none = (i : ℕ) → i < n → p i ≡ false
Ended p n (ends l r) = (l ≤ r) × (r < n) × (p l ≡ true) × (p r ≡ true) × ((i : ℕ) → i < n → p i ≡ true → (l ≤ i) × (i ≤ r))

clash : {X : Type 0} {b : Bool} → b ≡ false → b ≡ true → X
clash e f = absurd (subst (λ (b : Bool). T b) (sym f ∙ e) tt)

module _ (p : ℕ → Bool) where
  ended-more : (n : ℕ) (b : Bool) → p n ≡ b → (e : Ends) → Ended p n e → Ended p (suc n) (grow b n e)
  ended-more n false h none g = λ i l. one i l (dec_le n i)
    where
      one : (i : ℕ) → i < suc n → Dec (n ≤ i) → p i ≡ false
      one i l (yes a) = let e : i ≡ n = omega arith in ap p e ∙ h
      one i l (no a) = g i (omega arith)
  ended-more n false h (ends l r) g = (g.0, omega (arith, g.1), g.2, g.3, λ i k t. one i k t (dec_le n i))
    where
      one : (i : ℕ) → i < suc n → p i ≡ true → Dec (n ≤ i) → (l ≤ i) × (i ≤ r)
      one i k t (yes a) = let e : n ≡ i = omega arith in clash h (ap p e ∙ t)
      one i k t (no a) = g.4 i (omega arith) t
  ended-more n true h none g = (omega arith, omega arith, h, h, λ i k t. one i k t (dec_le n i))
    where
      one : (i : ℕ) → i < suc n → p i ≡ true → Dec (n ≤ i) → (n ≤ i) × (i ≤ n)
      one i k t (yes a) = (a, omega arith)
      one i k t (no a) = clash (g i (omega arith)) t
  ended-more n true h (ends l r) g = (omega (arith, g.0, g.1), omega arith, g.2, h, λ i k t. one i k t (dec_le n i))
    where
      one : (i : ℕ) → i < suc n → p i ≡ true → Dec (n ≤ i) → (l ≤ i) × (i ≤ n)
      one i k t (yes a) = (omega (arith, g.0, g.1), omega arith)
      one i k t (no a) = ((g.4 i (omega arith) t).0, omega arith)

  pub ended : (n : ℕ) → Ended p n (ends_of p n)
  unfolding ends_of
  ended zero = λ i l. absurd (omega arith)
  ended (suc n) = ended-more n (p n) refl (ends_of p n) (ended n)

  -- only one answer is where p holds
  pub ended_unique : (n : ℕ) (d e : Ends) → Ended p n d → Ended p n e → d ≡ e
  ended_unique n none none f g = refl
  ended_unique n none (ends l r) f g = clash (f l (omega (arith, g.0, g.1))) g.2
  ended_unique n (ends l r) none f g = clash (g l (omega (arith, f.0, f.1))) f.2
  ended_unique n (ends l r) (ends l' r') f g =
      let a = f.4 l' (omega (arith, g.0, g.1)) g.2 in
      let b = f.4 r' (omega (arith, g.1)) g.3 in
      let a' = g.4 l (omega (arith, f.0, f.1)) f.2 in
      let b' = g.4 r (omega (arith, f.1)) f.3 in
      let el : l ≡ l' = omega arith in
      let er : r ≡ r' = omega arith in
      ap (λ (x : ℕ). ends x r) el ∙ ap (λ (x : ℕ). ends l' x) er

-- all between two numbers at which p holds hold too
abbrev pub Convex : (ℕ → Bool) → Type 0
Convex p = (a i b : ℕ) → a ≤ i → i ≤ b → p a ≡ true → p b ≡ true → p i ≡ true

-- lo to hi, without hi, are the numbers below n at which p holds, and an empty run is 0, 0
pub record RunOf (p : ℕ → Bool) (n lo hi : ℕ) : Type 0 where
  pub high : hi ≤ n
  pub empty : (lo < hi) ⊎ ((lo ≡ 0) × (hi ≡ 0))
  pub into : (x : ℕ) → x < n → lo ≤ x → x < hi → p x ≡ true
  pub back : (x : ℕ) → x < n → p x ≡ true → (lo ≤ x) × (x < hi)

true_or_false : (b : Bool) → (b ≡ true) ⊎ (b ≡ false)
true_or_false true = inl refl
true_or_false false = inr refl

-- what the code works out is where p holds
pub run_ends : (p : ℕ → Bool) (n lo hi : ℕ) → RunOf p n lo hi → (lo ≡ left_of (ends_of p n)) × (hi ≡ right_of (ends_of p n))
run_ends p n lo hi r = ⊎_elim full void r.empty
  where
    full : lo < hi → (lo ≡ left_of (ends_of p n)) × (hi ≡ right_of (ends_of p n))
    full l =
        let top : hi - 1 + 1 ≡ hi = omega arith in
        let is : Ended p n (ends lo (hi - 1)) = (
          omega arith,
          omega (arith, r.high),
          r.into lo (omega (arith, r.high)) (omega arith) l,
          r.into (hi - 1) (omega (arith, r.high)) (omega arith) (omega arith),
          λ i k t. ((r.back i k t).0, omega (arith, (r.back i k t).1)),
        ) in
        let e = ended_unique p n (ends lo (hi - 1)) (ends_of p n) is (ended p n) in
        (ap left_of e, sym top ∙ ap right_of e)

    void : (lo ≡ 0) × (hi ≡ 0) → (lo ≡ left_of (ends_of p n)) × (hi ≡ right_of (ends_of p n))
    void z =
        let is : Ended p n none = λ i k. ⊎_elim (λ (t : p i ≡ true). absurd (omega (arith, (r.back i k t).1, z.1))) (λ (f : p i ≡ false). f) (true_or_false (p i)) in
        let e = ended_unique p n none (ends_of p n) is (ended p n) in
        (z.0 ∙ ap left_of e, z.1 ∙ ap right_of e)

-- and where p holds is such a run, if p is convex
pub ends_run : (p : ℕ → Bool) → Convex p → (n : ℕ) → RunOf p n (left_of (ends_of p n)) (right_of (ends_of p n))
ends_run p v n = by (ends_of p n) (ended p n)
  where
    by : (e : Ends) → Ended p n e → RunOf p n (left_of e) (right_of e)
    by none g = record {
      high = omega arith;
      empty = inr (refl, refl);
      into = λ x k a b. absurd (omega arith);
      back = λ x k t. clash (g x k) t;
    }
    by (ends l r) g = record {
      high = omega (arith, g.1);
      empty = inl (omega (arith, g.0));
      into = λ x k a b. v l x r a (omega arith) g.2 g.3;
      back = λ x k t. ((g.4 x k t).0, omega (arith, (g.4 x k t).1));
    }

-- ---- how many
le-or-lt : (a b : ℕ) → (a ≤ b) ⊎ (b < a)
le-or-lt a b = cases (dec_le a b)
  where
    cases : Dec (a ≤ b) → (a ≤ b) ⊎ (b < a)
    cases (yes h) = inl h
    cases (no h) = inr (omega arith)

-- a run of them: its length
module _ (p : ℕ → Bool) (n lo hi : ℕ) (r : RunOf p n lo hi) where
  low : lo ≤ hi
  low = ⊎_elim (λ a. omega arith) (λ a. omega arith) r.empty

  many_more : (m : ℕ) → m < n → how_many p m ≡ (m - lo) - (m - hi) → (b : Bool) → p m ≡ b → how_many p m + bit b ≡ (suc m - lo) - (suc m - hi)
  many_more m l ih true t = omega (arith, (r.back m l t).0, (r.back m l t).1)
  many_more m l ih false f =
      ⊎_elim
      (λ (b : hi ≤ m). omega (arith, low))
      (λ (b : m < hi). ⊎_elim (λ (a : lo ≤ m). clash f (r.into m l a b)) (λ (a : m < lo). omega (arith, low)) (le-or-lt lo m))
      (le-or-lt hi m)

  run-many : (m : ℕ) → m ≤ n → how_many p m ≡ (m - lo) - (m - hi)
  unfolding how_many
  run-many zero l = omega arith
  run-many (suc m) l = many_more m (omega arith) (run-many m (omega arith)) (p m) refl

  pub run-count : how_many p n ≡ hi - lo
  run-count = omega (arith, run-many n (omega arith), r.high, low)
