-- Laws: what the lowest number means, how a chain of tests finds it, and what a passed test gives.
use Rattle.std.specs.Prelude.{◌≡◌, refl, Bool, true, false, ◌&&◌, ◌||◌, cond, List, [], ◌∷◌, ◌⊎◌, ℕ, ◌≤◌, ◌<◌, T, eqb, ltb, ℤ, pos, negsuc, ◌≤ℤ◌}
use Rattle.std.proofs.Common.{sym, ◌∙◌, inl, inr, ⊎_elim, arith, ltb-true, ltb-false, eqb-true, eq-eqb, ne_eqb, lt-ltb}
use Rattle.std.proofs.lemmas.Bool.{eqb-false}
use Rattle.std.specs.Int.Signed.{lt_z}
use Rattle.laws.specs.Bound.{Bounded}
use Rattle.laws.specs.Parts.{zord, one_zero}
use Rattle.laws.specs.Fit.{of_abs, lt_false, no_both}
use Rattle.laws.specs.Bools.{is_true, true_is, true_or_false, and_left, and_right, or_left, or_right}
use Rattle.refusal.specs.Refusals.{Test, lowest, Sized, bad_size, bad_place, BadSizeSays, BadPlaceSays}

pub BadSizeSays-unique : (w h : ℕ) (r s : Bool) → BadSizeSays w h r → BadSizeSays w h s → r ≡ s
BadSizeSays-unique w h r s p q = p ∙ sym q

pub BadPlaceSays-unique : (z : ℤ) (r s : Bool) → BadPlaceSays z r → BadPlaceSays z s → r ≡ s
BadPlaceSays-unique z r s p q = p ∙ sym q

-- ---- a chain of tests, in the order of their numbers

-- every number of the list is above n; it computes for a list of named tests
abbrev pub above : ℕ → List Test → Bool
above n [] = true
above n (t ∷ r) = ltb n t.number && above n r

head_above : (n : ℕ) (t : Test) (r : List Test) → T (above n (t ∷ r)) → n < t.number
head_above n t r h = ltb-true n t.number (and_left (ltb n t.number) (above n r) (is_true (above n (t ∷ r)) h))

rest : (n : ℕ) (t : Test) (r : List Test) → T (above n (t ∷ r)) → T (above n r)
rest n t r h = true_is (above n r) (and_right (ltb n t.number) (above n r) (is_true (above n (t ∷ r)) h))

-- a test that does not hold changes nothing
pub lowest_skip : (t : Test) (r : List Test) → t.holds ≡ false → lowest (t ∷ r) ≡ lowest r
unfolding lowest
lowest_skip t r e = simp e

picked : (h e l : Bool) (a b : ℕ) → h ≡ true → ((e ≡ true) ⊎ (l ≡ true)) → cond (h && (e || l)) a b ≡ a
picked true true l a b p w = refl
picked true false true a b p w = refl
picked true false false a b p w = ⊎_elim (λ x. no_both x refl) (λ x. no_both x refl) w
picked false e l a b p w = no_both p refl

kept : (h e l : Bool) (a b : ℕ) → e ≡ false → l ≡ false → cond (h && (e || l)) a b ≡ b
kept true false false a b p q = refl
kept true true l a b p q = no_both refl p
kept true false true a b p q = no_both refl q
kept false e l a b p q = refl

-- the lowest of tests above n is 0 or above n
lowest-above : (n : ℕ) (r : List Test) → T (above n r) → (lowest r ≡ 0) ⊎ (n < lowest r)
unfolding lowest
lowest-above n [] h = inl refl
lowest-above n (t ∷ r) h =
    by (t.holds && (eqb (lowest r) 0 || ltb t.number (lowest r))) refl
    (lowest-above n r (rest n t r h))
  where
    by : (b : Bool) → t.holds && (eqb (lowest r) 0 || ltb t.number (lowest r)) ≡ b → (lowest r ≡ 0) ⊎ (n < lowest r)
        → (cond b t.number (lowest r) ≡ 0) ⊎ (n < cond b t.number (lowest r))
    by true e i = inr (head_above n t r h)
    by false e i = i

-- no test, no refusal
pub lowest-empty : lowest [] ≡ 0
unfolding lowest
lowest-empty = refl

-- one that holds, before tests of larger numbers alone, is the answer
pub lowest-take : (t : Test) (r : List Test) → t.holds ≡ true → T (above t.number r) → lowest (t ∷ r) ≡ t.number
unfolding lowest
lowest-take t r e h =
    picked t.holds (eqb (lowest r) 0) (ltb t.number (lowest r)) t.number (lowest r) e
    (⊎_elim (λ z. inl (eq-eqb (lowest r) 0 z)) (λ l. inr (lt-ltb t.number (lowest r) l)) (lowest-above t.number r h))

-- nothing holds where the answer is 0
pub lowest-none : (t : Test) (r : List Test) → T (above 0 (t ∷ r)) → lowest (t ∷ r) ≡ 0 → (t.holds ≡ false) × (lowest r ≡ 0)
unfolding lowest
lowest-none t r h e = ⊎_elim held (λ f. (f, sym (lowest_skip t r f) ∙ e)) (true_or_false t.holds)
  where
    p : 0 < t.number
    p = head_above 0 t r h

    held : t.holds ≡ true → (t.holds ≡ false) × (lowest r ≡ 0)
    held y =
        ⊎_elim
        (λ (z : lowest r ≡ 0). absurd (omega (arith, p, sym (picked t.holds (eqb (lowest r) 0) (ltb t.number (lowest r)) t.number (lowest r) y (inl (eq-eqb (lowest r) 0 z))) ∙ e)))
        (λ (l : 0 < lowest r).
        ⊎_elim
        (λ (g : ltb t.number (lowest r) ≡ true). absurd (omega (arith, p, sym (picked t.holds (eqb (lowest r) 0) (ltb t.number (lowest r)) t.number (lowest r) y (inr g)) ∙ e)))
        (λ (g : ltb t.number (lowest r) ≡ false).
        absurd (omega (arith, l, sym (kept t.holds (eqb (lowest r) 0) (ltb t.number (lowest r)) t.number (lowest r) (ne_eqb (lowest r) 0 (λ z. omega (arith, l))) g) ∙ e)))
        (true_or_false (ltb t.number (lowest r))))
        (lowest-above 0 r (rest 0 t r h))

-- ---- what the number means: it is given exactly if it holds and no smaller one does

-- a test of number n holds
abbrev pub Held : ℕ → List Test → Type 0
Held n [] = ⊥
Held n (t ∷ r) = ((t.holds ≡ true) × (t.number ≡ n)) ⊎ Held n r

pub lowest_holds : (ts : List Test) → 0 < lowest ts → Held (lowest ts) ts
unfolding lowest
lowest_holds [] l = absurd (omega arith)
lowest_holds (t ∷ r) l = by (t.holds && (eqb (lowest r) 0 || ltb t.number (lowest r))) refl l (lowest_holds r)
  where
    by : (b : Bool) → t.holds && (eqb (lowest r) 0 || ltb t.number (lowest r)) ≡ b → 0 < cond b t.number (lowest r)
        → (0 < lowest r → Held (lowest r) r) → Held (cond b t.number (lowest r)) (t ∷ r)
    by true e g i = inl (and_left t.holds (eqb (lowest r) 0 || ltb t.number (lowest r)) e, refl)
    by false e g i = inr (i g)

pub lowest_least : (n : ℕ) (ts : List Test) → T (above 0 ts) → Held n ts → (0 < lowest ts) × (lowest ts ≤ n)
unfolding lowest
lowest_least n [] p h = absurd h
lowest_least n (t ∷ r) p h =
    by (t.holds && (eqb (lowest r) 0 || ltb t.number (lowest r))) refl h
    (lowest-above 0 r (rest 0 t r p))
    (lowest_least n r (rest 0 t r p))
  where
    p0 : 0 < t.number
    p0 = head_above 0 t r p

    -- the test was passed over although it holds: then another is no larger
    over : (h e l : Bool) → h && (e || l) ≡ false → h ≡ true → (e ≡ false) × (l ≡ false)
    over true false false q y = (refl, refl)
    over true true l q y = no_both refl q
    over true false true q y = no_both refl q
    over false e l q y = no_both y refl

    -- it was taken: then the rest has none, or a larger one
    taken : (h e l : Bool) → h && (e || l) ≡ true → (e ≡ true) ⊎ (l ≡ true)
    taken true true l q = inl refl
    taken true false true q = inr refl
    taken true false false q = no_both q refl
    taken false e l q = no_both q refl

    by : (b : Bool) → t.holds && (eqb (lowest r) 0 || ltb t.number (lowest r)) ≡ b
        → ((t.holds ≡ true) × (t.number ≡ n)) ⊎ Held n r → (lowest r ≡ 0) ⊎ (0 < lowest r)
        → (Held n r → (0 < lowest r) × (lowest r ≤ n)) → (0 < cond b t.number (lowest r)) × (cond b t.number (lowest r) ≤ n)
    by true q (inl y) z i = (p0, omega (arith, y.1))
    by true q (inr y) z i =
        let j = i y in
        ⊎_elim
        (λ (w : eqb (lowest r) 0 ≡ true). absurd (omega (arith, eqb-true (lowest r) 0 w, j.0)))
        (λ (w : ltb t.number (lowest r) ≡ true). (p0, omega (arith, ltb-true t.number (lowest r) w, j.1)))
        (taken t.holds (eqb (lowest r) 0) (ltb t.number (lowest r)) q)
    by false q (inl y) z i =
        let w = over t.holds (eqb (lowest r) 0) (ltb t.number (lowest r)) q y.0 in
        let a : lowest r ≤ t.number = ltb-false t.number (lowest r) w.1 in
        (⊎_elim (λ (u : lowest r ≡ 0). absurd (eqb-false (lowest r) 0 w.0 u)) (λ (u : 0 < lowest r). u) z, omega (arith, y.1))
    by false q (inr y) z i = i y

-- ---- what a passed test gives

pub sized : (w h : ℕ) → bad_size w h ≡ false → Sized w h
unfolding bad_size
sized w h e =
    let three = or_left (ltb w 1 || ltb 256 w || ltb h 1) (ltb 256 h) e in
    let two = or_left (ltb w 1 || ltb 256 w) (ltb h 1) three in
    record {
      w_low = ltb-false w 1 (or_left (ltb w 1) (ltb 256 w) two);
      w_high = ltb-false 256 w (or_right (ltb w 1) (ltb 256 w) two);
      h_low = ltb-false h 1 (or_right (ltb w 1 || ltb 256 w) (ltb h 1) three);
      h_high = ltb-false 256 h (or_right (ltb w 1 || ltb 256 w || ltb h 1) (ltb 256 h) e);
    }

pub placed : (z : ℤ) → bad_place z ≡ false → Bounded 8191 z
unfolding bad_place
placed z e =
    let a : negsuc 8190 ≤ℤ z = lt_false z (negsuc 8190) (or_left (lt_z z (negsuc 8190)) (lt_z (pos 8191) z) e) in
    let b : z ≤ℤ pos 8191 = lt_false (pos 8191) z (or_right (lt_z z (negsuc 8190)) (lt_z (pos 8191) z) e) in
    record { within = omega (arith, zord, of_abs z, one_zero z) }
