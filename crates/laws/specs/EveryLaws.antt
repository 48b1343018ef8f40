-- Laws: a test that holds of every element, by index and by parts.
use Rattle.std.specs.Prelude.{◌≡◌, Bool, true, false, ◌&&◌, T, length, drop, get_or, set, replicate}
use Rattle.std.proofs.Math.Path.{refl, sym, ap}
use Rattle.std.proofs.Common.{◌∙◌, add-one, arith, take-suc, take_all}
use mathlib.Core.List.{List, [], ◌∷◌, ◌++◌}
use Prim.Native.Nat.{ℕ, zero, suc, ◌+◌, ◌-◌, ◌*◌, ◌<◌, ◌≤◌}
use Rattle.std.proofs.Math.ListN.{take}
use Rattle.std.proofs.Math.Seq.{take-add}
use Rattle.std.specs.Float.Ieee.Fits.{and_i, and_l, and_r}
use Rattle.std.specs.List.{list_all}
use Rattle.laws.specs.Every.{every}
use Rattle.laws.specs.Bools.{is_true}
use Rattle.laws.specs.Rows.{cut}

and_assoc : (a b c : Bool) → a && b && c ≡ a && (b && c)
and_assoc true b c = refl
and_assoc false b c = refl

and_true : (a : Bool) → a && true ≡ a
and_true true = refl
and_true false = refl

module _ {A : Type 0} (p : A → Bool) where
  pub every_append : (s t : List A) → every p (s ++ t) ≡ every p s && every p t
  unfolding every
  every_append [] t = refl
  every_append (x ∷ s) t = ap (λ (b : Bool). p x && b) (every_append s t) ∙ sym (and_assoc (p x) (every p s) (every p t))

  -- a loop that carries the test of the elements passed: a turn, and the end
  pub every-step : (s : List A) (i : ℕ) (d : A) (ok b : Bool) → i < length s → ok ≡ every p (take i s) → b ≡ p (get_or s i d)
      → ok && b ≡ every p (take (i + 1) s)
  unfolding every
  every-step s i d ok b h e f =
      ap (λ (z : Bool). z && b) e
      ∙ ap (λ (z : Bool). every p (take i s) && z) (f ∙ sym (and_true (p (get_or s i d))))
      ∙ sym (every_append (take i s) (get_or s i d ∷ []))
      ∙ ap (every p) (sym (take-suc s i d h) ∙ ap (λ (n : ℕ). take n s) (sym (add-one i)))

  pub every-end : (s : List A) (i : ℕ) (ok : Bool) → length s ≤ i → ok ≡ every p (take i s) → ok ≡ every p s
  every-end s i ok h e = e ∙ ap (every p) (take_all i s h)

  -- the library's test, as `all` of an iterator answers it
  pub every_is_all : (s : List A) → every p s ≡ list_all p s
  unfolding every
  every_is_all [] = refl
  every_is_all (x ∷ s) = ap (λ (b : Bool). p x && b) (every_is_all s)

  -- each element, and back
  pub every-each : (s : List A) (k : ℕ) (d : A) → T (every p s) → k < length s → T (p (get_or s k d))
  unfolding every
  every-each [] k d h l = absurd (omega arith)
  every-each (x ∷ s) zero d h l = and_l (p x) (every p s) h
  every-each (x ∷ s) (suc k) d h l = every-each s k d (and_r (p x) (every p s) h) (omega arith)

  pub every_of : (s : List A) (d : A) → ((k : ℕ) → k < length s → T (p (get_or s k d))) → T (every p s)
  unfolding every
  every_of [] d f = tt
  every_of (x ∷ s) d f = and_i (p x) (every p s) (f 0 (omega arith)) (every_of s d (λ k l. f (suc k) (omega arith)))

  -- parts
  pub every_take : (n : ℕ) (s : List A) → T (every p s) → T (every p (take n s))
  unfolding every
  every_take zero s h = tt
  every_take (suc n) [] h = tt
  every_take (suc n) (x ∷ s) h = and_i (p x) (every p (take n s)) (and_l (p x) (every p s) h) (every_take n s (and_r (p x) (every p s) h))

  pub every_drop : (n : ℕ) (s : List A) → T (every p s) → T (every p (drop n s))
  unfolding every
  every_drop zero s h = h
  every_drop (suc n) [] h = tt
  every_drop (suc n) (x ∷ s) h = every_drop n s (and_r (p x) (every p s) h)

  pub every-cut : (n y : ℕ) (s : List A) → T (every p s) → T (every p (cut n y s))
  unfolding cut
  every-cut n y s h = every_take n (drop (y * n) s) (every_drop (y * n) s h)

  -- all up to e: those up to a, and the part from there on
  pub every-part : (s : List A) (a e : ℕ) → a ≤ e → T (every p (take a s)) → every p (take (e - a) (drop a s)) ≡ every p (take e s)
  every-part s a e h t =
      let b = every p (take (e - a) (drop a s)) in
      let whole : a + (e - a) ≡ e = omega arith in
      ap (λ (z : Bool). z && b) (sym (is_true (every p (take a s)) t))
      ∙ sym (every_append (take a s) (take (e - a) (drop a s)))
      ∙ sym (ap (every p) (take-add a (e - a) s))
      ∙ ap (λ (n : ℕ). every p (take n s)) whole

  -- after a store
  pub every_set : (s : List A) (i : ℕ) (v : A) → T (every p s) → T (p v) → T (every p (set s i v))
  unfolding every
  every_set [] i v h k = tt
  every_set (x ∷ s) zero v h k = and_i (p v) (every p s) k (and_r (p x) (every p s) h)
  every_set (x ∷ s) (suc i) v h k = and_i (p x) (every p (set s i v)) (and_l (p x) (every p s) h) (every_set s i v (and_r (p x) (every p s) h) k)

  pub every-replicate : (n : ℕ) (v : A) → T (p v) → T (every p (replicate n v))
  unfolding every
  every-replicate zero v k = tt
  every-replicate (suc n) v k = and_i (p v) (every p (replicate n v)) k (every-replicate n v k)

  -- a weaker test
  pub every_weaker : (q : A → Bool) → ((x : A) → T (p x) → T (q x)) → (s : List A) → T (every p s) → T (every q s)
  unfolding every
  every_weaker q f [] h = tt
  every_weaker q f (x ∷ s) h = and_i (q x) (every q s) (f x (and_l (p x) (every p s) h)) (every_weaker q f s (and_r (p x) (every p s) h))
