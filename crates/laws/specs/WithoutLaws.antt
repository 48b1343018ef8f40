-- Laws: a list without an element, by its parts; and a list that is the first n elements of a longer one: an element taken out by moving the later ones up, one put at the end. Over any element.
use Prim.Native.Nat.{ℕ, zero, suc, ◌+◌, ◌-◌, ◌<◌, ◌≤◌}
use Rattle.std.specs.Prelude.{◌≡◌, refl, get_or, set}
use Rattle.std.proofs.Common.{sym, subst, ◌∙◌, arith, add-one, length-append, take_at, drop_at, take-suc-set, get_or-drop}
use Rattle.std.proofs.Math.Path.{ap}
use mathlib.Core.List.{List, [], ◌∷◌, ◌++◌, append_assoc}
use Rattle.std.proofs.Math.ListN.{length, take, drop, length-drop}
use Rattle.std.proofs.Math.Seq.{length-take-le, take-take, take-nil, take-append-le, slice, length-slice, paste, paste-zero, paste-suc, take-paste}
use Rattle.std.proofs.lemmas.List.Edits.{drop-paste, length-paste}
use Rattle.laws.specs.Without.{without}

module _ {A : Type 0} where
  -- the element behind k others
  pub without_seam : (k : List A) (s : A) (r : List A) (j : ℕ) → j ≡ length k → without j (k ++ (s ∷ r)) ≡ k ++ r
  unfolding without
  without_seam k s r j e =
      ap (λ (l : List A). l ++ drop (suc j) (k ++ (s ∷ r))) (take_at k (s ∷ r) j (sym e))
      ∙ ap (λ (l : List A). k ++ drop (suc j) l) (sym (append_assoc k (s ∷ []) r))
      ∙ ap (λ (l : List A). k ++ l) (drop_at (k ++ (s ∷ [])) r (suc j) (length-append k (s ∷ []) ∙ simp (e, add-one)))

  pub length_without : (j : ℕ) (l : List A) → j < length l → length (without j l) + 1 ≡ length l
  unfolding without
  length_without j l h =
      ap (λ (n : ℕ). n + 1) (length-append (take j l) (drop (suc j) l) ∙ ap (λ (n : ℕ). n + length (drop (suc j) l)) (length-take-le j l (omega arith)))
      ∙ omega (arith, length-drop (suc j) l)

  -- what stands before j stays
  pub take-without : (d j : ℕ) (l : List A) → d ≤ j → j ≤ length l → take d (without j l) ≡ take d l
  unfolding without
  take-without d j l h k =
      take-append-le d (take j l) (drop (suc j) l) (omega (arith, length-take-le j l k))
      ∙ take-take d j l h

  -- ---- the first n elements of l are the list

  -- element j taken out: those from j + 1 up to i have moved up one place
  abbrev pub shifted : List A → ℕ → ℕ → List A
  shifted l j i = paste l j (drop (j + 1) l) (i - (j + 1))

  pub shifted_none : (l : List A) (j : ℕ) → l ≡ shifted l j (j + 1)
  shifted_none l j =
      let z : j + 1 - (j + 1) ≡ 0 = omega arith in
      subst (λ (k : ℕ). l ≡ paste l j (drop (j + 1) l) k) (sym z) (paste-zero l j (drop (j + 1) l))

  -- what is not yet moved is as it was
  shifted_at : (l : List A) (j n : ℕ) (z : A) → j + n + 1 < length l → get_or (paste l j (drop (j + 1) l) n) (j + n + 1) z ≡ get_or l (j + n + 1) z
  shifted_at l j n z h =
      sym (get_or-drop (j + n) (paste l j (drop (j + 1) l) n) 1 z)
      ∙ ap (λ (m : List A). get_or m 1 z) (drop-paste l j (drop (j + 1) l) n (omega arith) (omega (arith, length-drop (j + 1) l)))
      ∙ get_or-drop (j + n) l 1 z

  pub shifted-more : (l : List A) (j i : ℕ) (z : A) → j < i → i < length l → set (shifted l j i) (i - 1) (get_or (shifted l j i) i z) ≡ shifted l j (i + 1)
  shifted-more l j i z hj hi =
      let n : ℕ = i - (j + 1) in
      let s : List A = drop (j + 1) l in
      let e₁ : i ≡ j + n + 1 = omega arith in
      let e₂ : i - 1 ≡ j + n = omega arith in
      let e₃ : i + 1 - (j + 1) ≡ suc n = omega arith in
      let e₄ : j + 1 + n ≡ i = omega arith in
      let v : get_or (paste l j s n) i z ≡ get_or s n z =
      ap (λ (k : ℕ). get_or (paste l j s n) k z) e₁ ∙ shifted_at l j n z (omega arith) ∙ ap (λ (k : ℕ). get_or l k z) (sym e₁ ∙ sym e₄) ∙ sym (get_or-drop (j + 1) l n z)
      in
      ap (λ (x : A). set (paste l j s n) (i - 1) x) v
      ∙ ap (λ (k : ℕ). set (paste l j s n) k (get_or s n z)) e₂
      ∙ paste-suc l j s n z (omega arith) (omega (arith, length-drop (j + 1) l))
      ∙ ap (λ (k : ℕ). paste l j s k) (sym e₃)

  drop-take : (k n : ℕ) (l : List A) → drop k (take n l) ≡ take (n - k) (drop k l)
  drop-take zero n l = ap (λ (m : ℕ). take m l) {x = n} {y = n - 0} (omega arith)
  drop-take (suc k) zero l = ap (λ (m : ℕ). take m (drop (suc k) l)) {x = 0} {y = 0 - suc k} (omega arith)
  drop-take (suc k) (suc n) [] = sym (take-nil (suc n - suc k))
  drop-take (suc k) (suc n) (x ∷ l) = drop-take k n l ∙ ap (λ (m : ℕ). take m (drop k l)) {x = n - k} {y = suc n - suc k} (omega arith)

  pub shifted-all : (l : List A) (j n : ℕ) → j < n → n ≤ length l → take (n - 1) (shifted l j n) ≡ without j (take n l)
  unfolding without
  shifted-all l j n h k =
      let m : ℕ = n - (j + 1) in
      ap (λ (i : ℕ). take i (shifted l j n)) {x = n - 1} {y = j + m} (omega arith)
      ∙ take-paste l j (drop (j + 1) l) m (omega arith) (omega (arith, length-drop (j + 1) l))
      ∙ ap (λ (r : List A). r ++ take m (drop (j + 1) l)) (sym (take-take j n l (omega arith)))
      ∙ ap (λ (r : List A). take j (take n l) ++ r) (sym (drop-take (j + 1) n l) ∙ ap (λ (i : ℕ). drop i (take n l)) (add-one j))

  -- an element put at the end
  pub pushed : (l : List A) (n : ℕ) (x : A) → n < length l → take (n + 1) (set l n x) ≡ take n l ++ (x ∷ [])
  pushed l n x h = ap (λ (i : ℕ). take i (set l n x)) (add-one n) ∙ take-suc-set l n x h
