-- Laws: a loop that writes a whole slice from the front, an element a turn: what is written so far agrees with the list that is to be there.
use Rattle.std.specs.Prelude.{◌≡◌, take, drop, set}
use Rattle.std.proofs.Math.Path.{refl, ap}
use Rattle.std.proofs.Common.{sym, ◌∙◌, subst, not-suc-le-zero, le_of_suc-le-suc, add-one, take-suc, take-suc-set, take_all}
use mathlib.Core.List.{List, [], ◌∷◌, ◌++◌, append-nil}
use Prim.Native.Nat.{ℕ, zero, suc, ◌+◌, ◌≤◌, ◌<◌}
use native.Mathlib.Omega.{arith}
use Rattle.std.proofs.Math.ListN.{length, get_or, drop_of_length-le, length-append, length-drop}
use Rattle.std.proofs.Math.Seq.{drop-nil, length-take-le}
use Rattle.std.proofs.lemmas.List.Edits.{sets, sets-eq}

module _ {ℓ} {A : Type ℓ} where
  -- one more store
  pub agree-more : (l s : List A) (i : ℕ) (z a : A) → length l ≡ length s → i < length l → take i l ≡ take i s → a ≡ get_or s i z
      → take (i + 1) (set l i a) ≡ take (i + 1) s
  agree-more l s i z a e h p q =
      let k : i < length s = omega arith in
      rw (add-one i, take-suc-set l i a h, take-suc s i z k, p, q)

  -- all is written
  pub agree-all : (l s : List A) (i : ℕ) → length l ≡ length s → length s ≤ i → take i l ≡ take i s → l ≡ s
  agree-all l s i e h p =
      let k : length l ≤ i = omega arith in
      sym (take_all i l k) ∙ p ∙ take_all i s h

  -- a run of stores, written out, up to the end
  pub sets_end : (vs l : List A) (i : ℕ) → length l ≡ i + length vs → sets l i vs ≡ take i l ++ vs
  sets_end vs l i e =
      sets-eq vs l i (omega arith)
      ∙ ap (λ (r : List A). take i l ++ vs ++ r) (drop_of_length-le l {i = i + length vs} (omega arith))
      ∙ append-nil (take i l ++ vs)

  -- ---- a loop that writes a list from the front while it reads what was there: s so far, and d from j on

  unfoldable pub fill : List A → List A → ℕ → List A
  fill d s j = take j s ++ drop j d

  fill_suc : (d s : List A) (j : ℕ) (z : A) → j < length d → j < length s → set (fill d s j) j (get_or s j z) ≡ fill d s (suc j)
  unfolding fill
  fill_suc [] s j z h k = absurd (not-suc-le-zero h)
  fill_suc (x ∷ d) [] j z h k = absurd (not-suc-le-zero k)
  fill_suc (x ∷ d) (y ∷ s) zero z h k = refl
  fill_suc (x ∷ d) (y ∷ s) (suc j) z h k = ap (λ (r : List A). y ∷ r) (fill_suc d s j z (le_of_suc-le-suc h) (le_of_suc-le-suc k))

  pub fill_none : (d s : List A) → d ≡ fill d s 0
  unfolding fill
  fill_none d s = refl

  -- what is read at j is what was there
  pub fill-next : (d s : List A) (j : ℕ) (z : A) → j ≤ length s → get_or (fill d s j) j z ≡ get_or d j z
  unfolding fill
  fill-next d s zero z h = refl
  fill-next d [] (suc j) z h = absurd (not-suc-le-zero h)
  fill-next [] (y ∷ s) (suc j) z h =
      ap (λ (r : List A). get_or (take j s ++ r) j z) (sym (drop-nil j)) ∙ fill-next [] s j z (le_of_suc-le-suc h)
  fill-next (x ∷ d) (y ∷ s) (suc j) z h = fill-next d s j z (le_of_suc-le-suc h)

  pub fill_more : (d s : List A) (j : ℕ) (z a : A) → j < length d → j < length s → a ≡ get_or s j z → set (fill d s j) j a ≡ fill d s (j + 1)
  fill_more d s j z a h k e = rw (e, add-one j) (fill_suc d s j z h k)

  pub length-fill : (d s : List A) (j : ℕ) → j ≤ length s → length d ≡ length s → length (fill d s j) ≡ length s
  unfolding fill
  length-fill d s j h e = length-append (take j s) (drop j d) ∙ omega (arith, length-take-le j s h, length-drop j d)

  pub fill-all : (d s : List A) (j : ℕ) → length d ≡ length s → length s ≤ j → fill d s j ≡ s
  unfolding fill
  fill-all d s j e h =
      let k : length d ≤ j = omega arith in
      rw (take_all j s h, drop_of_length-le d {i = j} k) (append-nil s)
