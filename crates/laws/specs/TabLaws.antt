-- Laws: a list by its places: its length, its elements, and that a list is given by them.
use Rattle.std.specs.Prelude.{◌≡◌, List, [], ◌∷◌, ◌++◌}
use Rattle.std.proofs.Math.Path.{refl, ap}
use Rattle.std.proofs.Common.{sym, ◌∙◌, ext_get_or}
use Prim.Native.Nat.{ℕ, zero, suc, ◌+◌, ◌≤◌, ◌<◌}
use native.Mathlib.Omega.{arith}
use Rattle.std.proofs.Math.Decide.{dec_le}
use Rattle.std.proofs.Math.ListN.{length, get_or, length-append, get_or-append}
use Rattle.std.proofs.Math.Seq.{get_or-append-add}
use Rattle.laws.specs.Tab.{tab}

module _ {A : Type 0} where
  pub length-tab : (f : ℕ → A) (n : ℕ) → length (tab f n) ≡ n
  unfolding tab
  length-tab f zero = refl
  length-tab f (suc n) = length-append (tab f n) (f n ∷ []) ∙ omega (arith, length-tab f n)

  pub get_d_tab : (f : ℕ → A) (n i : ℕ) (d : A) → i < n → get_or (tab f n) i d ≡ f i
  unfolding tab
  get_d_tab f zero i d h = absurd (omega arith)
  get_d_tab f (suc n) i d h = by (dec_le n i) (λ l. get_d_tab f n i d l)
    where
      by : Dec (n ≤ i) → (i < n → get_or (tab f n) i d ≡ f i) → get_or (tab f n ++ (f n ∷ [])) i d ≡ f i
      by (yes l) r =
          let e : i ≡ n = omega arith in
          let k : length (tab f n) + 0 ≡ i = omega (arith, length-tab f n) in
          ap (λ (j : ℕ). get_or (tab f n ++ (f n ∷ [])) j d) (sym k) ∙ get_or-append-add (tab f n) (f n ∷ []) 0 d ∙ ap f (sym e)
      by (no l) r = get_or-append (tab f n) (f n ∷ []) d i (omega (arith, length-tab f n)) ∙ r (omega arith)

  pub tab-is : (f : ℕ → A) (n : ℕ) (l : List A) (d : A) → length l ≡ n → ((i : ℕ) → i < n → get_or l i d ≡ f i) → l ≡ tab f n
  tab-is f n l d e g =
      ext_get_or d l (tab f n) (e ∙ sym (length-tab f n))
      (λ i h. let k : i < n = omega arith in g i k ∙ sym (get_d_tab f n i d k))

  pub tab_same : (f g : ℕ → A) (n : ℕ) → ((i : ℕ) → i < n → f i ≡ g i) → tab f n ≡ tab g n
  unfolding tab
  tab_same f g zero h = refl
  tab_same f g (suc n) h = rw (tab_same f g n (λ i l. h i (omega arith)), h n (omega arith)) refl
