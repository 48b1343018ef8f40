-- Laws: indexes of a list of rows of n: i is element i % n of row i / n.
use Rattle.std.specs.Prelude.{◌≡◌, refl, ◌⊎◌, List, ℕ, zero, ◌+◌, ◌-◌, ◌*◌, ◌/◌, ◌%◌, ◌≤◌, ◌<◌, length, get_or}
use Rattle.std.proofs.Common.{sym, ap, ◌∙◌, inl, inr, ⊎_elim, mod-eq_of_lt, div-add-mod', mod-lt, div-lt_iff_lt-mul, le-div_iff_mul-le, add-zero, arith}
use Rattle.std.proofs.Math.Nat.{div-eq_of_lt, mul-add-div_right, mul-add-mod_self_right}
use Rattle.laws.specs.Rows.{cut, put_rows}
use Rattle.laws.specs.RowLaws.{get_d_cut, cut_outside, cut_inside}

pub index_div : (n y x : ℕ) → x < n → (y * n + x) / n ≡ y
index_div n y x h =
    let p : 0 < n = omega arith in
    mul-add-div_right p y x ∙ rw (div-eq_of_lt h) (add-zero y)

pub index_mod : (n y x : ℕ) → x < n → (y * n + x) % n ≡ x
index_mod n y x h = mul-add-mod_self_right y n x ∙ mod-eq_of_lt h

pub row_of : (n h i : ℕ) → 0 < n → i < h * n → i / n < h
row_of n h i p g = (div-lt_iff_lt-mul {x = i} {y = h} p).1 g

module _ {A : Type 0} where
  pub get_d_row : (n i : ℕ) (l : List A) (d : A) → 0 < n → get_or l i d ≡ get_or (cut n (i / n) l) (i % n) d
  get_d_row n i l d p = ap (λ (j : ℕ). get_or l j d) (sym (div-add-mod' i n)) ∙ sym (get_d_cut n (i / n) (i % n) l d (mod-lt i p))

  -- an element outside the rows of a loop is as it was
  module _ (n h : ℕ) (f : ℕ → List A → List A) (keeps : (y : ℕ) → y < h → (r : List A) → length r ≡ n → length (f y r) ≡ n) where
    pub get_d_outside : (lo hi i : ℕ) (l : List A) (d : A) → 0 < n → lo ≤ hi → hi ≤ h → length l ≡ h * n → (i < lo * n) ⊎ (hi * n ≤ i)
        → get_or (put_rows n f lo hi l) i d ≡ get_or l i d
    get_d_outside lo hi i l d p a b e w =
        get_d_row n i (put_rows n f lo hi l) d p
        ∙ ap (λ (r : List A). get_or r (i % n) d)
        (cut_outside n h f keeps lo hi (i / n) l a b e (⊎_elim (λ v. inl (row_of n lo i p v)) (λ v. inr ((le-div_iff_mul-le {x = hi} {y = i} p).1 v)) w))
        ∙ sym (get_d_row n i l d p)
