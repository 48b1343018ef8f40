-- Laws: a list as rows of n: row y is the n elements from y * n on. A loop over rows lends a row, and puts what comes back in its place.
-- `put a k l r` is the list that the borrow checker has after a part `&mut l[a..a + k]` came back as r (its `put_mid`).
use Rattle.std.specs.Prelude.{◌≡◌, ◌⊎◌, List, [], ◌∷◌, ◌++◌, drop, get_or, set}
use Rattle.std.proofs.Math.Path.{refl, sym, ap, subst}
use Rattle.std.proofs.Common.{◌∙◌, suc-mul, zero-mul, mul-le-mul_right, add-zero, eq-or-lt_of_le, add-one, length-take, length-append, take-append-drop, drop-drop, take_all, take_at, drop_at, drop-set-lt}
use Rattle.std.proofs.Math.Logic.{inl, inr, ⊎_elim}
use Prim.Native.Nat.{ℕ, zero, suc, ◌+◌, ◌-◌, ◌*◌, ◌≤◌, ◌<◌}
use Rattle.std.proofs.Math.Nat.{sub_self}
use native.Mathlib.Omega.{arith}
use Rattle.std.proofs.Math.ListN.{length, take, length-drop}
use Rattle.std.proofs.lemmas.List.{take-append-le, drop-append-le, drop-set-add}
use Rattle.std.proofs.Math.Seq.{length-take-le, take-add, take-set-lt, take-set-le, get_or-take, get_or-drop}
use Rattle.laws.specs.Rows.{cut, put_row, put_rows_from, put_rows}
use borrow.Rule.Slice.PartMut.{put_mid, same_len_mid, drop_put}

-- a row fits before the rows after it
pub row-le : (n : ℕ) {z y : ℕ} → z < y → z * n + n ≤ y * n
row-le n {z} {y} h = rw (← suc-mul z n) (mul-le-mul_right n h)

module _ {A : Type 0} where
  part-before : (a b n : ℕ) (l t : List A) → b + n ≤ a → a ≤ length l → take n (drop b (take a l ++ t)) ≡ take n (drop b (take a l))
  part-before a b n l t h k =
      let e : length (take a l) ≡ a = length-take-le a l k in
      let g : b ≤ length (take a l) = omega arith in
      let f : n ≤ length (drop b (take a l)) = omega (arith, length-drop b (take a l)) in
      rw (drop-append-le b (take a l) t g, take-append-le n (drop b (take a l)) t f)

  -- rows before the part that came back
  pub put-before : (a k b n : ℕ) (l r : List A) → b + n ≤ a → a ≤ length l → take n (drop b (put_mid a k l r)) ≡ take n (drop b l)
  put-before a k b n l r h g =
      part-before a b n l (r ++ drop k (drop a l)) h g
      ∙ sym (part-before a b n l (drop a l) h g)
      ∙ ap (λ (s : List A). take n (drop b s)) (take-append-drop a l)

  -- the part that came back
  pub put-at : (a k n : ℕ) (l r : List A) → a ≤ length l → length r ≡ n → take n (drop a (put_mid a k l r)) ≡ r
  put-at a k n l r h e =
      ap (take n) (drop_at (take a l) (r ++ drop k (drop a l)) a (length-take-le a l h)) ∙ take_at r (drop k (drop a l)) n e

  -- what lies after it
  pub put-after : (a k b : ℕ) (l r : List A) → a + k ≤ b → a + k ≤ length l → length r ≡ k → drop b (put_mid a k l r) ≡ drop b l
  put-after a k b l r h g e =
      let a≤ : a ≤ length l = omega arith in
      let b≡ : (a + k) + (b - (a + k)) ≡ b = omega arith in
      let tail : drop (a + k) (put_mid a k l r) ≡ drop (a + k) l =
      sym (drop-drop k a (put_mid a k l r))
      ∙ ap (drop k) (drop_at (take a l) (r ++ drop k (drop a l)) a (length-take-le a l a≤))
      ∙ drop_at r (drop k (drop a l)) k e
      ∙ drop-drop k a l in
      subst (λ (m : ℕ). drop m (put_mid a k l r) ≡ drop m l) b≡
      (sym (drop-drop (b - (a + k)) (a + k) (put_mid a k l r)) ∙ ap (drop (b - (a + k))) tail ∙ drop-drop (b - (a + k)) (a + k) l)

  -- ---- rows

  -- a part as it is lent, `&l[a..a + n]`
  pub length_part : (a n : ℕ) (l : List A) → a + n ≤ length l → length (take (a + n - a) (drop a l)) ≡ n
  length_part a n l h =
      let e : a + n - a ≡ n = omega arith in
      let g : n ≤ length (drop a l) = omega (arith, length-drop a l) in
      rw e (length-take-le n (drop a l) g)

  -- `&l[a..a + n]` at `a = y * n` is row y
  pub part_cut : (n y : ℕ) (l : List A) → take (y * n + n - y * n) (drop (y * n) l) ≡ cut n y l
  unfolding cut
  part_cut n y l =
      let e : y * n + n - y * n ≡ n = omega arith in
      rw e refl

  pub length_cut : (n y h : ℕ) (l : List A) → length l ≡ h * n → y < h → length (cut n y l) ≡ n
  unfolding cut
  length_cut n y h l e g =
      let k : n ≤ length (drop (y * n) l) = omega (arith, length-drop (y * n) l, row-le n g) in
      length-take-le n (drop (y * n) l) k

  pub get_d_cut : (n y i : ℕ) (l : List A) (d : A) → i < n → get_or (cut n y l) i d ≡ get_or l (y * n + i) d
  unfolding cut
  get_d_cut n y i l d h = get_or-take n (drop (y * n) l) i d h ∙ get_or-drop (y * n) l i d

  -- ---- a single store, where no row is lent

  pub cut_set_same : (n y i : ℕ) (l : List A) (v : A) → i < n → cut n y (set l (y * n + i) v) ≡ set (cut n y l) i v
  unfolding cut
  cut_set_same n y i l v h = ap (take n) (drop-set-add (y * n) l i v) ∙ take-set-lt n (drop (y * n) l) i v h

  pub cut_set_other : (n y z i : ℕ) (l : List A) (v : A) → i < n → (z < y) ⊎ (y < z) → cut n z (set l (y * n + i) v) ≡ cut n z l
  unfolding cut
  cut_set_other n y z i l v h (inl lt) =
      let e : z * n + (y * n + i - z * n) ≡ y * n + i = omega (arith, row-le n lt) in
      subst (λ (j : ℕ). take n (drop (z * n) (set l j v)) ≡ take n (drop (z * n) l)) e
      (ap (take n) (drop-set-add (z * n) l (y * n + i - z * n) v) ∙ take-set-le n (drop (z * n) l) (y * n + i - z * n) v (omega (arith, row-le n lt)))
  cut_set_other n y z i l v h (inr lt) = ap (take n) (drop-set-lt (z * n) l (y * n + i) v (omega (arith, row-le n lt)))

  -- what the borrow checker has after row y was lent and came back as r
  pub put_row_lem : (n y : ℕ) (r l : List A) → put_mid (y * n) (y * n + n - y * n) l r ≡ put_row n y r l
  unfolding put_row
  put_row_lem n y r l =
      let e : y * n + n - y * n ≡ n = omega arith in
      rw e refl

  -- row y of h lies within the list
  pub row_in : (n y h : ℕ) (l : List A) → length l ≡ h * n → y < h → y * n + n ≤ length l
  row_in n y h l e g = omega (arith, row-le n g)

  pub length-put_row : (n y h : ℕ) (r l : List A) → length l ≡ h * n → y < h → length r ≡ n → length (put_row n y r l) ≡ length l
  unfolding put_row cut
  length-put_row n y h r l e g f = same_len_mid (y * n) n l r (f ∙ sym (length_cut n y h l e g))

  pub cut_same : (n y h : ℕ) (r l : List A) → length l ≡ h * n → y < h → length r ≡ n → cut n y (put_row n y r l) ≡ r
  unfolding put_row cut
  cut_same n y h r l e g f = put-at (y * n) n n l r (omega (arith, row-le n g)) f

  pub cut_other : (n y z h : ℕ) (r l : List A) → length l ≡ h * n → y < h → length r ≡ n → (z < y) ⊎ (y < z)
      → cut n z (put_row n y r l) ≡ cut n z l
  unfolding put_row cut
  cut_other n y z h r l e g f (inl lt) = put-before (y * n) n (z * n) n l r (row-le n lt) (omega (arith, row-le n g))
  cut_other n y z h r l e g f (inr lt) = ap (take n) (put-after (y * n) n (z * n) l r (row-le n lt) (omega (arith, row-le n g)) f)

  -- two lists of h rows that have the same rows are equal
  take-rows : (n h : ℕ) (l m : List A) → ((z : ℕ) → z < h → cut n z l ≡ cut n z m) → take (h * n) l ≡ take (h * n) m
  unfolding cut
  take-rows n zero l m f = rw (zero-mul n) refl
  take-rows n (suc h) l m f =
      rw (suc-mul h n, take-add (h * n) n l, take-add (h * n) n m, take-rows n h l m (λ z g. f z (omega arith)), f h (omega arith))

  pub ext_cut : (n h : ℕ) (l m : List A) → length l ≡ h * n → length m ≡ h * n → ((z : ℕ) → z < h → cut n z l ≡ cut n z m) → l ≡ m
  ext_cut n h l m e g f = sym (take_all (h * n) l (omega arith)) ∙ take-rows n h l m f ∙ take_all (h * n) m (omega arith)

  -- ---- a loop over rows lo ≤ y < hi: row y becomes f y of what it was

  pub put_rows-none : (n : ℕ) (f : ℕ → List A → List A) (lo : ℕ) (l : List A) → put_rows n f lo lo l ≡ l
  unfolding put_rows put_rows_from
  put_rows-none n f lo l = rw (sub_self lo) refl

  pub put_rows-more : (n : ℕ) (f : ℕ → List A → List A) (lo y : ℕ) (l : List A) → lo ≤ y
      → put_row n y (f y (cut n y (put_rows n f lo y l))) (put_rows n f lo y l) ≡ put_rows n f lo (y + 1) l
  unfolding put_rows put_rows_from
  put_rows-more n f lo y l h =
      let e : y + 1 - lo ≡ suc (y - lo) = omega arith in
      let g : lo + (y - lo) ≡ y = omega arith in
      rw (e, g) refl

  -- one loop after another
  put_rows-split-put_rows_from : (n : ℕ) (f : ℕ → List A → List A) (lo mid k : ℕ) (l : List A) → lo ≤ mid
      → put_rows n f mid (mid + k) (put_rows n f lo mid l) ≡ put_rows n f lo (mid + k) l
  put_rows-split-put_rows_from n f lo mid zero l h = rw (add-zero mid) (put_rows-none n f mid (put_rows n f lo mid l))
  put_rows-split-put_rows_from n f lo mid (suc k) l h =
      let e : mid + suc k ≡ mid + k + 1 = omega arith in
      rw (e, ← put_rows-more n f mid (mid + k) (put_rows n f lo mid l) (omega arith), ← put_rows-more n f lo (mid + k) l (omega arith), put_rows-split-put_rows_from n f lo mid k l h) refl

  pub put_rows-split : (n : ℕ) (f : ℕ → List A → List A) (lo mid hi : ℕ) (l : List A) → lo ≤ mid → mid ≤ hi
      → put_rows n f mid hi (put_rows n f lo mid l) ≡ put_rows n f lo hi l
  put_rows-split n f lo mid hi l h g =
      let e : mid + (hi - mid) ≡ hi = omega arith in
      rw e at (put_rows-split-put_rows_from n f lo mid (hi - mid) l h)

  -- the step of the code: row y was lent, `&mut t[a..a + n]` at `a = y * n`, and comes back as r
  pub rows_step : (n : ℕ) (f : ℕ → List A → List A) (lo y : ℕ) (l t r : List A) → lo ≤ y → t ≡ put_rows n f lo y l
      → r ≡ f y (take (y * n + n - y * n) (drop (y * n) t)) → put_mid (y * n) (y * n + n - y * n) t r ≡ put_rows n f lo (y + 1) l
  unfolding put_row cut
  rows_step n f lo y l t r h p q =
      let e : y * n + n - y * n ≡ n = omega arith in
      rw (q, e, p) (put_rows-more n f lo y l h)

  module _ (n h : ℕ) (f : ℕ → List A → List A) (keeps : (y : ℕ) → y < h → (r : List A) → length r ≡ n → length (f y r) ≡ n) where
    length-put_rows_from : (lo k : ℕ) (l : List A) → lo + k ≤ h → length l ≡ h * n → length (put_rows_from n f lo k l) ≡ h * n
    unfolding put_rows_from
    length-put_rows_from lo zero l g e = e
    length-put_rows_from lo (suc k) l g e =
        let i = length-put_rows_from lo k l (omega arith) e in
        let y< : lo + k < h = omega arith in
        length-put_row n (lo + k) h _ (put_rows_from n f lo k l) i y< (keeps (lo + k) y< _ (length_cut n (lo + k) h (put_rows_from n f lo k l) i y<)) ∙ i

    outside : (lo k z : ℕ) (l : List A) → lo + k ≤ h → length l ≡ h * n → (z < lo) ⊎ (lo + k ≤ z) → cut n z (put_rows_from n f lo k l) ≡ cut n z l
    unfolding put_rows_from
    outside lo zero z l g e w = refl
    outside lo (suc k) z l g e w =
        let i = length-put_rows_from lo k l (omega arith) e in
        let y< : lo + k < h = omega arith in
        cut_other n (lo + k) z h _ (put_rows_from n f lo k l) i y< (keeps (lo + k) y< _ (length_cut n (lo + k) h (put_rows_from n f lo k l) i y<))
        (⊎_elim (λ w₁. inl (omega arith)) (λ w₁. inr (omega arith)) w)
        ∙ outside lo k z l (omega arith) e (⊎_elim (λ w₁. inl w₁) (λ w₁. inr (omega arith)) w)

    inside : (lo k z : ℕ) (l : List A) → lo + k ≤ h → length l ≡ h * n → lo ≤ z → z < lo + k → cut n z (put_rows_from n f lo k l) ≡ f z (cut n z l)
    unfolding put_rows_from
    inside lo zero z l g e p q = absurd (omega arith)
    inside lo (suc k) z l g e p q =
        let i = length-put_rows_from lo k l (omega arith) e in
        let y< : lo + k < h = omega arith in
        let r = keeps (lo + k) y< _ (length_cut n (lo + k) h (put_rows_from n f lo k l) i y<) in
        let q' : z ≤ lo + k = omega arith in
        ⊎_elim
        (λ (s : z ≡ lo + k). subst (λ (y : ℕ). cut n z (put_row n y (f y (cut n y (put_rows_from n f lo k l))) (put_rows_from n f lo k l)) ≡ f z (cut n z l)) s
        (cut_same n z h _ (put_rows_from n f lo k l) i (omega arith) (keeps z (omega arith) _ (length_cut n z h (put_rows_from n f lo k l) i (omega arith)))
        ∙ ap (f z) (outside lo k z l (omega arith) e (inr (omega arith)))))
        (λ (s : z < lo + k). cut_other n (lo + k) z h _ (put_rows_from n f lo k l) i y< r (inl s) ∙ inside lo k z l (omega arith) e p s)
        (eq-or-lt_of_le q')

    pub length-put_rows : (lo hi : ℕ) (l : List A) → lo ≤ hi → hi ≤ h → length l ≡ h * n → length (put_rows n f lo hi l) ≡ h * n
    unfolding put_rows
    length-put_rows lo hi l p q e = length-put_rows_from lo (hi - lo) l (omega arith) e

    -- a row of the loop's
    pub cut_inside : (lo hi z : ℕ) (l : List A) → hi ≤ h → length l ≡ h * n → lo ≤ z → z < hi → cut n z (put_rows n f lo hi l) ≡ f z (cut n z l)
    unfolding put_rows
    cut_inside lo hi z l q e g k = inside lo (hi - lo) z l (omega arith) e g (omega arith)

    -- any other is as it was
    pub cut_outside : (lo hi z : ℕ) (l : List A) → lo ≤ hi → hi ≤ h → length l ≡ h * n → (z < lo) ⊎ (hi ≤ z)
        → cut n z (put_rows n f lo hi l) ≡ cut n z l
    unfolding put_rows
    cut_outside lo hi z l p q e w = outside lo (hi - lo) z l (omega arith) e (⊎_elim (λ v. inl v) (λ v. inr (omega arith)) w)
