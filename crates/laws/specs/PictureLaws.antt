-- Laws: a picture and its list, one for one.
use Rattle.std.specs.Prelude.{◌≡◌, refl, Bool, List, ℕ, zero, suc, ◌+◌, ◌*◌, ◌/◌, ◌%◌, ◌<◌, T, length, get_or}
use Rattle.std.proofs.Common.{sym, ap, ◌∙◌, div-add-mod', mod-lt, arith}
use Rattle.laws.specs.RowLaws.{row-le}
use Rattle.laws.specs.Index.{index_div, index_mod, row_of}
use Rattle.laws.specs.Every.{every}
use Rattle.laws.specs.EveryLaws.{every_of}
use Rattle.laws.specs.TabLaws.{length-tab, get_d_tab, tab-is}
use Rattle.laws.specs.RowSums.{Picture, picture_of}
use Rattle.laws.specs.Pictures.{list_of}

-- ---- number i of a picture: its channel, row and column, and back
module _ (w h : ℕ) where
  pub channel_of_lem : (y x ch : ℕ) → ch < 3 → ((y * w + x) * 3 + ch) % 3 ≡ ch
  channel_of_lem y x ch c = index_mod 3 (y * w + x) ch c

  pub row_of-number : (y x ch : ℕ) → ch < 3 → x < w → ((y * w + x) * 3 + ch) / 3 / w ≡ y
  row_of-number y x ch c l = ap (λ (p : ℕ). p / w) (index_div 3 (y * w + x) ch c) ∙ index_div w y x l

  pub column_of : (y x ch : ℕ) → ch < 3 → x < w → ((y * w + x) * 3 + ch) / 3 % w ≡ x
  column_of y x ch c l = ap (λ (p : ℕ). p % w) (index_div 3 (y * w + x) ch c) ∙ index_mod w y x l

  -- in range
  pub number_in : (y x ch : ℕ) → ch < 3 → y < h → x < w → (y * w + x) * 3 + ch < h * w * 3
  number_in y x ch c l m = omega (arith, row-le w l)

  pub row_in_picture : (i : ℕ) → 0 < w → i < h * w * 3 → i / 3 / w < h
  row_in_picture i p l = row_of w h (i / 3) p (row_of 3 (h * w) i (omega arith) l)

  pub number_back : (i : ℕ) → 0 < w → (i / 3 / w * w + i / 3 % w) * 3 + i % 3 ≡ i
  number_back i p = omega (arith, div-add-mod' i 3, div-add-mod' (i / 3) w)

-- a number lies in a picture with columns
some-columns : (w h i : ℕ) → i < h * w * 3 → 0 < w
some-columns zero h i l = absurd (omega arith)
some-columns (suc w) h i l = omega arith

module _ {P : Type 0} (w h : ℕ) where
  pub length-list : (p : Picture P) → length (list_of w h p) ≡ h * w * 3
  unfolding list_of
  length-list p = length-tab (λ i. p (i % 3) (i / 3 / w) (i / 3 % w)) (h * w * 3)

  -- what stands at number i
  pub list-number : (p : Picture P) (i : ℕ) (d : P) → i < h * w * 3 → get_or (list_of w h p) i d ≡ p (i % 3) (i / 3 / w) (i / 3 % w)
  unfolding list_of
  list-number p i d l = get_d_tab (λ i. p (i % 3) (i / 3 / w) (i / 3 % w)) (h * w * 3) i d l

  -- the picture of a picture's list
  pub list_at : (p : Picture P) (d : P) (ch y x : ℕ) → ch < 3 → y < h → x < w → picture_of d w (list_of w h p) ch y x ≡ p ch y x
  list_at p d ch y x c l m =
      list-number p ((y * w + x) * 3 + ch) d (number_in w h y x ch c l m)
      ∙ ap (λ (k : ℕ). p k (((y * w + x) * 3 + ch) / 3 / w) (((y * w + x) * 3 + ch) / 3 % w)) (channel_of_lem w h y x ch c)
      ∙ ap (λ (k : ℕ). p ch k (((y * w + x) * 3 + ch) / 3 % w)) (row_of-number w h y x ch c m)
      ∙ ap (λ (k : ℕ). p ch y k) (column_of w h y x ch c m)

  -- number by number: the only list of a picture
  pub numbers_list : (p : Picture P) (d : P) (l : List P) → length l ≡ h * w * 3 → ((i : ℕ) → i < h * w * 3 → get_or l i d ≡ p (i % 3) (i / 3 / w) (i / 3 % w)) → l ≡ list_of w h p
  unfolding list_of
  numbers_list p d l e g = tab-is (λ i. p (i % 3) (i / 3 / w) (i / 3 % w)) (h * w * 3) l d e g

  -- and place by place
  pub list-is : (p : Picture P) (d : P) (l : List P) → length l ≡ h * w * 3 → ((ch y x : ℕ) → ch < 3 → y < h → x < w → picture_of d w l ch y x ≡ p ch y x) → l ≡ list_of w h p
  list-is p d l e g = numbers_list p d l e by
    where
      by : (i : ℕ) → i < h * w * 3 → get_or l i d ≡ p (i % 3) (i / 3 / w) (i / 3 % w)
      by i k =
          let z = some-columns w h i k in
          ap (λ (j : ℕ). get_or l j d) (sym (number_back w h i z))
          ∙ g (i % 3) (i / 3 / w) (i / 3 % w) (mod-lt i (omega arith)) (row_in_picture w h i z k) (mod-lt (i / 3) z)

  -- a list is that of its picture
  pub list_back : (d : P) (l : List P) → length l ≡ h * w * 3 → l ≡ list_of w h (picture_of d w l)
  list_back d l e = list-is (picture_of d w l) d l e (λ ch y x c k m. refl)

  -- pictures that are equal place by place have one list
  pub list_same : (p q : Picture P) (d : P) → ((ch y x : ℕ) → ch < 3 → y < h → x < w → p ch y x ≡ q ch y x) → list_of w h p ≡ list_of w h q
  list_same p q d g = list-is q d (list_of w h p) (length-list p) (λ ch y x c l m. list_at p d ch y x c l m ∙ g ch y x c l m)

  -- a test that holds of every value
  pub list-every : (t : P → Bool) (p : Picture P) (d : P) → ((ch y x : ℕ) → ch < 3 → y < h → x < w → T (t (p ch y x))) → T (every t (list_of w h p))
  list-every t p d g = every_of t (list_of w h p) d by
    where
      by : (i : ℕ) → i < length (list_of w h p) → T (t (get_or (list_of w h p) i d))
      by i k =
          let m : i < h * w * 3 = omega (arith, length-list p) in
          let z = some-columns w h i m in
          rw (list-number p i d m) (g (i % 3) (i / 3 / w) (i / 3 % w) (mod-lt i (omega arith)) (row_in_picture w h i z m) (mod-lt (i / 3) z))
