-- Laws: painting by runs. A part of a list that was lent and came back; a run mixed in parts; a picture recoloured row by row. Over any kind of value.
use Rattle.std.specs.Prelude.{◌≡◌, Bool, true, false, ◌&&◌, cond, ◌⊎◌, ℕ, ◌+◌, ◌-◌, ◌*◌, ◌%◌, ◌≤◌, ◌<◌, length, take, drop}
use Rattle.std.proofs.Math.Path.{refl, sym, ap, subst}
use Rattle.std.proofs.Common.{◌∙◌, length-drop, ext_get_or, get_or-take, get_or-append-add}
use mathlib.Core.List.{List, ◌++◌, append_assoc}
use Rattle.std.proofs.Math.Logic.{inl, inr, ⊎_elim}
use Rattle.std.proofs.Math.Decide.{dec_le}
use native.Mathlib.Omega.{arith}
use Rattle.std.proofs.Math.Dec.{leb, ltb}
use Rattle.std.proofs.Math.ListN.{get_or, get_or-append}
use Rattle.std.proofs.Math.Seq.{take_at, drop_at, take-add, drop-drop, length-take-le, get_or-drop}
use borrow.Author.Tests.{lt-ltb, le-ltb, le-leb, lt-leb}
use borrow.Rule.Slice.PartMut.{put_mid, same_len_mid}
use Rattle.laws.specs.Fill.{fill}
use Rattle.laws.specs.Index.{index_mod}
use Rattle.laws.specs.RowLaws.{row-le}
use Rattle.laws.specs.TabLaws.{length-tab, get_d_tab}
use Rattle.laws.specs.RowSums.{picture_of}
use Rattle.laws.specs.Pictures.{list_of, recoloured}
use Rattle.laws.specs.PictureLaws.{length-list, list_at, list-is}
use Rattle.laws.specs.Strokes.{run_left, run_right, in_runs, stroked}

module _ {P : Type 0} where
  -- ---- a part lent as `&mut l[a..a + k]` came back as r, by its elements
  pub put_low : (a k i : ℕ) (l r : List P) (d : P) → a ≤ length l → i < a → get_or (put_mid a k l r) i d ≡ get_or l i d
  put_low a k i l r d h g =
      let e : length (take a l) ≡ a = length-take-le a l h in
      get_or-append (take a l) (r ++ drop k (drop a l)) d i (omega arith) ∙ get_or-take a l i d g

  pub put_mid_lem : (a k i : ℕ) (l r : List P) (d : P) → a ≤ length l → i < length r → get_or (put_mid a k l r) (a + i) d ≡ get_or r i d
  put_mid_lem a k i l r d h g =
      let e : length (take a l) ≡ a = length-take-le a l h in
      ap (λ (n : ℕ). get_or (put_mid a k l r) (n + i) d) (sym e)
      ∙ get_or-append-add (take a l) (r ++ drop k (drop a l)) i d
      ∙ get_or-append r (drop k (drop a l)) d i g

  pub put_high : (a k i : ℕ) (l r : List P) (d : P) → a ≤ length l → length r ≡ k → a + k ≤ i → get_or (put_mid a k l r) i d ≡ get_or l i d
  put_high a k i l r d h f g =
      let e : length (take a l) ≡ a = length-take-le a l h in
      let j : i ≡ length (take a l) + (k + (i - (a + k))) = omega arith in
      let n : k + (i - (a + k)) ≡ length r + (i - (a + k)) = omega arith in
      let m : a + (k + (i - (a + k))) ≡ i = omega arith in
      ap (λ (x : ℕ). get_or (put_mid a k l r) x d) j
      ∙ get_or-append-add (take a l) (r ++ drop k (drop a l)) (k + (i - (a + k))) d
      ∙ ap (λ (x : ℕ). get_or (r ++ drop k (drop a l)) x d) n
      ∙ get_or-append-add r (drop k (drop a l)) (i - (a + k)) d
      ∙ get_or-drop k (drop a l) (i - (a + k)) d
      ∙ get_or-drop a l (k + (i - (a + k))) d
      ∙ ap (λ (x : ℕ). get_or l x d) m

  -- ---- a list rewritten from the front, a part at a time: s so far, and d from a on
  pub fill-part : (d s : List P) (a k : ℕ) → length d ≡ length s → a + k ≤ length s → take k (drop a (fill d s a)) ≡ take k (drop a d)
  unfolding fill
  fill-part d s a k e h = ap (take k) (drop_at (take a s) (drop a d) a (length-take-le a s (omega arith)))

  pub fill-put : (d s r : List P) (a k : ℕ) → length d ≡ length s → a + k ≤ length s → r ≡ take k (drop a s) → put_mid a k (fill d s a) r ≡ fill d s (a + k)
  unfolding fill
  fill-put d s r a k e h q =
      let n = length-take-le a s (omega arith) in
      rw (q, take_at (take a s) (drop a d) a n, drop_at (take a s) (drop a d) a n, drop-drop k a d, take-add a k s) (sym (append_assoc (take a s) (take k (drop a s)) (drop (a + k) d)))

  -- ---- a run of pixels
  module _ (d : P) (mix : ℕ → P → P) where
    pub length-stroked : (p : List P) → length (stroked d mix p) ≡ length p
    unfolding stroked
    length-stroked p = length-tab (λ i. mix (i % 3) (get_or p i d)) (length p)

    pub stroked-at : (p : List P) (i : ℕ) (z : P) → i < length p → get_or (stroked d mix p) i z ≡ mix (i % 3) (get_or p i d)
    unfolding stroked
    stroked-at p i z l = get_d_tab (λ i. mix (i % 3) (get_or p i d)) (length p) i z l

    -- a part that begins with a pixel
    pub stroked-part : (p : List P) (q k : ℕ) → q * 3 + k ≤ length p → stroked d mix (take k (drop (q * 3) p)) ≡ take k (drop (q * 3) (stroked d mix p))
    stroked-part p q k h =
        ext_get_or d (stroked d mix (take k (drop (q * 3) p))) (take k (drop (q * 3) (stroked d mix p)))
        (length-stroked (take k (drop (q * 3) p)) ∙ part p h ∙ sym (part (stroked d mix p) (omega (arith, length-stroked p))))
        (λ i l. by i (omega (arith, length-stroked (take k (drop (q * 3) p)), part p h)))
      where
        part : (p : List P) → q * 3 + k ≤ length p → length (take k (drop (q * 3) p)) ≡ k
        part p h = length-take-le k (drop (q * 3) p) (omega (arith, length-drop (q * 3) p))

        by : (i : ℕ) → i < k → get_or (stroked d mix (take k (drop (q * 3) p))) i d ≡ get_or (take k (drop (q * 3) (stroked d mix p))) i d
        by i l =
            let m : (q * 3 + i) % 3 ≡ i % 3 = omega arith in
            stroked-at (take k (drop (q * 3) p)) i d (omega (arith, part p h))
            ∙ ap (mix (i % 3)) (get_or-take k (drop (q * 3) p) i d l ∙ get_or-drop (q * 3) p i d)
            ∙ ap (λ (c : ℕ). mix c (get_or p (q * 3 + i) d)) (sym m)
            ∙ sym (stroked-at p (q * 3 + i) d (omega arith))
            ∙ sym (get_or-take k (drop (q * 3) (stroked d mix p)) i d l ∙ get_or-drop (q * 3) (stroked d mix p) i d)

-- ---- which pixels lie in the runs of rows lo up to y
and-false : (a : Bool) → a && false ≡ false
and-false true = refl
and-false false = refl

module _ (runs : List ℕ) (lo : ℕ) where
  -- a row from y on is not among them
  pub not_yet : (y x z : ℕ) → y ≤ z → in_runs runs lo y x z ≡ false
  unfolding in_runs
  not_yet y x z l = rw (le-ltb z y l, and-false (leb lo z)) refl

  -- nor one before lo
  pub not-before : (y x z : ℕ) → z < lo → in_runs runs lo y x z ≡ false
  unfolding in_runs
  not-before y x z l = rw (lt-leb lo z l) refl

  -- row y makes no difference to another
  pub other_row : (y x z : ℕ) → (z < y) ⊎ (y < z) → in_runs runs lo (y + 1) x z ≡ in_runs runs lo y x z
  unfolding in_runs
  other_row y x z (inl l) = rw (lt-ltb z y l, lt-ltb z (y + 1) (omega arith)) refl
  other_row y x z (inr l) = rw (le-ltb z y (omega arith), le-ltb z (y + 1) (omega arith)) refl

  -- in a row among them: those of its run
  pub on_run : (y x z : ℕ) → lo ≤ z → z < y → run_left runs z ≤ x → x < run_right runs z → in_runs runs lo y x z ≡ true
  unfolding in_runs
  on_run y x z a b c d = rw (le-leb lo z a, lt-ltb z y b, le-leb (run_left runs z) x c, lt-ltb x (run_right runs z) d) refl

  pub off_run : (y x z : ℕ) → (x < run_left runs z) ⊎ (run_right runs z ≤ x) → in_runs runs lo y x z ≡ false
  unfolding in_runs
  off_run y x z (inl l) = rw (lt-leb (run_left runs z) x l, and-false (leb lo z && ltb z y)) refl
  off_run y x z (inr l) = rw (le-ltb x (run_right runs z) l, and-false (leb lo z && ltb z y && leb (run_left runs z) x)) refl

apart : (a b : ℕ) → (a < b) ⊎ (a ≡ b) ⊎ (b < a)
apart a b = elim (dec_le a b) [
  | no p ↦ inr (inr (omega arith))
  | yes p ↦ elim (dec_le b a) [ yes q ↦ inr (inl (omega arith)) | no q ↦ inl (omega arith) ]
]

pub le-or-lt : (a b : ℕ) → (a ≤ b) ⊎ (b < a)
le-or-lt a b = elim (dec_le a b) [ yes p ↦ inl p | no p ↦ inr (omega arith) ]

-- ---- a picture recoloured row by row
module _ {P : Type 0} (d : P) (mix : ℕ → P → P) (w h : ℕ) (old : List P) (size : length old ≡ h * w * 3) where
  same_test : (s t : ℕ → ℕ → Bool) (ch y x : ℕ) → s x y ≡ t x y → recoloured s mix (picture_of d w old) ch y x ≡ recoloured t mix (picture_of d w old) ch y x
  same_test s t ch y x e = ap (λ (b : Bool). cond b (mix ch (picture_of d w old ch y x)) (picture_of d w old ch y x)) e

  -- one list for tests that agree on the picture
  pub recoloured_same : (s t : ℕ → ℕ → Bool) → ((x y : ℕ) → x < w → y < h → s x y ≡ t x y)
      → list_of w h (recoloured s mix (picture_of d w old)) ≡ list_of w h (recoloured t mix (picture_of d w old))
  recoloured_same s t e =
      list-is w h (recoloured t mix (picture_of d w old)) d (list_of w h (recoloured s mix (picture_of d w old))) (length-list w h (recoloured s mix (picture_of d w old)))
      (λ ch y x c l m. list_at w h (recoloured s mix (picture_of d w old)) d ch y x c l m ∙ same_test s t ch y x (e x y m l))

  -- where the test holds nowhere, nothing changes
  pub recoloured_none : (s : ℕ → ℕ → Bool) → ((x y : ℕ) → x < w → y < h → s x y ≡ false) → old ≡ list_of w h (recoloured s mix (picture_of d w old))
  recoloured_none s e = list-is w h (recoloured s mix (picture_of d w old)) d old size (λ ch y x c l m. sym (same_test s (λ x y. false) ch y x (e x y m l)))

  module _ (runs : List ℕ) (lo : ℕ) where
    -- rows lo up to y are painted
    unfoldable pub up_to : ℕ → List P
    up_to y = list_of w h (recoloured (in_runs runs lo y) mix (picture_of d w old))

    pub up_none : old ≡ up_to lo
    unfolding up_to
    up_none = recoloured_none (in_runs runs lo lo) (λ x y k l. ⊎_elim (λ m. not_yet runs lo lo x y m) (λ m. not-before runs lo lo x y m) (le-or-lt lo y))

    pub length_up : (y : ℕ) → length (up_to y) ≡ h * w * 3
    unfolding up_to
    length_up y = length-list w h (recoloured (in_runs runs lo y) mix (picture_of d w old))

    -- row y's run was lent, `&mut now[a..e]`, and came back mixed
    module _ (y a e : ℕ) (part : List P) (from : lo ≤ y) (below : y < h) (order : run_left runs y ≤ run_right runs y) (room : run_right runs y ≤ w)
        (is-a : a ≡ (y * w + run_left runs y) * 3) (is-e : e ≡ (y * w + run_right runs y) * 3) (is : part ≡ stroked d mix (take (e - a) (drop a (up_to y)))) where
      a_e : a ≤ e
      a_e = omega arith

      e_in : e ≤ length (up_to y)
      e_in = omega (arith, length_up y, row-le w below)

      lent : length (take (e - a) (drop a (up_to y))) ≡ e - a
      lent = length-take-le (e - a) (drop a (up_to y)) (omega (arith, length-drop a (up_to y), a_e, e_in))

      length_back : length part ≡ e - a
      length_back = ap length is ∙ length-stroked d mix (take (e - a) (drop a (up_to y))) ∙ lent

      new : List P
      new = put_mid a (e - a) (up_to y) part

      off : (i : ℕ) → (i < a) ⊎ (e ≤ i) → get_or new i d ≡ get_or (up_to y) i d
      unfolding new
      off i (inl l) = put_low a (e - a) i (up_to y) part d (omega (arith, a_e, e_in)) l
      off i (inr l) = put_high a (e - a) i (up_to y) part d (omega (arith, a_e, e_in)) length_back (omega (arith, a_e))

      on : (i : ℕ) → a ≤ i → i < e → get_or new i d ≡ mix (i % 3) (get_or (up_to y) i d)
      unfolding new
      on i l m =
          let j : a + (i - a) ≡ i = omega arith in
          let k : (i - a) % 3 ≡ i % 3 = omega arith in
          ap (λ (n : ℕ). get_or new n d) (sym j)
          ∙ put_mid_lem a (e - a) (i - a) (up_to y) part d (omega (arith, a_e, e_in)) (omega (arith, length_back))
          ∙ ap (λ (q : List P). get_or q (i - a) d) is
          ∙ stroked-at d mix (take (e - a) (drop a (up_to y))) (i - a) d (omega (arith, lent))
          ∙ ap (mix ((i - a) % 3)) (get_or-take (e - a) (drop a (up_to y)) (i - a) d (omega arith) ∙ get_or-drop a (up_to y) (i - a) d ∙ ap (λ (n : ℕ). get_or (up_to y) n d) j)
          ∙ ap (λ (n : ℕ). mix n (get_or (up_to y) i d)) k

      -- what was there before, by its place
      was : (ch z x : ℕ) → ch < 3 → z < h → x < w → get_or (up_to y) ((z * w + x) * 3 + ch) d ≡ recoloured (in_runs runs lo y) mix (picture_of d w old) ch z x
      unfolding up_to
      was ch z x c l m = list_at w h (recoloured (in_runs runs lo y) mix (picture_of d w old)) d ch z x c l m

      after : ℕ → ℕ → ℕ → P
      after ch z x = recoloured (in_runs runs lo (y + 1)) mix (picture_of d w old) ch z x

      -- in row y
      same : (ch x : ℕ) → ch < 3 → x < w → picture_of d w new ch y x ≡ after ch y x
      unfolding after
      same ch x c m =
          ⊎_elim
          (λ (p : run_left runs y ≤ x).
          ⊎_elim
          (λ (q : run_right runs y ≤ x). beside (inr q))
          (λ (q : x < run_right runs y).
          on ((y * w + x) * 3 + ch) (omega arith) (omega arith)
          ∙ ap (λ (n : ℕ). mix n (get_or (up_to y) ((y * w + x) * 3 + ch) d)) (index_mod 3 (y * w + x) ch c)
          ∙ ap (mix ch) (was ch y x c below m ∙ same_test (in_runs runs lo y) (λ x y. false) ch y x (not_yet runs lo y x y (omega arith)))
          ∙ sym (same_test (in_runs runs lo (y + 1)) (λ x y. true) ch y x (on_run runs lo (y + 1) x y from (omega arith) p q)))
          (le-or-lt (run_right runs y) x))
          (λ (p : x < run_left runs y). beside (inl p))
          (le-or-lt (run_left runs y) x)
        where
          beside : (x < run_left runs y) ⊎ (run_right runs y ≤ x) → picture_of d w new ch y x ≡ after ch y x
          beside o =
              off ((y * w + x) * 3 + ch) (⊎_elim (λ (j : x < run_left runs y). inl (omega arith)) (λ (j : run_right runs y ≤ x). inr (omega arith)) o)
              ∙ was ch y x c below m
              ∙ same_test (in_runs runs lo y) (in_runs runs lo (y + 1)) ch y x (off_run runs lo y x y o ∙ sym (off_run runs lo (y + 1) x y o))

      place : (ch z x : ℕ) → ch < 3 → z < h → x < w → picture_of d w new ch z x ≡ after ch z x
      unfolding after
      place ch z x c l m = ⊎_elim (λ k. other (inl k)) (λ k. ⊎_elim (λ j. subst (λ (t : ℕ). picture_of d w new ch t x ≡ after ch t x) (sym j) (same ch x c m)) (λ j. other (inr j)) k) (apart z y)
        where
          other : (z < y) ⊎ (y < z) → picture_of d w new ch z x ≡ after ch z x
          other k =
              off ((z * w + x) * 3 + ch) (⊎_elim (λ (j : z < y). inl (omega (arith, row-le w j))) (λ (j : y < z). inr (omega (arith, row-le w j))) k)
              ∙ was ch z x c l m
              ∙ sym (same_test (in_runs runs lo (y + 1)) (in_runs runs lo y) ch z x (other_row runs lo y x z k))

    pub up_more : (y a e : ℕ) (part : List P) → lo ≤ y → y < h → run_left runs y ≤ run_right runs y → run_right runs y ≤ w → a ≡ (y * w + run_left runs y) * 3
        → e ≡ (y * w + run_right runs y) * 3 → part ≡ stroked d mix (take (e - a) (drop a (up_to y))) → put_mid a (e - a) (up_to y) part ≡ up_to (y + 1)
    unfolding up_to new after
    up_more y a e part f b o r p q s =
        list-is w h (recoloured (in_runs runs lo (y + 1)) mix (picture_of d w old)) d (put_mid a (e - a) (up_to y) part)
        (same_len_mid a (e - a) (up_to y) part (length_back y a e part f b o r p q s ∙ sym (lent y a e part f b o r p q s)) ∙ length_up y)
        (place y a e part f b o r p q s)
