-- Laws: row y of the pictures and of the table, lent on to a row routine: what it asks, and what comes back.
use Rattle.std.specs.Prelude.{◌≡◌, Bool, true, false, not, ◌&&◌, List, ℕ, ◌+◌, ◌-◌, ◌*◌, ◌≤◌, ◌<◌, T, leb, length, take, drop, get_or, Float}
use Rattle.std.proofs.Common.{sym, ◌∙◌, subst, le_trans, le_of_eq, mul-le-mul_right, add-mul, arith, leb→le}
use Rattle.std.proofs.Math.Path.{ap}
use Rattle.std.proofs.Math.Dec.{nleb→lt}
use Rattle.std.specs.Float.{nan, binary32}
use Rattle.std.specs.Float.Ieee.{eq, sub}
use borrow.Rule.Slice.PartMut.{put_mid}
use Rattle.laws.specs.Rows.{cut, put_row, put_rows}
use Rattle.laws.specs.Bools.{true_is, and_left, and_right}
use Rattle.laws.specs.EveryLaws.{every-each, every_of}
use Rattle.laws.specs.RowLaws.{part_cut, length_part, length_cut, get_d_cut, put_row_lem, put_rows-more, row_in}
use Rattle.float.specs.Within.{within, number, all_numbers, all_within}
use Rattle.float.specs.WithinLaws.{within-number}
use Rattle.float.specs.Numbers.{itself_number}
use Rattle.float.specs.MarksLaws.{parts_numbers}
use Rattle.rows.specs.Places.{RowSizes, row_of}
use Rattle.table.specs.Fills.{Sizes, row_at, NumbersBetween}

module _ (w y : ℕ) (target canvas table tr cr : List Float) (a : tr ≡ cut (w * 3) y target) (b : cr ≡ cut (w * 3) y canvas) where
  -- the table's part as it is lent
  abbrev part : List Float
  part = take (y * ((w + 1) * 15) + (w + 1) * 15 - y * ((w + 1) * 15)) (drop (y * ((w + 1) * 15)) table)

  pub row_sizes : w ≤ 256 → y * (w * 3) + w * 3 ≤ length target → y * (w * 3) + w * 3 ≤ length canvas → y * ((w + 1) * 15) + (w + 1) * 15 ≤ length table
      → RowSizes w tr cr part
  row_sizes n p q r = record {
    narrow = n;
    targets = ap length (a ∙ sym (part_cut (w * 3) y target)) ∙ length_part (y * (w * 3)) (w * 3) target p;
    canvases = ap length (b ∙ sym (part_cut (w * 3) y canvas)) ∙ length_part (y * (w * 3)) (w * 3) canvas q;
    places = length_part (y * ((w + 1) * 15)) ((w + 1) * 15) table r;
  }

  pub row_back : (whole : Bool) (last : List Float) → last ≡ row_of whole w tr cr part
      → put_mid (y * ((w + 1) * 15)) (y * ((w + 1) * 15) + (w + 1) * 15 - y * ((w + 1) * 15)) table last
      ≡ put_row ((w + 1) * 15) y (row_at whole w target canvas y (cut ((w + 1) * 15) y table)) table
  unfolding row_at
  row_back whole last e =
      put_row_lem ((w + 1) * 15) y last table
      ∙ ap (λ r. put_row ((w + 1) * 15) y r table)
      (e ∙ ap (λ r. row_of whole w r cr part) a ∙ ap (λ r. row_of whole w (cut (w * 3) y target) r part) b ∙ ap (row_of whole w (cut (w * 3) y target) (cut (w * 3) y canvas)) (part_cut ((w + 1) * 15) y table))

-- one number more of both pictures: their difference is no NaN
pub numbers_more : (target canvas : List Float) (from k : ℕ) (ok : Bool) (d : Float) → d ≡ sub binary32 (get_or target k nan) (get_or canvas k nan)
    → (ok ≡ true → NumbersBetween from k target canvas) → ok && eq d d ≡ true → NumbersBetween from (k + 1) target canvas
numbers_more target canvas from k ok d e inv h i l m = go (leb k i) (leb→le k i) (nleb→lt k i)
  where
    here : T (number (get_or target k nan)) × T (number (get_or canvas k nan))
    here =
        parts_numbers binary32 (get_or target k nan) (get_or canvas k nan)
        (subst (λ (v : Float). T (number v)) e (true_is (number d) (sym (itself_number d) ∙ and_right ok (eq d d) h)))

    go : (b : Bool) → (T b → k ≤ i) → (T (not b) → i < k) → T (number (get_or target i nan)) × T (number (get_or canvas i nan))
    go true f g = let p = f tt in let z : k ≡ i = omega arith in subst (λ (j : ℕ). T (number (get_or target j nan)) × T (number (get_or canvas j nan))) z here
    go false f g = inv (and_left ok (eq d d) h) i l (g tt)

-- pictures within 0..1 have no NaN
pub within_between : (from to : ℕ) (target canvas : List Float) → to ≤ length target → to ≤ length canvas → T (all_within target) × T (all_within canvas)
    → NumbersBetween from to target canvas
within_between from to target canvas a b w k m l = (here target a w.0, here canvas b w.1)
  where
    here : (xs : List Float) → to ≤ length xs → T (all_within xs) → T (number (get_or xs k nan))
    here xs h p = within-number (get_or xs k nan) (every-each within xs k nan p (omega arith))

-- rows lo to hi lie within both pictures
pub rows_within : (w h lo hi : ℕ) (target canvas table : List Float) → Sizes w h target canvas table → lo ≤ hi → hi ≤ h
    → (w ≤ 256) × (lo ≤ hi) × (hi ≤ 256) × (hi * (w * 3) ≤ length target) × (hi * (w * 3) ≤ length canvas)
rows_within w h lo hi target canvas table s p q =
    let n = mul-le-mul_right (w * 3) q in
    (s.narrow, p, le_trans q s.low, le_trans n (le_of_eq (sym s.targets)), le_trans n (le_of_eq (sym s.canvases)))

module _ (whole : Bool) (w h : ℕ) (target canvas : List Float) (lo y : ℕ) (old t : List Float) where
  -- row y lies within each
  pub row_within : Sizes w h target canvas old → length t ≡ h * ((w + 1) * 15) → y < h
      → (w ≤ 256) × (y * (w * 3) + w * 3 ≤ length target) × (y * (w * 3) + w * 3 ≤ length canvas) × (y * ((w + 1) * 15) + (w + 1) * 15 ≤ length t)
  row_within s e g = (s.narrow, row_in (w * 3) y h target s.targets g, row_in (w * 3) y h canvas s.canvases g, row_in ((w + 1) * 15) y h t e g)

  -- rows lo to y were written, and now row y
  pub row_more : lo ≤ y → t ≡ put_rows ((w + 1) * 15) (row_at whole w target canvas) lo y old → (new : List Float)
      → new ≡ put_row ((w + 1) * 15) y (row_at whole w target canvas y (cut ((w + 1) * 15) y t)) t
      → new ≡ put_rows ((w + 1) * 15) (row_at whole w target canvas) lo (y + 1) old
  row_more l e new f =
      f
      ∙ ap (λ m. put_row ((w + 1) * 15) y (row_at whole w target canvas y (cut ((w + 1) * 15) y m)) m) e
      ∙ put_rows-more ((w + 1) * 15) (row_at whole w target canvas) lo y old l

-- row y of rows lo to hi
module _ (n y lo hi h : ℕ) (target canvas : List Float) (a : lo ≤ y) (b : y < hi) (c : hi ≤ h) (t : length target ≡ h * n) (k : length canvas ≡ h * n) (p : NumbersBetween (lo * n) (hi * n) target canvas) where
  inside : (i : ℕ) → i < n → T (number (get_or target (y * n + i) nan)) × T (number (get_or canvas (y * n + i) nan))
  inside i l =
      let u : lo * n ≤ y * n = mul-le-mul_right n a in
      let v : (y + 1) * n ≤ hi * n = mul-le-mul_right n (omega arith) in
      p (y * n + i) (omega arith) (omega (arith, add-mul y 1 n))

  pub row_numbers : T (all_numbers (cut n y target)) × T (all_numbers (cut n y canvas))
  row_numbers = (
    every_of number (cut n y target) nan (λ i l. let m : i < n = rw (length_cut n y h target t (omega arith)) at l in subst (λ (v : Float). T (number v)) (sym (get_d_cut n y i target nan m)) (inside i m).0),
    every_of number (cut n y canvas) nan (λ i l. let m : i < n = rw (length_cut n y h canvas k (omega arith)) at l in subst (λ (v : Float). T (number v)) (sym (get_d_cut n y i canvas nan m)) (inside i m).1),
  )
