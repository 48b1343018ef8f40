-- Laws: painting by the numbers of a picture: each new number comes of the old one alone, and those of rows that a shape does not reach stay.
use Rattle.std.specs.Prelude.{◌≡◌, Bool, cond, ◌⊎◌, List, ℕ, ◌*◌, ◌/◌, ◌%◌, ◌≤◌, ◌<◌, get_or, Float}
use Rattle.std.proofs.Common.{sym, ◌∙◌, subst, inl, inr, ⊎_elim, mod-lt, arith}
use Rattle.std.proofs.Math.Path.{ap}
use Rattle.std.specs.Float.Ieee.{nan}
use Rattle.laws.specs.RowSums.{picture_of}
use Rattle.laws.specs.Pictures.{channel_of, recoloured}
use Rattle.laws.specs.PictureLaws.{list-number, number_back, number_in, row_in_picture}
use Rattle.laws.specs.StrokeLaws.{le-or-lt}
use Rattle.laws.specs.EndsLaws.{Ended, ended}
use Rattle.cover.specs.declared.Kind.{Kind}
use Rattle.cover.specs.Cover.{covered}
use Rattle.cover.specs.ReachRows.{reach_rows}
use Rattle.cover.specs.ReachRowsLaws.{through}
use Rattle.picture.specs.Painting.{blended, painted}

module _ (kind : Kind) (opacity red green blue : Float) (w h i : ℕ) (columns : 0 < w) (inside : i < h * w * 3) where
  abbrev recolour : Float → Float
  recolour old = cond (covered kind (i / 3 % w) (i / 3 / w)) (blended opacity (channel_of red green blue (i % 3)) old) old

  painted-number : (old : List Float) → get_or (painted kind opacity red green blue w h old) i nan ≡ recolour (get_or old i nan)
  unfolding painted
  painted-number old =
      list-number w h (recoloured (covered kind) (λ ch old. blended opacity (channel_of red green blue ch) old) (picture_of nan w old)) i nan inside
      ∙ ap (λ (k : ℕ). recolour (get_or old k nan)) (number_back w h i columns)

  -- pictures that agree at a number still do
  pub painted_agrees : (p q : List Float) → get_or p i nan ≡ get_or q i nan → get_or (painted kind opacity red green blue w h p) i nan ≡ get_or (painted kind opacity red green blue w h q) i nan
  painted_agrees p q e = painted-number p ∙ ap recolour e ∙ sym (painted-number q)

  -- a number of a row that the shape does not reach
  spared : (old : List Float) → (i / 3 / w < (reach_rows kind w h).top) ⊎ ((reach_rows kind w h).bottom ≤ i / 3 / w) → get_or (painted kind opacity red green blue w h old) i nan ≡ get_or old i nan
  spared old out =
      painted-number old
      ∙ ap (λ (b : Bool). cond b (blended opacity (channel_of red green blue (i % 3)) (get_or old i nan)) (get_or old i nan))
      (subst (Ended (λ x. covered kind x (i / 3 / w)) w) ((through kind w h).outside (i / 3 / w) (row_in_picture w h i columns inside) out) (ended (λ x. covered kind x (i / 3 / w)) w)
      (i / 3 % w) (mod-lt (i / 3) columns))

  -- above the first row that it reaches
  pub painted-above : (old : List Float) (n : ℕ) → n ≤ (reach_rows kind w h).top → i < n * w * 3 → get_or (painted kind opacity red green blue w h old) i nan ≡ get_or old i nan
  painted-above old n above l = spared old (inl (omega (arith, row_in_picture w n i columns l)))

  -- and below the last
  pub painted_below : (old : List Float) (n : ℕ) → (reach_rows kind w h).bottom ≤ n → n * w * 3 ≤ i → get_or (painted kind opacity red green blue w h old) i nan ≡ get_or old i nan
  painted_below old n below l = spared old (inr (⊎_elim (λ (k : n ≤ i / 3 / w). omega (arith, k)) (λ (k : i / 3 / w < n). absurd (high k)) (le-or-lt n (i / 3 / w))))
    where
      high : i / 3 / w < n → ⊥
      high k = omega (arith, number_back w h i columns, number_in w n (i / 3 / w) (i / 3 % w) (i % 3) (mod-lt i (omega arith)) k (mod-lt (i / 3) columns))
