-- Rules: a list as rows of n, over any element. Row y is the n elements from y * n on.
use Rattle.std.specs.Prelude.{List, ℕ, zero, suc, ◌+◌, ◌-◌, ◌*◌, take, drop}
use borrow.Rule.Slice.PartMut.{put_mid}

module _ {A : Type 0} where
  -- row y
  unfoldable pub cut : ℕ → ℕ → List A → List A
  cut n y l = take n (drop (y * n) l)

  -- the list with r for row y
  unfoldable pub put_row : ℕ → ℕ → List A → List A → List A
  put_row n y r l = put_mid (y * n) n l r

  -- rows lo to lo + k, in order: row y becomes f y of what it was
  unfoldable pub put_rows_from : ℕ → (ℕ → List A → List A) → ℕ → ℕ → List A → List A
  put_rows_from n f lo zero l = l
  put_rows_from n f lo (suc k) l =
      let m = put_rows_from n f lo k l in put_row n (lo + k) (f (lo + k) (cut n (lo + k) m)) m

  -- rows lo to hi, without hi
  unfoldable pub put_rows : ℕ → (ℕ → List A → List A) → ℕ → ℕ → List A → List A
  unfolding put_rows_from
  put_rows n f lo hi l = put_rows_from n f lo (hi - lo) l
