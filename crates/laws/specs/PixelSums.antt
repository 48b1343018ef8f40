-- Rules: sums over the pixels at which a test holds, by runs and one by one, over any kind of number.
use Rattle.std.specs.Prelude.{Bool, cond, ℕ, zero, suc, ◌+◌}
use Rattle.laws.specs.Ends.{Ends, none, ends, ends_of}

module _ {E : Type 0} (nothing : E) (plus minus : E → E → E) where
  -- a row's run from pixel l to pixel r: place r + 1 minus place l, added to the running sum
  abbrev pub add_span : (ℕ → E) → Ends → E → E
  add_span place none s = s
  add_span place (ends l r) s = plus s (minus (place (r + 1)) (place l))

  -- by runs, rows from the top down; `place y x` is the number at place x of row y of a table
  unfoldable pub span_sum : (ℕ → ℕ → E) → (ℕ → ℕ → Bool) → ℕ → ℕ → E
  span_sum place p w zero = nothing
  span_sum place p w (suc y) = add_span (place y) (ends_of (λ x. p x y) w) (span_sum place p w y)

  -- one by one, in row order; `pixel y x` is pixel x of row y
  unfoldable pub point_row : (ℕ → E) → (ℕ → Bool) → ℕ → E → E
  point_row pixel q zero s = s
  point_row pixel q (suc x) s = cond (q x) (plus (point_row pixel q x s) (pixel x)) (point_row pixel q x s)

  unfoldable pub point_sum : (ℕ → ℕ → E) → (ℕ → ℕ → Bool) → ℕ → ℕ → E
  point_sum pixel p w zero = nothing
  point_sum pixel p w (suc y) = point_row (pixel y) (λ x. p x y) w (point_sum pixel p w y)
