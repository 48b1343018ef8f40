-- Laws: the count of both engines is the number of covered pixels, as the cover counts them.
use Rattle.std.specs.Prelude.{◌≡◌, Bool, cond, List, Float}
use Rattle.std.proofs.Math.Path.{refl}
use Rattle.std.proofs.Common.{◌∙◌}
use Rattle.std.proofs.Math.Bool.{true, false}
use Prim.Native.Nat.{ℕ, zero, suc, ◌+◌, ◌-◌}
use native.Mathlib.Omega.{arith}
use Rattle.laws.specs.Ends.{Ends, none, ends, ends_of, left_of, right_of, how_many, total, bit}
use Rattle.laws.specs.EndsLaws.{ends_run, run-count}
use Rattle.laws.specs.PixelSums.{add_span, span_sum, point_row, point_sum}
use Rattle.cover.specs.declared.Kind.{Kind}
use Rattle.cover.specs.Cover.{covered, count}
use Rattle.cover.specs.CoverLaws.{convex}
use Rattle.sums.specs.declared.ShapeSums.{ShapeSums}
use Rattle.sums.specs.Sums.{no_sums, pixel_sums, plus, minus}
use Rattle.table.specs.Layout.{place_of}
use Rattle.gather.specs.Gathered.{pixel_at, span_sums, point_sums}

-- ---- by points
module _ (w : ℕ) (target canvas : List Float) where
  one_more : (y x : ℕ) (s : ShapeSums) (b : Bool) → (cond b (plus s (pixel_at w target canvas y x)) s).count ≡ s.count + bit b
  unfolding plus pixel_sums
  one_more y x s true = refl
  one_more y x s false = omega arith

  row_count : (y : ℕ) (q : ℕ → Bool) (n : ℕ) (s : ShapeSums) → (point_row no_sums plus minus (pixel_at w target canvas y) q n s).count ≡ s.count + how_many q n
  unfolding point_row how_many
  row_count y q zero s = omega arith
  row_count y q (suc n) s =
      one_more y n (point_row no_sums plus minus (pixel_at w target canvas y) q n s) (q n) ∙ omega (arith, row_count y q n s)

  rows-count : (p : ℕ → ℕ → Bool) (h : ℕ) → (point_sum no_sums plus minus (pixel_at w target canvas) p w h).count ≡ total (λ y. how_many (λ x. p x y) w) h
  unfolding point_sum total no_sums
  rows-count p zero = refl
  rows-count p (suc y) =
      row_count y (λ x. p x y) w (point_sum no_sums plus minus (pixel_at w target canvas) p w y) ∙ omega (arith, rows-count p y)

pub points_count : (kind : Kind) (w h : ℕ) (target canvas : List Float) → (point_sums kind w h target canvas).count ≡ count kind w h
unfolding point_sums count
points_count kind w h target canvas = rows-count w target canvas (covered kind) h

-- ---- by spans: each row's run has its covered pixels and no other
span_count : (w : ℕ) (table : List Float) (y : ℕ) (e : Ends) (s : ShapeSums)
    → (add_span no_sums plus minus (place_of w table y) e s).count ≡ s.count + (right_of e - left_of e)
unfolding plus minus place_of
span_count w table y none s = omega arith
span_count w table y (ends l r) s = refl

rows_spanned : (kind : Kind) (w : ℕ) (table : List Float) (h : ℕ)
    → (span_sum no_sums plus minus (place_of w table) (covered kind) w h).count ≡ total (λ y. how_many (λ x. covered kind x y) w) h
unfolding span_sum total no_sums
rows_spanned kind w table zero = refl
rows_spanned kind w table (suc y) =
    span_count w table y (ends_of (λ x. covered kind x y) w) (span_sum no_sums plus minus (place_of w table) (covered kind) w y)
    ∙ omega (arith, rows_spanned kind w table y, run-count (λ x. covered kind x y) w (left_of (ends_of (λ x. covered kind x y) w)) (right_of (ends_of (λ x. covered kind x y) w)) (ends_run (λ x. covered kind x y) (convex kind y) w))

pub spans_count : (kind : Kind) (w h : ℕ) (table : List Float) → (span_sums kind w h table).count ≡ count kind w h
unfolding span_sums count
spans_count kind w h table = rows_spanned kind w table h
