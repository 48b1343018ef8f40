-- Laws: what each row adds to the sums of a shape, and what the rows of its reach come to; one answer for each promise.
use Rattle.std.specs.Prelude.{◌≡◌, refl, Bool, cond, List, T, Float, length, get_or, take, drop}
use Rattle.std.proofs.Math.Path.{sym, ap, ap₂}
use Rattle.std.proofs.Common.{◌∙◌, subst, mul-le-mul_right, lt-ltb, le-ltb, length-drop, get_or-take, get_or-drop, length-take-le}
use Prim.Native.Nat.{ℕ, zero, suc, ◌+◌, ◌-◌, ◌*◌, ◌≤◌, ◌<◌}
use native.Mathlib.Omega.{arith}
use Rattle.refusal.specs.Refusals.{Sized}
use Rattle.std.proofs.Math.Decide.{dec_le}
use Rattle.std.specs.Float.{nan}
use Rattle.laws.specs.EveryLaws.{every-each}
use Rattle.float.specs.Within.{number, all_numbers}
use Rattle.laws.specs.Ends.{Ends, none, ends, ends_of, left_of, right_of}
use Rattle.laws.specs.EndsLaws.{Ended, ended}
use Rattle.laws.specs.PixelSums.{add_span, point_row, span_sum}
use Rattle.laws.specs.RowFold.{rows_from}
use Rattle.laws.specs.RowFoldLaws.{rows_none, rows_more, rows_split, rows_same, rows-window, span_rows, point_rows, run-pixels}
use Rattle.cover.specs.declared.Kind.{Kind}
use Rattle.cover.specs.Cover.{covered, RunsSays}
use Rattle.cover.specs.CoverLaws.{left-ends, right-ends, row_run_lem, run_bounds}
use Rattle.cover.specs.ReachRows.{reach_rows, ReachRowsSays}
use Rattle.cover.specs.declared.reached.Rows.{Rows}
use Rattle.cover.specs.ReachRowsLaws.{through}
use Rattle.laws.specs.Runs.{runs_of}
use Rattle.sums.specs.declared.ShapeSums.{ShapeSums}
use Rattle.sums.specs.Sums.{no_sums, pixel_sums, plus, minus}
use Rattle.table.specs.Layout.{place_of}
use Rattle.gather.specs.RunSums.{run_added, run_left, run_right, runs_added, pixels_added, points_added, RunsFit, NumbersIn, Reached}
use Rattle.gather.specs.Gathered.{span_sums, point_sums, pixel_at, SpanSumsSays, PointSumsSays}

pub SpanSumsSays-unique : (kind : Kind) (w h : ℕ) (table : List Float) (r q : ShapeSums) → SpanSumsSays kind w h table r → SpanSumsSays kind w h table q → r ≡ q
SpanSumsSays-unique kind w h table r q f g = f ∙ sym g

pub PointSumsSays-unique : (kind : Kind) (w h : ℕ) (target canvas : List Float) (r q : ShapeSums) → PointSumsSays kind w h target canvas r → PointSumsSays kind w h target canvas q → r ≡ q
PointSumsSays-unique kind w h target canvas r q f g = f ∙ sym g

-- ---- spans
added_ends : (w : ℕ) (table : List Float) (y n : ℕ) (p : ℕ → Bool) (e : Ends) → Ended p n e → (s : ShapeSums)
    → run_added w table y (left_of e) (right_of e) s ≡ add_span no_sums plus minus (place_of w table y) e s
added_ends w table y n p none g s = refl
added_ends w table y n p (ends l r) g s =
    ap (λ (b : Bool). cond b (plus s (minus (place_of w table y (r + 1)) (place_of w table y l))) s) (lt-ltb l (r + 1) (omega (arith, g.0)))

pub no_count : no_sums.count ≡ 0
unfolding no_sums
no_count = refl

-- a run adds its length to the count
pub added_count : (w : ℕ) (table : List Float) (y left right : ℕ) (s : ShapeSums) → left ≤ right
    → (run_added w table y left right s).count ≡ s.count + (right - left)
unfolding plus minus place_of
added_count w table y left right s l = by (dec_le right left)
  where
    by : Dec (right ≤ left) → (run_added w table y left right s).count ≡ s.count + (right - left)
    by (yes e) = ap (λ (b : Bool). (cond b (plus s (minus (place_of w table y right) (place_of w table y left))) s).count) (le-ltb left right e) ∙ omega arith
    by (no n) = ap (λ (b : Bool). (cond b (plus s (minus (place_of w table y right) (place_of w table y left))) s).count) (lt-ltb left right (omega arith))

-- ---- the loops over the runs
module _ (w : ℕ) (table : List Float) (runs : List ℕ) (top : ℕ) where
  pub runs_none : runs_added w table runs top 0 ≡ no_sums
  unfolding runs_added
  runs_none = rows_none (λ y. run_added w table y (run_left runs y) (run_right runs y)) top no_sums

  pub runs-more : (y : ℕ) → top ≤ y
      → run_added w table y (run_left runs y) (run_right runs y) (runs_added w table runs top (y - top)) ≡ runs_added w table runs top (y + 1 - top)
  unfolding runs_added
  runs-more y l = rows_more (λ z. run_added w table z (run_left runs z) (run_right runs z)) top y no_sums l

module _ (w : ℕ) (target canvas : List Float) where
  pub pixels-none : (y left : ℕ) (s : ShapeSums) → pixels_added w target canvas y left 0 s ≡ s
  unfolding pixels_added
  pixels-none y left s = rows_none (λ x u. plus u (pixel_at w target canvas y x)) left s

  pub pixels-more : (y left x : ℕ) (s : ShapeSums) → left ≤ x
      → plus (pixels_added w target canvas y left (x - left) s) (pixel_at w target canvas y x) ≡ pixels_added w target canvas y left (x + 1 - left) s
  unfolding pixels_added
  pixels-more y left x s l = rows_more (λ z u. plus u (pixel_at w target canvas y z)) left x s l

  -- from pixel x on, after those before it
  pub pixels-cut : (y left x right : ℕ) (s : ShapeSums) → left ≤ x → x ≤ right
      → pixels_added w target canvas y x (right - x) (pixels_added w target canvas y left (x - left) s) ≡ pixels_added w target canvas y left (right - left) s
  unfolding pixels_added
  pixels-cut y left x right s l r =
      let step : ℕ → ShapeSums → ShapeSums = λ z u. plus u (pixel_at w target canvas y z) in
      let e : left + (x - left) ≡ x = omega arith in
      let g : x - left + (right - x) ≡ right - left = omega arith in
      ap (λ (a : ℕ). rows_from step a (right - x) (rows_from step left (x - left) s)) (sym e)
      ∙ rows_split step left (x - left) (right - x) s
      ∙ ap (λ (n : ℕ). rows_from step left n s) g

  -- each adds one to the count
  pub pixels-count : (y left k : ℕ) (s : ShapeSums) → (pixels_added w target canvas y left k s).count ≡ s.count + k
  unfolding pixels_added rows_from plus pixel_sums
  pixels-count y left zero s = omega arith
  pixels-count y left (suc k) s = omega (arith, pixels-count y left k s)

  module _ (runs : List ℕ) (top : ℕ) where
    pub points_none : points_added w target canvas runs top 0 ≡ no_sums
    unfolding points_added
    points_none = rows_none (λ y. pixels_added w target canvas y (run_left runs y) (run_right runs y - run_left runs y)) top no_sums

    pub points_more : (y : ℕ) → top ≤ y
        → pixels_added w target canvas y (run_left runs y) (run_right runs y - run_left runs y) (points_added w target canvas runs top (y - top))
        ≡ points_added w target canvas runs top (y + 1 - top)
    unfolding points_added
    points_more y l = rows_more (λ z. pixels_added w target canvas z (run_left runs z) (run_right runs z - run_left runs z)) top y no_sums l

-- a part without a NaN
pub numbers_part : (xs : List Float) (a e : ℕ) → e ≤ length xs → T (all_numbers (take (e - a) (drop a xs))) → NumbersIn xs a e
numbers_part xs a e l h i g k =
    let n : i - a < length (take (e - a) (drop a xs)) = omega (arith, length-take-le (e - a) (drop a xs) (omega (arith, length-drop a xs))) in
    let v = every-each number (take (e - a) (drop a xs)) (i - a) nan h n in
    let s : a + (i - a) ≡ i = omega arith in
    subst (λ (x : Float). T (number x)) (get_or-take (e - a) (drop a xs) (i - a) nan (omega arith) ∙ get_or-drop a xs (i - a) nan ∙ ap (λ (j : ℕ). get_or xs j nan) s) v

-- over the rows of the reach they are the sums of the whole picture
module _ (kind : Kind) (w h : ℕ) (room : h ≤ 256) where
  abbrev runs : List ℕ
  runs = runs_of (covered kind) w h

  abbrev top : ℕ
  top = (reach_rows kind w h).top

  abbrev bottom : ℕ
  bottom = (reach_rows kind w h).bottom

  within_picture : top < bottom → bottom ≤ h
  within_picture l = let n : bottom - 1 < h = (through kind w h).inside (bottom - 1) (omega arith) (omega arith) in omega arith

  -- span by span; whatever `span_sums` says
  spanned : (table : List Float) → runs_added w table runs top (bottom - top) ≡ span_sum no_sums plus minus (place_of w table) (covered kind) w h
  unfolding runs_added
  spanned table =
      rows_same (λ y. run_added w table y (run_left runs y) (run_right runs y)) add top (bottom - top) no_sums
      (λ y a b t. let l : y < h = (through kind w h).inside y (omega (arith, (through kind w h).ordered)) a in
      ap₂ (λ (m n : ℕ). run_added w table y m n t) (left-ends kind w h room y l) (right-ends kind w h room y l)
      ∙ added_ends w table y w (λ x. covered kind x y) (ends_of (λ x. covered kind x y) w) (ended (λ x. covered kind x y) w) t)
      ∙ rows-window add top bottom h no_sums (through kind w h).ordered within_picture
      (λ y l o t. ap (λ (e : Ends). add_span no_sums plus minus (place_of w table y) e t) ((through kind w h).outside y l o))
      ∙ sym (span_rows no_sums plus minus (place_of w table) (covered kind) w h)
    where
      add : ℕ → ShapeSums → ShapeSums
      add y = add_span no_sums plus minus (place_of w table y) (ends_of (λ x. covered kind x y) w)

  pub reach-sums : (table : List Float) → runs_added w table runs top (bottom - top) ≡ span_sums kind w h table
  unfolding span_sums
  reach-sums table = spanned table

  pub reach_points : (target canvas : List Float) → points_added w target canvas runs top (bottom - top) ≡ point_sums kind w h target canvas
  unfolding points_added pixels_added point_sums
  reach_points target canvas =
      rows_same (λ y. pixels_added w target canvas y (run_left runs y) (run_right runs y - run_left runs y)) row top (bottom - top) no_sums
      (λ y a b t. let l : y < h = (through kind w h).inside y (omega (arith, (through kind w h).ordered)) a in pixels y l t)
      ∙ rows-window row top bottom h no_sums (through kind w h).ordered within_picture
      (λ y l o t. sym (pixels y l t)
      ∙ ap₂ (λ (m n : ℕ). rows_from (λ x u. plus u (pixel_at w target canvas y x)) m (n - m) t)
      (left-ends kind w h room y l ∙ ap left_of ((through kind w h).outside y l o)) (right-ends kind w h room y l ∙ ap right_of ((through kind w h).outside y l o))
      ∙ rows_none (λ x u. plus u (pixel_at w target canvas y x)) 0 t)
      ∙ sym (point_rows no_sums plus minus (pixel_at w target canvas) (covered kind) w h)
    where
      row : ℕ → ShapeSums → ShapeSums
      row y = point_row no_sums plus minus (pixel_at w target canvas y) (λ x. covered kind x y) w

      pixels : (y : ℕ) → y < h → (t : ShapeSums)
          → rows_from (λ x u. plus u (pixel_at w target canvas y x)) (run_left runs y) (run_right runs y - run_left runs y) t ≡ row y t
      pixels y l t =
          sym (run-pixels no_sums plus minus (pixel_at w target canvas y) (λ x. covered kind x y) w (run_left runs y) (run_right runs y) (row_run_lem kind w h room y l) t)

  -- what the loops ask of the runs
  pub runs_fit : RunsFit runs w top bottom
  runs_fit y a b = run_bounds kind w h room y ((through kind w h).inside y b a)

  -- a reach without a row has no sums
  module _ (empty : bottom ≤ top) where
    no_rows : bottom - top ≡ 0
    no_rows = omega (arith, empty)

    pub none_spans : (table : List Float) → no_sums ≡ span_sums kind w h table
    unfolding span_sums
    none_spans table = sym (runs_none w table runs top) ∙ ap (runs_added w table runs top) (sym no_rows) ∙ spanned table

    pub none_points : (target canvas : List Float) → no_sums ≡ point_sums kind w h target canvas
    none_points target canvas =
        sym (points_none w target canvas runs top) ∙ ap (points_added w target canvas runs top) (sym no_rows) ∙ reach_points target canvas

-- the rows that were found, some or none
module _ (kind : Kind) (w h : ℕ) (r : Rows) (e : ReachRowsSays kind w h r) where
  pub some_reached : r.top < r.bottom → Reached kind w h r.top r.bottom
  some_reached l = (ap (λ (q : Rows). q.top) e, ap (λ (q : Rows). q.bottom) e, l)

  pub none_reached : r.bottom ≤ r.top → (reach_rows kind w h).bottom ≤ (reach_rows kind w h).top
  none_reached l = subst (λ (q : Rows). q.bottom ≤ q.top) e l

-- the runs over the rows that were found: what the loops ask, and what they come to
module _ (kind : Kind) (w h : ℕ) (z : Sized w h) (top bottom : ℕ) (g : Reached kind w h top bottom) where
  pub reached_high : (m : ℕ) → bottom * m ≤ h * m
  reached_high m =
      let n : bottom - 1 < h = (through kind w h).inside (bottom - 1) (omega (arith, g.0, g.1, g.2)) (omega (arith, g.0, g.1, g.2)) in
      mul-le-mul_right m (omega (arith, n, g.2))

  pub reached_rows : (w ≤ 256) × (top ≤ bottom) × (bottom ≤ 256)
  reached_rows = (z.w_high, omega (arith, g.2), omega (arith, reached_high 1, z.h_high))

  module _ (runs : List ℕ) (f : RunsSays kind w h runs) where
    pub reached_fit : RunsFit runs w top bottom
    reached_fit = rw (g.0, g.1, f) (runs_fit kind w h z.h_high)

    pub reached_spans : (table : List Float) → runs_added w table runs top (bottom - top) ≡ span_sums kind w h table
    unfolding span_sums
    reached_spans table = rw (g.0, g.1, f) (spanned kind w h z.h_high table)

    pub reached_points : (target canvas : List Float) → points_added w target canvas runs top (bottom - top) ≡ point_sums kind w h target canvas
    reached_points target canvas = rw (g.0, g.1, f) (reach_points kind w h z.h_high target canvas)
