-- Laws: the steps of painting by runs, and that they are the rule; what painting leaves as it was; pictures within 0..1 stay so; the promise has one answer.
use Rattle.std.specs.Prelude.{◌≡◌, Bool, List, ℕ, zero, suc, ◌+◌, ◌*◌, ◌≤◌, ◌<◌, ◌⊎◌, pos, ◌<ℤ◌, length, get_or, Float}
use Rattle.std.proofs.Math.Path.{refl, sym, ap}
use Rattle.std.proofs.Common.{◌∙◌, subst, arith, inl, inr, ⊎_elim}
use Rattle.std.proofs.Math.Bool.{true, false, cond}
use Rattle.std.proofs.Math.Dec.{T}
use Rattle.std.specs.Float.Ieee.{nan, fits}
use Rattle.std.specs.Float.{binary32}
use Rattle.laws.specs.RowSums.{picture_of}
use Rattle.laws.specs.Pictures.{channel_of, recoloured}
use Rattle.laws.specs.PictureLaws.{length-list, list_at, list_same, list-every, number_in}
use Rattle.laws.specs.Strokes.{run_left, run_right, RunsWithin, in_runs}
use Rattle.laws.specs.StrokeLaws.{on_run, off_run, up_to, up_none, up_more, recoloured_none, le-or-lt}
use Rattle.laws.specs.EndsLaws.{Ended, ended}
use Rattle.laws.specs.Runs.{runs_of}
use Rattle.laws.specs.Bools.{true_or_false}
use Rattle.laws.specs.Fit.{no_both}
use Rattle.refusal.specs.Refusals.{Sized}
use Rattle.float.specs.Within.{within, all_within}
use Rattle.float.specs.BlendLaws.{paint-within}
use Rattle.tally.specs.TallyLaws.{within-at}
use Rattle.cover.specs.declared.Kind.{Kind}
use Rattle.cover.specs.Cover.{covered, reach}
use Rattle.cover.specs.declared.reached.Rows.{Rows}
use Rattle.cover.specs.ReachRows.{reach_rows}
use Rattle.cover.specs.ReachRowsLaws.{through}
use Rattle.cover.specs.CoverLaws.{in_run, run_bounds, not_covered}
use Rattle.brush.specs.declared.Brush.{Brush}
use Rattle.brush.specs.Brushes.{brush_of, mixed}
use Rattle.picture.specs.Painting.{blended, painted, BlendSays}
use Rattle.picture.specs.Pixels.{bad_colour}
use Rattle.picture.specs.PixelLaws.{colour_within}
use Rattle.picture.specs.Strokes.{brushed_part, brushed_rows, RowsWithin}

pub BlendSays-unique : (kind : Kind) (opacity red green blue : Float) (w h : ℕ) (old new also : List Float)
    → BlendSays kind opacity red green blue w h old new → BlendSays kind opacity red green blue w h old also → new ≡ also
BlendSays-unique kind opacity red green blue w h old new also p q = p ∙ sym q

-- ---- row by row
module _ (b : Brush) (runs : List ℕ) (lo w h : ℕ) (old : List Float) where
  pub length-rows : (y : ℕ) → length (brushed_rows b runs lo y w h old) ≡ h * w * 3
  length-rows y = length-list w h (recoloured (in_runs runs lo y) (mixed b) (picture_of nan w old))

  pub rows_none : length old ≡ h * w * 3 → old ≡ brushed_rows b runs lo lo w h old
  unfolding up_to
  rows_none size = up_none nan (mixed b) w h old size runs lo

  pub rows_more : (y left right : ℕ) (now : List Float) → length old ≡ h * w * 3 → lo ≤ y → y < h → RunsWithin w h runs → left ≡ run_left runs y → right ≡ run_right runs y
      → now ≡ brushed_rows b runs lo y w h old → brushed_part b ((y * w + left) * 3) ((y * w + right) * 3) now ≡ brushed_rows b runs lo (y + 1) w h old
  unfolding up_to
  rows_more y left right now size f k ok l r e =
      let o = ok y k in
      rw (e, l, r) (up_more nan (mixed b) w h old size runs lo y ((y * w + run_left runs y) * 3) ((y * w + run_right runs y) * 3) _ f k o.0 o.1 refl refl refl)

-- ---- by runs and by the rule
module _ (kind : Kind) (w h : ℕ) (s : Sized w h) where
  abbrev top : ℕ
  top = (reach_rows kind w h).top

  abbrev bottom : ℕ
  bottom = (reach_rows kind w h).bottom

  abbrev runs : List ℕ
  runs = runs_of (covered kind) w h

  pub runs-within : RunsWithin w h (runs_of (covered kind) w h)
  runs-within y l = run_bounds kind w h s.h_high y l

  pub rows_within : RowsWithin h (reach_rows kind w h)
  rows_within = let t = through kind w h in record { ordered = t.ordered; inside = t.inside }

  -- a pixel lies in the runs of the rows that the shape reaches exactly if it is covered
  pub in_runs_lem : (x y : ℕ) → x < w → y < h
      → in_runs runs top bottom x y ≡ covered kind x y
  in_runs_lem x y k l = ⊎_elim (λ t. yes t ∙ sym t) (λ f. no f ∙ sym f) (true_or_false (covered kind x y))
    where
      -- rows beyond the reach have no covered pixel
      beyond : {X : Type 0} → covered kind x y ≡ true → (y < top) ⊎ (bottom ≤ y) → X
      beyond t p = no_both t (subst (Ended (λ x. covered kind x y) w) ((through kind w h).outside y l p) (ended (λ x. covered kind x y) w) x k)

      yes : covered kind x y ≡ true → in_runs runs top bottom x y ≡ true
      yes t =
          let b = (in_run kind w h s.h_high x y k l).1 t in
          ⊎_elim
          (λ (p : top ≤ y). ⊎_elim (λ (q : bottom ≤ y). beyond t (inr q)) (λ (q : y < bottom). on_run runs top bottom x y p q b.0 b.1) (le-or-lt bottom y))
          (λ (p : y < top). beyond t (inl p))
          (le-or-lt top y)

      no : covered kind x y ≡ false → in_runs runs top bottom x y ≡ false
      no f =
          ⊎_elim
          (λ (p : run_left runs y ≤ x).
          ⊎_elim
          (λ (q : run_right runs y ≤ x). off_run runs top bottom x y (inr q))
          (λ (q : x < run_right runs y). no_both ((in_run kind w h s.h_high x y k l).0 (p, q)) f)
          (le-or-lt (run_right runs y) x))
          (λ (p : x < run_left runs y). off_run runs top bottom x y (inl p))
          (le-or-lt (run_left runs y) x)

-- a brush of the opacity and the colour mixes as the rule says
pub mixed-blended : (opacity red green blue : Float) (ch : ℕ) (old : Float) → mixed (brush_of opacity red green blue) ch old ≡ blended opacity (channel_of red green blue ch) old
unfolding blended
mixed-blended opacity red green blue zero old = refl
mixed-blended opacity red green blue (suc zero) old = refl
mixed-blended opacity red green blue (suc (suc ch)) old = refl

module _ (kind : Kind) (opacity red green blue : Float) (w h : ℕ) (old : List Float) where
  -- what the code leaves is the rule
  pub painted-by-runs : (s : Sized w h)
      → brushed_rows (brush_of opacity red green blue) (runs_of (covered kind) w h) (reach_rows kind w h).top (reach_rows kind w h).bottom w h old ≡ painted kind opacity red green blue w h old
  unfolding painted
  painted-by-runs s =
      list_same w h _ _ nan
      (λ ch y x c l m.
      ap (λ (t : Bool). cond t (mixed (brush_of opacity red green blue) ch (picture_of nan w old ch y x)) (picture_of nan w old ch y x)) (in_runs_lem kind w h s x y m l)
      ∙ ap (λ (v : Float). cond (covered kind x y) v (picture_of nan w old ch y x)) (mixed-blended opacity red green blue ch (picture_of nan w old ch y x)))

  pub painted-is : (s : Sized w h) (b : Brush) (runs : List ℕ) (rows : Rows) (new : List Float) → b ≡ brush_of opacity red green blue → runs ≡ runs_of (covered kind) w h → rows ≡ reach_rows kind w h
      → new ≡ brushed_rows b runs rows.top rows.bottom w h old → new ≡ painted kind opacity red green blue w h old
  painted-is s b runs rows new p q r e =
      e
      ∙ ap (λ (t : Brush). brushed_rows t runs rows.top rows.bottom w h old) p
      ∙ ap (λ (t : List ℕ). brushed_rows (brush_of opacity red green blue) t rows.top rows.bottom w h old) q
      ∙ ap (λ (t : Rows). brushed_rows (brush_of opacity red green blue) (runs_of (covered kind) w h) t.top t.bottom w h old) r
      ∙ painted-by-runs s

  -- no rows, no paint
  pub painted-none : (s : Sized w h) (rows : Rows) → length old ≡ h * w * 3 → rows ≡ reach_rows kind w h → rows.bottom ≤ rows.top → old ≡ painted kind opacity red green blue w h old
  painted-none s rows size e l =
      let o = (through kind w h).ordered in
      rows_none (brush_of opacity red green blue) (runs_of (covered kind) w h) (reach_rows kind w h).top w h old size
      ∙ ap (λ (y : ℕ). brushed_rows (brush_of opacity red green blue) (runs_of (covered kind) w h) (reach_rows kind w h).top y w h old)
      (omega (arith, o, ap (λ (r : Rows). r.top) e, ap (λ (r : Rows). r.bottom) e))
      ∙ painted-by-runs s

  pub length-painted : length (painted kind opacity red green blue w h old) ≡ h * w * 3
  unfolding painted
  length-painted = length-list w h (recoloured (covered kind) (λ ch old. blended opacity (channel_of red green blue ch) old) (picture_of nan w old))

  -- each channel by its place
  pub painted-at : (ch y x : ℕ) → ch < 3 → y < h → x < w
      → picture_of nan w (painted kind opacity red green blue w h old) ch y x
      ≡ cond (covered kind x y) (blended opacity (channel_of red green blue ch) (picture_of nan w old ch y x)) (picture_of nan w old ch y x)
  unfolding painted
  painted-at ch y x c l m = list_at w h (recoloured (covered kind) (λ ch old. blended opacity (channel_of red green blue ch) old) (picture_of nan w old)) nan ch y x c l m

  -- a pixel that is not covered is as it was
  pub painted_spares : (ch y x : ℕ) → ch < 3 → y < h → x < w → covered kind x y ≡ false → picture_of nan w (painted kind opacity red green blue w h old) ch y x ≡ picture_of nan w old ch y x
  painted_spares ch y x c l m f =
      painted-at ch y x c l m
      ∙ ap (λ (t : Bool). cond t (blended opacity (channel_of red green blue ch) (picture_of nan w old ch y x)) (picture_of nan w old ch y x)) f

  -- so is a row outside the shape's reach
  pub painted-rows : (ch y x : ℕ) → ch < 3 → y < h → x < w → h ≤ 256 → (pos y <ℤ (reach kind h).first) ⊎ ((reach kind h).last <ℤ pos y)
      → picture_of nan w (painted kind opacity red green blue w h old) ch y x ≡ picture_of nan w old ch y x
  painted-rows ch y x c l m r o = painted_spares ch y x c l m (not_covered kind w h y r l o x)

  -- and a picture without a covered pixel
  pub painted-nothing : length old ≡ h * w * 3 → ((x y : ℕ) → x < w → y < h → covered kind x y ≡ false) → painted kind opacity red green blue w h old ≡ old
  unfolding painted
  painted-nothing size f = sym (recoloured_none nan (λ ch old. blended opacity (channel_of red green blue ch) old) w h old size (covered kind) f)

  -- within 0..1 stays within 0..1
  pub painted-within : length old ≡ h * w * 3 → T (fits binary32 opacity) → T (within opacity) → bad_colour red green blue ≡ false → T (all_within old) → T (all_within (painted kind opacity red green blue w h old))
  unfolding painted blended
  painted-within size f a k v =
      list-every w h within (recoloured (covered kind) (λ ch old. blended opacity (channel_of red green blue ch) old) (picture_of nan w old)) nan
      (λ ch y x c l m. by (covered kind x y) ch (get_or old ((y * w + x) * 3 + ch) nan) (within-at old ((y * w + x) * 3 + ch) v (omega (arith, size, number_in w h y x ch c l m))))
    where
      by : (t : Bool) (ch : ℕ) (o : Float) → T (within o) → T (within (cond t (blended opacity (channel_of red green blue ch) o) o))
      by true ch o p = paint-within opacity o (channel_of red green blue ch) f a p (colour_within red green blue k ch)
      by false ch o p = p
