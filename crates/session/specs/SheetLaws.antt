-- Laws: a picture with its table: what a build, an update and a painted shape leave; a table's places are the sums of the rule; channels of bytes lie within 0..1.
use Rattle.std.specs.Prelude.{◌≡◌, Bool, ◌||◌, List, [], ◌∷◌, ◌++◌, map, T, ℤ, pos, length, take, drop, get_or, Float}
use Rattle.std.proofs.Math.Path.{refl, sym, ap}
use Rattle.std.proofs.Common.{◌∙◌, subst}
use Rattle.std.proofs.Math.Bool.{true, false, not}
use Rattle.std.proofs.Math.Logic.{⊎_elim}
use Prim.Native.Nat.{ℕ, zero, suc, ◌+◌, ◌*◌, ◌≤◌, ◌<◌}
use native.Mathlib.Omega.{arith}
use borrow.Author.Tests.{le-ltb, eq-eqb}
use Rattle.std.specs.Int.Signed.{le_z, lt_z}
use Rattle.std.proofs.lemmas.List.{length-map}
use Rattle.std.proofs.Math.ListN.{get_or-map}
use Rattle.std.specs.Float.{nan}
use Rattle.std.specs.Float.Ieee.{of_int, div, round, le, lt, eq}
use Rattle.std.specs.Float.Ieee.Fits.{and_i}
use Rattle.laws.specs.Bools.{is_true, true_or_false}
use Rattle.laws.specs.Fit.{no_both}
use Rattle.laws.specs.Before.{before}
use Rattle.laws.specs.Ends.{Ends, none, ends, ends_of}
use Rattle.laws.specs.EndsLaws.{Ended, ended}
use Rattle.laws.specs.Every.{every}
use Rattle.laws.specs.EveryLaws.{every-each, every_of, every_append, every_take, every_drop}
use Rattle.laws.specs.PixelSums.{span_sum, add_span}
use Rattle.laws.specs.Rows.{put_row}
use Rattle.laws.specs.RowLaws.{length-put_row}
use Rattle.laws.specs.Tab.{tab}
use Rattle.laws.specs.TabLaws.{length-tab, get_d_tab}
use Rattle.refusal.specs.Refusals.{bad_size, Sized, lowest, size_if, length_if, count_if, place_if, opacity_if}
use Rattle.refusal.specs.RefusalLaws.{lowest_skip}
use Rattle.refusal.specs.Lengths.{bad_picture, bad_table}
use Rattle.refusal.specs.ThreeTests.{two_none}
use Rattle.float.specs.Within.{nought, within, all_within}
use Rattle.cover.specs.declared.Kind.{Kind}
use Rattle.cover.specs.Cover.{covered, reach, bad_places}
use Rattle.cover.specs.CoverLaws.{in_reach}
use Rattle.sums.specs.Sums.{no_sums, plus, minus}
use Rattle.table.specs.Layout.{place_of}
use Rattle.table.specs.Table.{Table, Updated, redone, bad_lengths, update_refusal, BuildSays, UpdateCanvasRowsSays}
use Rattle.table.specs.TestLaws.{build_after}
use Rattle.table.specs.TableLaws.{update_fresh}
use Rattle.table.specs.ReadLaws.{table-place}
use Rattle.grade.specs.declared.Score.{Score}
use Rattle.refusal.specs.Outcomes.{Outcome}
use Rattle.score.specs.declared.Request.TheVariants.{Opacity}
use Rattle.grade.specs.Finalize.{finalized}
use Rattle.grade.specs.Answered.{answered}
use Rattle.grade.specs.AlphaSweep.{bad_levels}
use Rattle.gather.specs.Gathered.{span_sums, pixel_at}
use Rattle.score.specs.Scoring.{span_refusal, score_at}
use Rattle.picture.specs.Painting.{painted}
use Rattle.picture.specs.PaintingLaws.{painted_spares, length-painted}
use Rattle.picture.specs.Pixels.{bad_colour, filled}
use Rattle.picture.specs.PixelLaws.{length-filled, filled_within}
use Rattle.session.specs.Session.{channel, sums_of}
use Rattle.session.specs.Held.{Sides, Sheet}

-- ---- channels
-- all 256, computed
all_channels : T (every within (tab channel 256))
unfolding every tab within channel div of_int round le lt eq
all_channels = tt

pub channel-within : (b : ℕ) → b < 256 → T (within (channel b))
channel-within b l =
    let k : b < length (tab channel 256) = omega (arith, length-tab channel 256) in
    subst (λ (x : Float). T (within x)) (get_d_tab channel 256 b nan l) (every-each within (tab channel 256) b nan all_channels k)

pub channels_within : (bytes : List ℕ) → ((k : ℕ) → get_or bytes k 0 < 256) → T (all_within (map channel bytes))
channels_within bytes f =
    every_of within (map channel bytes) (channel 0)
    (λ k l. subst (λ (x : Float). T (within x)) (sym (get_or-map channel bytes k 0)) (channel-within (get_or bytes k 0) (f k)))

pub colour_fine : (r g b : ℕ) → r < 256 → g < 256 → b < 256 → bad_colour (channel r) (channel g) (channel b) ≡ false
unfolding bad_colour
colour_fine r g b p q s =
    simp (is_true (within (channel r)) (channel-within r p), is_true (within (channel g)) (channel-within g q), is_true (within (channel b)) (channel-within b s))

pub black_fine : bad_colour nought nought nought ≡ false
unfolding bad_colour within le lt eq
black_fine = refl

-- ---- a row that is put into a picture within 0..1
pub row_within : (n y : ℕ) (r l : List Float) → T (all_within l) → T (all_within r) → T (all_within (put_row n y r l))
unfolding put_row
row_within n y r l h k =
    subst T (sym (every_append within (take (y * n) l) (r ++ drop n (drop (y * n) l))))
    (and_i (every within (take (y * n) l)) (every within (r ++ drop n (drop (y * n) l))) (every_take within (y * n) l h)
    (subst T (sym (every_append within r (drop n (drop (y * n) l))))
    (and_i (every within r) (every within (drop n (drop (y * n) l))) k (every_drop within n (drop (y * n) l) (every_drop within (y * n) l h)))))

pub row-length : (w h y : ℕ) (r l : List Float) → length l ≡ h * w * 3 → y < h → length r ≡ w * 3 → length (put_row (w * 3) y r l) ≡ h * w * 3
row-length w h y r l e k f =
    let g : length l ≡ h * (w * 3) = omega arith in
    length-put_row (w * 3) y h r l g k f ∙ e

-- ---- the tests of sizes and lengths are passed
module _ (w h : ℕ) (s : Sides w h) where
  pub size_fine : bad_size w h ≡ false
  unfolding bad_size
  size_fine =
      let a : w ≤ 256 = omega arith in
      let b : h ≤ 256 = omega arith in
      simp (le-ltb w 1 s.w_low, le-ltb 256 w a, le-ltb h 1 s.h_low, le-ltb 256 h b)

  pub sized_so : Sized w h
  sized_so = record { w_low = s.w_low; w_high = omega arith; h_low = s.h_low; h_high = omega arith }

  pub picture_fine : (n : ℕ) → n ≡ h * w * 3 → bad_picture w h n ≡ false
  unfolding bad_picture
  picture_fine n e = ap not (eq-eqb n (h * w * 3) e)

  pub table_fine : (n : ℕ) → n ≡ h * (w + 1) * 15 → bad_table w h n ≡ false
  unfolding bad_table
  table_fine n e = ap not (eq-eqb n (h * (w + 1) * 15) e)

  module _ (target canvas old : List Float) (a : length target ≡ h * w * 3) (b : length canvas ≡ h * w * 3) (d : length old ≡ h * (w + 1) * 15) where
    lengths_fine : bad_lengths w h (length target) (length canvas) (length old) ≡ false
    lengths_fine = simp (picture_fine (length target) a, picture_fine (length canvas) b, table_fine (length old) d)

    pub build_done : (r : ℕ) (new : List Float) → T (all_within target) → T (all_within canvas) → BuildSays target canvas w h old r new → Table w h target canvas new
    build_done r new f g p =
        p.done
        (p.answer
        ∙ build_after target canvas w h old
        ∙ simp (size_fine, lengths_fine, is_true (all_within target) f, is_true (all_within canvas) g))

    pub update_done : (ymin ymax : ℤ) (r : ℕ) (new : List Float) → UpdateCanvasRowsSays target canvas w h old ymin ymax r new → Updated w h target canvas ymin ymax old new
    unfolding update_refusal
    update_done ymin ymax r new p =
        p.done (p.answer ∙ sym (two_none (bad_size w h) (bad_lengths w h (length target) (length canvas) (length old)) size_fine lengths_fine))

-- ---- a new picture
pub made : (w h r g b : ℕ) (target canvas old new : List Float) (n : ℕ) → Sides w h → r < 256 → g < 256 → b < 256 → length old ≡ h * (w + 1) * 15
    → target ≡ filled w h nought nought nought → canvas ≡ filled w h (channel r) (channel g) (channel b) → BuildSays target canvas w h old n new
    → (target ≡ filled w h nought nought nought) × (canvas ≡ filled w h (channel r) (channel g) (channel b)) × Sheet w h target canvas new × T (all_within canvas)
made w h r g b target canvas old new n s p q t d e f u =
    let a : length target ≡ h * w * 3 = ap length e ∙ length-filled w h nought nought nought in
    let c : length canvas ≡ h * w * 3 = ap length f ∙ length-filled w h (channel r) (channel g) (channel b) in
    let x : T (all_within target) = subst (λ (l : List Float). T (all_within l)) (sym e) (filled_within w h nought nought nought black_fine) in
    let z : T (all_within canvas) = subst (λ (l : List Float). T (all_within l)) (sym f) (filled_within w h (channel r) (channel g) (channel b) (colour_fine r g b p q t)) in
    (e, f, record { sides = s; target_size = a; canvas-size = c; sums = build_done w h s target canvas old a c d n new x z u; targets = x }, z)

-- ---- a row of the target
pub row-set : (w h y : ℕ) (pixels : List ℕ) (old target canvas table new : List Float) (n : ℕ) → Sheet w h old canvas table → T (all_within canvas) → y < h
    → length pixels ≡ w * 3 → ((k : ℕ) → get_or pixels k 0 < 256) → target ≡ put_row (w * 3) y (map channel pixels) old → BuildSays target canvas w h table n new
    → (target ≡ put_row (w * 3) y (map channel pixels) old) × Sheet w h target canvas new
row-set w h y pixels old target canvas table new n s z k l f e u =
    let a : length target ≡ h * w * 3 =
    ap length e ∙ row-length w h y (map channel pixels) old s.target_size k (length-map pixels channel ∙ l) in
    let x : T (all_within target) = subst (λ (m : List Float). T (all_within m)) (sym e) (row_within (w * 3) y (map channel pixels) old s.targets (channels_within pixels f)) in
    (e, record { sides = s.sides; target_size = a; canvas-size = s.canvas-size; sums = build_done w h s.sides target canvas table a s.canvas-size s.sums.size n new x z u; targets = x })

-- ---- a shape painted
module _ (kind : Kind) (a r g b : Float) (w h : ℕ) (target canvas table : List Float) (s : Sheet w h target canvas table) where
  -- rows that the update spares have no pixel that changed
  spared : (ch y x : ℕ) → ch < 3 → y < h → x < w → redone (reach kind h).first (reach kind h).last y ≡ false
      → get_or (painted kind a r g b w h canvas) ((y * w + x) * 3 + ch) nan ≡ get_or canvas ((y * w + x) * 3 + ch) nan
  unfolding redone
  spared ch y x c l m o =
      ⊎_elim
      (λ (t : covered kind x y ≡ true).
      let i = in_reach kind x y h l t in
      no_both
      (simp (is_true (le_z (reach kind h).first (pos y)) i.0.le, is_true (le_z (pos y) (reach kind h).last) i.1.le) (or_so (lt_z (reach kind h).last (pos 0))))
      o)
      (λ (f : covered kind x y ≡ false). painted_spares kind a r g b w h canvas ch y x c l m f)
      (true_or_false (covered kind x y))
    where
      or_so : (b : Bool) → b || true ≡ true
      or_so true = refl
      or_so false = refl

  pub painted_sheet : (changed new : List Float) (n : ℕ) → changed ≡ painted kind a r g b w h canvas
      → UpdateCanvasRowsSays target changed w h table (reach kind h).first (reach kind h).last n new → Sheet w h target changed new
  painted_sheet changed new n e u =
      let c : length changed ≡ h * w * 3 = ap length e ∙ length-painted kind a r g b w h canvas in
      record {
        sides = s.sides;
        target_size = s.target_size;
        canvas-size = c;
        sums =
            update_fresh w h target changed (reach kind h).first (reach kind h).last table new
            (update_done w h s.sides target changed table s.target_size c s.sums.size (reach kind h).first (reach kind h).last n new u)
            canvas
            (λ ch y x k l m o. ap (λ (p : List Float). get_or p ((y * w + x) * 3 + ch) nan) e ∙ spared ch y x k l m o)
            s.sums;
        targets = s.targets;
      }

-- ---- a place of the table is the sum of the pixels before it. Belongs in laws: sums by runs over places that agree
module _ {E : Type 0} (nothing : E) (plus minus : E → E → E) where
  span_same : (f g : ℕ → ℕ → E) (p : ℕ → ℕ → Bool) (w h : ℕ) → ((y x : ℕ) → y < h → x ≤ w → f y x ≡ g y x)
      → span_sum nothing plus minus f p w h ≡ span_sum nothing plus minus g p w h
  unfolding span_sum
  span_same f g p w zero e = refl
  span_same f g p w (suc y) e = by (ends_of (λ x. p x y) w) (ended (λ x. p x y) w) (span_same f g p w y (λ z x k l. e z x (omega arith) l))
    where
      by : (d : Ends) → Ended (λ x. p x y) w d → span_sum nothing plus minus f p w y ≡ span_sum nothing plus minus g p w y
          → add_span nothing plus minus (f y) d (span_sum nothing plus minus f p w y) ≡ add_span nothing plus minus (g y) d (span_sum nothing plus minus g p w y)
      by none t q = q
      by (ends l r) t q =
          let hi : f y (r + 1) ≡ g y (r + 1) = e y (r + 1) (omega arith) (omega (arith, t.1)) in
          let lo : f y l ≡ g y l = e y l (omega arith) (omega (arith, t.0, t.1)) in
          cc

pub table-sums : (kind : Kind) (w h : ℕ) (target canvas table : List Float) → Table w h target canvas table → span_sums kind w h table ≡ sums_of kind w h target canvas
unfolding span_sums sums_of
table-sums kind w h target canvas table t =
    span_same no_sums plus minus (place_of w table) (λ y x. before no_sums plus (pixel_at w target canvas y) x) (covered kind) w h
    (λ y x l m. table-place w h target canvas table t y x l m)

-- ---- a score: sizes, lengths and the count are passed
pub weighed : (kind : Kind) (a : Float) (levels : List Float) (w h : ℕ) (table : List Float) (r : Outcome Score) → Sides w h → length table ≡ h * (w + 1) * 15 → length levels ≡ 64
    → r ≡ answered (span_refusal kind (Opacity a) levels w h table) (score_at (span_sums kind w h table) (Opacity a) levels)
    → r ≡ answered (lowest (place_if (bad_places kind) ∷ opacity_if (not (within a)) ∷ [])) (finalized (span_sums kind w h table) a)
unfolding span_refusal score_at
weighed kind a levels w h table r s e f p =
    p
    ∙ ap (λ (n : ℕ). answered n (finalized (span_sums kind w h table) a))
    (lowest_skip (size_if (bad_size w h)) (length_if (bad_levels levels || bad_table w h (length table)) ∷ count_if false ∷ place_if (bad_places kind) ∷ opacity_if (not (within a)) ∷ []) (size_fine w h s)
    ∙ lowest_skip (length_if (bad_levels levels || bad_table w h (length table))) (count_if false ∷ place_if (bad_places kind) ∷ opacity_if (not (within a)) ∷ []) lengths
    ∙ lowest_skip (count_if false) (place_if (bad_places kind) ∷ opacity_if (not (within a)) ∷ []) refl)
  where
    lengths : bad_levels levels || bad_table w h (length table) ≡ false
    lengths = simp (eq-eqb (length levels) 64 f, table_fine w h s (length table) e)
