-- Laws: there is one table of a target and a canvas; an update leaves other rows as they were, and after a change of the canvas in its rows gives the table afresh.
use Rattle.std.specs.Prelude.{◌≡◌, refl, false, cond, List, ℕ, ◌+◌, ◌*◌, ◌≤◌, ◌<◌, length, ℤ, Float}
use Rattle.std.proofs.Common.{sym, ap, ◌∙◌}
use Rattle.std.proofs.Math.Decide.{ℕ_discrete}
use Rattle.laws.specs.RowSumLaws.{redone-fresh, kept_target}
use Rattle.sums.specs.declared.ShapeSums.{ShapeSums}
use Rattle.table.specs.Layout.{Series, of_target, of_canvas, entry}
use Rattle.table.specs.Table.{f64_sums, picture, Table, redone, Updated, LengthsTestedSays, BuildSays, UpdateCanvasRowsSays, AddSpanSays, ReadPlaceSays}
use Rattle.table.specs.LayoutLaws.{entries_same}
use Rattle.table.specs.FillLaws.{sum_of}
use Rattle.table.specs.TestLaws.{table_size_lem}

-- ---- one table only

pub table-only : (w h : ℕ) (target canvas a b : List Float) → Table w h target canvas a → Table w h target canvas b → a ≡ b
table-only w h target canvas a b p q = entries_same w h a b p.size q.size by
  where
    by : (s : Series) (ch y x : ℕ) → ch < 3 → y < h → x ≤ w → entry w a s ch y x ≡ entry w b s ch y x
    by (of_target s) ch y x c l m = p.targets s ch y x c l m ∙ sym (q.targets s ch y x c l m)
    by (of_canvas s) ch y x c l m = p.canvases s ch y x c l m ∙ sym (q.canvases s ch y x c l m)

pub updated-only : (w h : ℕ) (target canvas : List Float) (ymin ymax : ℤ) (old a b : List Float) → length old ≡ h * (w + 1) * 15
    → Updated w h target canvas ymin ymax old a → Updated w h target canvas ymin ymax old b → a ≡ b
updated-only w h target canvas ymin ymax old a b e p q = entries_same w h a b (p.size ∙ e) (q.size ∙ e) by
  where
    by : (s : Series) (ch y x : ℕ) → ch < 3 → y < h → x ≤ w → entry w a s ch y x ≡ entry w b s ch y x
    by (of_target s) ch y x c l m = p.targets s ch y x c l m ∙ sym (q.targets s ch y x c l m)
    by (of_canvas s) ch y x c l m = p.canvases s ch y x c l m ∙ sym (q.canvases s ch y x c l m)

-- ---- an update: rows that are not its own stay, number for number; and what was changed there is in the table afresh

module _ (w h : ℕ) (target changed : List Float) (ymin ymax : ℤ) (old new : List Float) (u : Updated w h target changed ymin ymax old new) where
  pub untouched : (s : Series) (ch y x : ℕ) → ch < 3 → y < h → x ≤ w → redone ymin ymax y ≡ false → entry w new s ch y x ≡ entry w old s ch y x
  untouched (of_target s) ch y x c l m o = u.targets s ch y x c l m
  untouched (of_canvas s) ch y x c l m o =
      u.canvases s ch y x c l m ∙ ap (λ b. cond b (sum_of w target changed (of_canvas s) ch y x) (entry w old (of_canvas s) ch y x)) o

  pub update_fresh : (canvas : List Float)
      → ((ch y x : ℕ) → ch < 3 → y < h → x < w → redone ymin ymax y ≡ false → picture w changed ch y x ≡ picture w canvas ch y x)
      → Table w h target canvas old → Table w h target changed new
  update_fresh canvas same t = record {
    size = u.size ∙ t.size;
    targets = kept_target f64_sums w h (picture w target) (λ s. entry w old (of_target s)) (λ s. entry w new (of_target s)) t.targets u.targets;
    canvases =
        redone-fresh f64_sums w h (picture w target) (picture w canvas) (picture w changed) (redone ymin ymax) (λ s. entry w old (of_canvas s)) (λ s. entry w new (of_canvas s)) same t.canvases u.canvases;
  }

-- ---- two answers that meet a promise are equal, and so are the tables that they leave

same_number : {r s k : ℕ} → r ≡ k → s ≡ k → r ≡ 0 → s ≡ 0
same_number p q z = q ∙ sym p ∙ z

pub LengthsTestedSays-unique : (w h target canvas table r s : ℕ) → LengthsTestedSays w h target canvas table r → LengthsTestedSays w h target canvas table s → r ≡ s
LengthsTestedSays-unique w h target canvas table r s p q = p ∙ sym q

module _ (target canvas : List Float) (w h : ℕ) (old : List Float) (r s : ℕ) (a b : List Float) where
  pub BuildSays-unique : BuildSays target canvas w h old r a → BuildSays target canvas w h old s b → (r ≡ s) × (a ≡ b)
  BuildSays-unique p q = (p.answer ∙ sym q.answer, by (ℕ_discrete r 0))
    where
      by : Dec (r ≡ 0) → a ≡ b
      by (yes z) = table-only w h target canvas a b (p.done z) (q.done (same_number p.answer q.answer z))
      by (no n) = p.refused n ∙ sym (q.refused (λ z. n (same_number q.answer p.answer z)))

  pub UpdateCanvasRowsSays-unique : (ymin ymax : ℤ) → UpdateCanvasRowsSays target canvas w h old ymin ymax r a → UpdateCanvasRowsSays target canvas w h old ymin ymax s b
      → (r ≡ s) × (a ≡ b)
  UpdateCanvasRowsSays-unique ymin ymax p q = (p.answer ∙ sym q.answer, by (ℕ_discrete r 0))
    where
      by : Dec (r ≡ 0) → a ≡ b
      by (yes z) =
          updated-only w h target canvas ymin ymax old a b (table_size_lem target canvas w h old (sym p.answer ∙ z))
          (p.done z) (q.done (same_number p.answer q.answer z))
      by (no n) = p.refused n ∙ sym (q.refused (λ z. n (same_number q.answer p.answer z)))

module _ (table : List Float) (w y : ℕ) (r s : ShapeSums) where
  pub ReadPlaceSays-unique : (x : ℕ) → ReadPlaceSays table w y x r → ReadPlaceSays table w y x s → r ≡ s
  ReadPlaceSays-unique x p q = p ∙ sym q

  pub AddSpanSays-unique : (left right : ℕ) (sums : ShapeSums) → AddSpanSays table w y left right sums r → AddSpanSays table w y left right sums s → r ≡ s
  AddSpanSays-unique left right sums p q = p ∙ sym q

-- an update of rows that hold every change of the canvas leaves what a build of the changed canvas leaves
pub update_is_build : (w h : ℕ) (target canvas changed : List Float) (ymin ymax : ℤ) (old new before after : List Float)
    → Table w h target canvas old
    → ((ch y x : ℕ) → ch < 3 → y < h → x < w → redone ymin ymax y ≡ false → picture w changed ch y x ≡ picture w canvas ch y x)
    → UpdateCanvasRowsSays target changed w h old ymin ymax 0 new → BuildSays target changed w h before 0 after → new ≡ after
update_is_build w h target canvas changed ymin ymax old new before after t same u b =
    table-only w h target changed new after (update_fresh w h target changed ymin ymax old new (u.done refl) canvas same t) (b.done refl)
