-- Laws: the table of shapes: how its columns are put in, kept and moved; and rows painted by it are those of the rule.
use Rattle.std.specs.List.{CopiedTo, SameBelow, SameFrom}
use Rattle.std.specs.Prelude.{◌≡◌, refl, Bool, true, false, List, [], ◌∷◌, ◌++◌, Float, set, take}
use Rattle.std.proofs.Math.Path.{sym, ap, subst}
use Rattle.std.proofs.Common.{◌∙◌, inl, inr, append_assoc, mod-lt, zero-mul, length-set, length-append, get_or-set_same, get_or-set_other}
use Rattle.std.proofs.Math.Bool.{cond}
use Rattle.std.proofs.Math.Logic.{⊎_elim}
use Prim.Native.Nat.{ℕ, suc, ◌+◌, ◌-◌, ◌*◌, ◌/◌, ◌%◌, ◌≤◌, ◌<◌}
use Rattle.std.proofs.Math.Nat.{mul-le-mul_right}
use native.Mathlib.Omega.{arith}
use Rattle.std.proofs.Math.Dec.{T}
use Rattle.std.specs.Float.Ieee.{nan}
use Rattle.std.specs.Float.{binary32}
use Rattle.std.specs.Float.Ieee as ieee
use Rattle.std.proofs.Math.ListN.{length, get_or, drop, get_or-append}
use Rattle.std.proofs.Math.Seq.{slice, get_or-take, get_or-drop, get_or-append-add, length-take-le}
use Rattle.std.proofs.lemmas.List.{take-append-le, drop-append-le}
use Rattle.laws.specs.Bools.{true_or_false}
use Rattle.laws.specs.EveryLaws.{every-each, every_of}
use Rattle.laws.specs.Fit.{no_both}
use Rattle.laws.specs.Pictures.{channel_of, recoloured}
use Rattle.laws.specs.PictureLaws.{list-number, number_back, number_in, row_in_picture}
use Rattle.laws.specs.RowSums.{picture_of}
use Rattle.laws.specs.Runs.{runs_of}
use Rattle.laws.specs.Strokes.{run_left, run_right, in_runs}
use Rattle.laws.specs.StrokeLaws.{le-or-lt, on_run, off_run, not_yet, not-before}
use Rattle.laws.specs.Without.{without}
use Rattle.laws.specs.WithoutLaws.{length_without}
use Rattle.float.specs.Within.{within, all_within}
use Rattle.refusal.specs.Refusals.{Sized}
use Rattle.brush.specs.declared.Brush.{Brush}
use Rattle.brush.specs.Brushes.{brush_of, mixed}
use Rattle.cover.specs.Cover.{covered}
use Rattle.cover.specs.CoverLaws.{in_run}
use Rattle.picture.specs.Painting.{blended, painted}
use Rattle.picture.specs.Strokes.{brushed_part, brushed_rows}
use Rattle.picture.specs.PaintingLaws.{rows_none, rows_more, runs-within, mixed-blended, painted-within}
use Rattle.shapes.specs.declared.Shape.{Shape}
use Rattle.shapes.specs.declared.Shapes.{Shapes}
use Rattle.shapes.specs.Blank.{blank}
use Rattle.shapes.specs.Lists.{listed}
use Rattle.shapes.specs.Ranges.{fits}
use Rattle.shapes.specs.RangeLaws.{fits-opacity, fits_colour}
use Rattle.traces.specs.Refinement.{painted_on}
use Rattle.traces.specs.Scenes.{shape_painted}
use Rattle.traces.specs.PartLaws.{part_none, part-more}
use Rattle.picture.specs.PaintingLaws.{length-painted}
use Rattle.traces.specs.DrawingLaws.{holds_not, painted_on_same, part_same}
use Rattle.traces.specs.Traces.{Moved, ColumnPut, left_at, right_at, brush_at, SameColumn, Column, Traced, Tabled, ColumnDropped, BrushDropped, SameRows, RowPainted}

-- ---- elements moved up by g, from `from` up to k
module _ {A : Type 0} {g from : ℕ} {d : A} {old : List A} where
  -- by `copy_within` of count elements from src on
  pub moved_within : (src count to : ℕ) (new : List A) → length new ≡ length old → CopiedTo old new src from count × SameBelow old new from × SameFrom old new (from + count)
      → src ≡ from + g → from + count ≡ to → Moved g from d old to new
  moved_within src count to new e i f t = record {
    long = e;
    moved = λ m a b. i.0 m d a (omega (arith, t)) ∙ ap (λ (n : ℕ). get_or old n d) {x = src + (m - from)} {y = m + g} (omega (arith, f));
    before = λ m a. i.1 m d a;
    after = λ m a. i.2 m d (omega (arith, t));
  }

-- ---- a column, row by row
-- a place tells its column
same_place : (z k y i : ℕ) → k < 65 → i < 65 → z * 130 + k * 2 ≡ y * 130 + i * 2 → k ≡ i
same_place z k y i l m e =
    ⊎_elim (λ (p : z ≤ y). ⊎_elim (λ (q : y ≤ z). let f : y ≡ z = omega arith in omega arith) (λ (q : z < y). absurd (omega arith)) (le-or-lt y z)) (λ (p : y < z). absurd (omega arith)) (le-or-lt z y)

pub column_none : (i : ℕ) (column old : List ℕ) → ColumnPut 0 i column old old
column_none i column old = record { long = refl; left = λ z l. absurd (omega arith); right = λ z l. absurd (omega arith); others = λ k l o y. (refl, refl) }

module _ (y i : ℕ) (column old new : List ℕ) (s : ColumnPut y i column old new) (few : i < 65) (room : y * 130 + 130 ≤ length old) where
  abbrev lefted : List ℕ
  lefted = set new (y * 130 + i * 2) (run_left column y)

  abbrev both : List ℕ
  both = set lefted (y * 130 + i * 2 + 1) (run_right column y)

  off : (m : ℕ) → (m ≡ y * 130 + i * 2 → ⊥) → (m ≡ y * 130 + i * 2 + 1 → ⊥) → get_or both m 0 ≡ get_or new m 0
  off m p q = get_or-set_other lefted (y * 130 + i * 2 + 1) m (run_right column y) 0 (λ e. q (omega arith)) ∙ get_or-set_other new (y * 130 + i * 2) m (run_left column y) 0 (λ e. p (omega arith))

  at_left : (z : ℕ) → z ≡ y → left_at both i z ≡ run_left column z
  at_left z e =
      ap (λ (n : ℕ). left_at both i n) e
      ∙ get_or-set_other lefted (y * 130 + i * 2 + 1) (y * 130 + i * 2) (run_right column y) 0 (λ e. omega arith)
      ∙ get_or-set_same new (y * 130 + i * 2) (run_left column y) 0 (omega (arith, s.long))
      ∙ ap (run_left column) (sym e)

  at_right : (z : ℕ) → z ≡ y → right_at both i z ≡ run_right column z
  at_right z e =
      ap (λ (n : ℕ). right_at both i n) e
      ∙ get_or-set_same lefted (y * 130 + i * 2 + 1) (run_right column y) 0 (omega (arith, s.long, length-set new (y * 130 + i * 2) (run_left column y)))
      ∙ ap (run_right column) (sym e)

  pub column_more : ColumnPut (y + 1) i column old (set (set new (y * 130 + i * 2) (run_left column y)) (y * 130 + i * 2 + 1) (run_right column y))
  column_more = record {
    long = length-set lefted (y * 130 + i * 2 + 1) (run_right column y) ∙ length-set new (y * 130 + i * 2) (run_left column y) ∙ s.long;
    left = λ z l. ⊎_elim (λ (here : y ≤ z). at_left z (omega arith)) (λ (passed : z < y). off (z * 130 + i * 2) (λ e. omega arith) (λ e. omega arith) ∙ s.left z passed) (le-or-lt y z);
    right = λ z l. ⊎_elim (λ (here : y ≤ z). at_right z (omega arith)) (λ (passed : z < y). off (z * 130 + i * 2 + 1) (λ e. omega arith) (λ e. omega arith) ∙ s.right z passed) (le-or-lt y z);
    others = λ k l o z. (
      off (z * 130 + k * 2) (λ e. o (same_place z k y i l few e)) (λ e. o (omega arith)) ∙ (s.others k l o z).0,
      off (z * 130 + k * 2 + 1) (λ e. o (omega arith)) (λ e. o (same_place z k y i l few (omega arith))) ∙ (s.others k l o z).1,
    );
  }

-- ---- a brush
abbrev brush_from : Float → Float → Float → Float → Brush
brush_from k r g b = record { keep = k; red = r; green = g; blue = b }

same_brush : {k r g b k' r' g' b' : Float} → k ≡ k' → r ≡ r' → g ≡ g' → b ≡ b' → brush_from k r g b ≡ brush_from k' r' g' b'
same_brush {k} {r} {g} {b} {k'} {r'} {g'} {b'} p q s t =
    ap (λ (x : Float). brush_from x r g b) p
    ∙ ap (λ (x : Float). brush_from k' x g b) q
    ∙ ap (λ (x : Float). brush_from k' r' x b) s
    ∙ ap (λ (x : Float). brush_from k' r' g' x) t

module _ (i : ℕ) (b : Brush) (old : List Float) (few : i < 65) (long : length old ≡ 260) where
  abbrev put1 : List Float
  put1 = set old (i * 4) b.keep

  abbrev put2 : List Float
  put2 = set put1 (i * 4 + 1) b.red

  abbrev put3 : List Float
  put3 = set put2 (i * 4 + 2) b.green

  abbrev put4 : List Float
  put4 = set put3 (i * 4 + 3) b.blue

  long1 : length put1 ≡ 260
  long1 = length-set old (i * 4) b.keep ∙ long

  long2 : length put2 ≡ 260
  long2 = length-set put1 (i * 4 + 1) b.red ∙ long1

  long3 : length put3 ≡ 260
  long3 = length-set put2 (i * 4 + 2) b.green ∙ long2

  pub brush_long : length (set (set (set (set old (i * 4) b.keep) (i * 4 + 1) b.red) (i * 4 + 2) b.green) (i * 4 + 3) b.blue) ≡ 260
  brush_long = length-set put3 (i * 4 + 3) b.blue ∙ long3

  past1 : (m : ℕ) → (m ≡ i * 4 + 1 → ⊥) → (m ≡ i * 4 + 2 → ⊥) → (m ≡ i * 4 + 3 → ⊥) → get_or put4 m nan ≡ get_or put1 m nan
  past1 m p q r =
      get_or-set_other put3 (i * 4 + 3) m b.blue nan (λ e. r (omega arith))
      ∙ get_or-set_other put2 (i * 4 + 2) m b.green nan (λ e. q (omega arith))
      ∙ get_or-set_other put1 (i * 4 + 1) m b.red nan (λ e. p (omega arith))

  pub brush-put : brush_at (set (set (set (set old (i * 4) b.keep) (i * 4 + 1) b.red) (i * 4 + 2) b.green) (i * 4 + 3) b.blue) i ≡ b
  brush-put =
      same_brush
      (past1 (i * 4) (λ e. omega arith) (λ e. omega arith) (λ e. omega arith) ∙ get_or-set_same old (i * 4) b.keep nan (omega (arith, long)))
      (get_or-set_other put3 (i * 4 + 3) (i * 4 + 1) b.blue nan (λ e. omega arith) ∙ get_or-set_other put2 (i * 4 + 2) (i * 4 + 1) b.green nan (λ e. omega arith) ∙ get_or-set_same put1 (i * 4 + 1) b.red nan (omega (arith, long1)))
      (get_or-set_other put3 (i * 4 + 3) (i * 4 + 2) b.blue nan (λ e. omega arith) ∙ get_or-set_same put2 (i * 4 + 2) b.green nan (omega (arith, long2)))
      (get_or-set_same put3 (i * 4 + 3) b.blue nan (omega (arith, long3)))

  apart : (k c : ℕ) → c < 4 → (k ≡ i → ⊥) → get_or put4 (k * 4 + c) nan ≡ get_or old (k * 4 + c) nan
  apart k c l o =
      past1 (k * 4 + c) (λ e. o (omega arith)) (λ e. o (omega arith)) (λ e. o (omega arith))
      ∙ get_or-set_other old (i * 4) (k * 4 + c) b.keep nan (λ e. o (omega arith))

  pub brush_others : (k : ℕ) → (k ≡ i → ⊥) → brush_at (set (set (set (set old (i * 4) b.keep) (i * 4 + 1) b.red) (i * 4 + 2) b.green) (i * 4 + 3) b.blue) k ≡ brush_at old k
  brush_others k o =
      same_brush
      (ap (λ (m : ℕ). get_or put4 m nan) {x = k * 4} {y = k * 4 + 0} (omega arith) ∙ apart k 0 (omega arith) o ∙ ap (λ (m : ℕ). get_or old m nan) {x = k * 4 + 0} {y = k * 4} (omega arith))
      (apart k 1 (omega arith) o)
      (apart k 2 (omega arith) o)
      (apart k 3 (omega arith) o)

-- ---- the table
pub column_kept : (w h : ℕ) (s : Shape) (runs runs' : List ℕ) (paints paints' : List Float) (k : ℕ) → Column w h s runs paints k → SameColumn runs runs' k → brush_at paints' k ≡ brush_at paints k → Column w h s runs' paints' k
column_kept w h s runs runs' paints paints' k c e f = record {
  fitting = c.fitting;
  single = c.single;
  left = λ y l. (e y).0 ∙ c.left y l;
  right = λ y l. (e y).1 ∙ c.right y l;
  brush = f ∙ c.brush;
}

pub table_of : (w h n : ℕ) (l : List Shape) (runs : List ℕ) (paints : List Float) → Traced w h l runs paints → n ≤ length l → Tabled w h n runs paints
table_of w h n l runs paints t few = record { shapes = l; many = few; traced = t }

-- the shapes of a list, one after another
pub traced_list : (w h : ℕ) (list : Shapes) (runs : List ℕ) (paints : List Float) → Sized w h → list.count ≤ 64 → length list.items ≡ 64 → length runs ≡ 33280 → length paints ≡ 260
    → ((k : ℕ) → k < list.count → Column w h (get_or list.items k blank) runs paints k) → Traced w h (listed list) runs paints
traced_list w h list runs paints z few long runs_long paints_long all =
    let e : length (listed list) ≡ list.count = length-take-le list.count list.items (omega arith) in
    record {
      sized = z;
      runs_long = runs_long;
      paints_long = paints_long;
      few = omega (arith, e);
      column = λ i k.
          let l : i < list.count = omega (arith, e) in
          subst (λ (s : Shape). Column w h s runs paints i) (sym (get_or-take list.count list.items i blank l)) (all i l);
    }

-- one shape more
pub traced_push : (w h : ℕ) (l : List Shape) (x : Shape) (runs runs' : List ℕ) (paints paints' : List Float) → Traced w h l runs paints → length l < 65 → Column w h x runs' paints' (length l)
    → ((k : ℕ) → k < 65 → (k ≡ length l → ⊥) → SameColumn runs runs' k × (brush_at paints' k ≡ brush_at paints k)) → length runs' ≡ 33280 → length paints' ≡ 260 → Traced w h (l ++ (x ∷ [])) runs' paints'
traced_push w h l x runs runs' paints paints' t room c others long paints_long = record {
  sized = t.sized;
  runs_long = long;
  paints_long = paints_long;
  few = omega (arith, length-append l (x ∷ []));
  column = λ i k. ⊎_elim (λ (here : length l ≤ i). last i (omega (arith, length-append l (x ∷ [])))) (λ (passed : i < length l). early i passed) (le-or-lt (length l) i);
}
  where
    last : (i : ℕ) → i ≡ length l → Column w h (get_or (l ++ (x ∷ [])) i blank) runs' paints' i
    last i e =
        subst (λ (n : ℕ). Column w h (get_or (l ++ (x ∷ [])) n blank) runs' paints' n) (sym e)
        (subst (λ (s : Shape). Column w h s runs' paints' (length l))
        (sym (ap (λ (n : ℕ). get_or (l ++ (x ∷ [])) n blank) {x = length l} {y = length l + 0} (omega arith) ∙ get_or-append-add l (x ∷ []) 0 blank)) c)

    early : (i : ℕ) → i < length l → Column w h (get_or (l ++ (x ∷ [])) i blank) runs' paints' i
    early i k =
        let o = others i (omega arith) (λ e. omega arith) in
        subst (λ (s : Shape). Column w h s runs' paints' i) (sym (get_or-append l (x ∷ []) blank i k))
        (column_kept w h (get_or l i blank) runs runs' paints paints' i (t.column i k) o.0 o.1)

-- the shapes before the last
pub traced_front : (w h : ℕ) (l : List Shape) (x : Shape) (runs : List ℕ) (paints : List Float) → Traced w h (l ++ (x ∷ [])) runs paints → Traced w h l runs paints
traced_front w h l x runs paints t = record {
  sized = t.sized;
  runs_long = t.runs_long;
  paints_long = t.paints_long;
  few = omega (arith, t.few, length-append l (x ∷ []));
  column = λ i k. subst (λ (s : Shape). Column w h s runs paints i) (get_or-append l (x ∷ []) blank i k) (t.column i (omega (arith, length-append l (x ∷ []))));
}

-- one that is not the last leaves
pub without_front : (j : ℕ) (l : List Shape) (x : Shape) → j < length l → without j (l ++ (x ∷ [])) ≡ without j l ++ (x ∷ [])
unfolding without
without_front j l x k =
    ap (λ (a : List Shape). a ++ drop (suc j) (l ++ (x ∷ []))) (take-append-le j l (x ∷ []) (omega arith))
    ∙ ap (λ (a : List Shape). take j l ++ a) (drop-append-le (suc j) l (x ∷ []) (omega arith))
    ∙ sym (append_assoc (take j l) (drop (suc j) l) (x ∷ []))

-- one shape less
module _ (w h j n : ℕ) (l : List Shape) (runs runs' : List ℕ) (paints paints' : List Float) (t : Traced w h l runs paints) (long : length l ≡ n + 1) (low : j ≤ n)
    (r : (y : ℕ) → y < h → ColumnDropped j n y runs runs') (b : BrushDropped j n paints paints') (runs_long : length runs' ≡ 33280) (paints_long : length paints' ≡ 260) where
  without-early : (i : ℕ) → i < j → get_or (without j l) i blank ≡ get_or l i blank
  unfolding without
  without-early i k = get_or-append (take j l) (drop (suc j) l) blank i (omega (arith, length-take-le j l (omega (arith, long)))) ∙ get_or-take j l i blank k

  without_late : (i : ℕ) → j ≤ i → get_or (without j l) i blank ≡ get_or l (i + 1) blank
  unfolding without
  without_late i k =
      let e : length (take j l) ≡ j = length-take-le j l (omega (arith, long)) in
      ap (λ (m : ℕ). get_or (take j l ++ drop (suc j) l) m blank) {x = i} {y = length (take j l) + (i - j)} (omega (arith, e))
      ∙ get_or-append-add (take j l) (drop (suc j) l) (i - j) blank
      ∙ get_or-drop (suc j) l (i - j) blank
      ∙ ap (λ (m : ℕ). get_or l m blank) {x = suc j + (i - j)} {y = i + 1} (omega arith)

  dropped_early : (i : ℕ) → i < j → Column w h (get_or (without j l) i blank) runs' paints' i
  dropped_early i k =
      let c = t.column i (omega (arith, long)) in
      subst (λ (s : Shape). Column w h s runs' paints' i) (sym (without-early i k))
      record {
        fitting = c.fitting;
        single = c.single;
        left = λ y m. (r y m).left-before i k ∙ c.left y m;
        right = λ y m. (r y m).right-before i k ∙ c.right y m;
        brush = b.before i k ∙ c.brush;
      }

  dropped_late : (i : ℕ) → j ≤ i → i < n → Column w h (get_or (without j l) i blank) runs' paints' i
  dropped_late i k m =
      let c = t.column (i + 1) (omega (arith, long)) in
      subst (λ (s : Shape). Column w h s runs' paints' i) (sym (without_late i k))
      record {
        fitting = c.fitting;
        single = c.single;
        left = λ y z. (r y z).left_after i k m ∙ c.left y z;
        right = λ y z. (r y z).right-after i k m ∙ c.right y z;
        brush = b.after i k m ∙ c.brush;
      }

  pub traced_drop : Traced w h (without j l) runs' paints'
  traced_drop =
      let e = length_without j l (omega (arith, long)) in
      record {
        sized = t.sized;
        runs_long = runs_long;
        paints_long = paints_long;
        few = omega (arith, e, t.few);
        column = λ i k. ⊎_elim (λ (late : j ≤ i). dropped_late i late (omega (arith, e, long))) (λ (early : i < j). dropped_early i early) (le-or-lt j i);
      }

-- ---- moved elements are moved columns and brushes
pub brush_dropped : (j n : ℕ) (old new : List Float) → Moved 4 (j * 4) nan old (n * 4) new → BrushDropped j n old new
brush_dropped j n old new s = record {
  before = λ k l. same_brush (s.before (k * 4) (omega arith)) (s.before (k * 4 + 1) (omega arith)) (s.before (k * 4 + 2) (omega arith)) (s.before (k * 4 + 3) (omega arith));
  after = λ k l m.
      same_brush (s.moved (k * 4) (omega arith) (omega arith) ∙ at (k * 4 + 4) ((k + 1) * 4) (omega arith))
      (s.moved (k * 4 + 1) (omega arith) (omega arith) ∙ at (k * 4 + 1 + 4) ((k + 1) * 4 + 1) (omega arith))
      (s.moved (k * 4 + 2) (omega arith) (omega arith) ∙ at (k * 4 + 2 + 4) ((k + 1) * 4 + 2) (omega arith))
      (s.moved (k * 4 + 3) (omega arith) (omega arith) ∙ at (k * 4 + 3 + 4) ((k + 1) * 4 + 3) (omega arith));
}
  where
    at : (p q : ℕ) → p ≡ q → get_or old p nan ≡ get_or old q nan
    at p q e = ap (λ (m : ℕ). get_or old m nan) e

-- rows above y are done, and the others as they were
pub record RowsDropped (j n y : ℕ) (old new : List ℕ) : Type 0 where
  pub long : length new ≡ length old
  pub done : (z : ℕ) → z < y → ColumnDropped j n z old new
  pub left : (m : ℕ) → y * 130 ≤ m → get_or new m 0 ≡ get_or old m 0

pub rows_dropped_none : (j n : ℕ) (old : List ℕ) → RowsDropped j n 0 old old
rows_dropped_none j n old = record { long = refl; done = λ z l. absurd (omega arith); left = λ m l. refl }

pub rows_dropped_more : (j n y : ℕ) (old new next : List ℕ) → j ≤ n → n < 65 → RowsDropped j n y old new
    → Moved 2 (y * 130 + j * 2) 0 new (y * 130 + n * 2) next → RowsDropped j n (y + 1) old next
rows_dropped_more j n y old new next low few s r = record {
  long = r.long ∙ s.long;
  done = λ z l. ⊎_elim (λ (here : y ≤ z). subst (λ (m : ℕ). ColumnDropped j n m old next) {x = y} {y = z} (omega arith) this) (λ (passed : z < y). above z passed) (le-or-lt y z);
  left = λ m l. r.after m (omega arith) ∙ s.left m (omega arith);
}
  where
    above : (z : ℕ) → z < y → ColumnDropped j n z old next
    above z l =
        let d = s.done z l in
        record {
          left-before = λ k m. r.before (z * 130 + k * 2) (omega arith) ∙ d.left-before k m;
          right-before = λ k m. r.before (z * 130 + k * 2 + 1) (omega arith) ∙ d.right-before k m;
          left_after = λ k m p. r.before (z * 130 + k * 2) (omega arith) ∙ d.left_after k m p;
          right-after = λ k m p. r.before (z * 130 + k * 2 + 1) (omega arith) ∙ d.right-after k m p;
        }

    this : ColumnDropped j n y old next
    this = record {
      left-before = λ k m. r.before (y * 130 + k * 2) (omega arith) ∙ s.left (y * 130 + k * 2) (omega arith);
      right-before = λ k m. r.before (y * 130 + k * 2 + 1) (omega arith) ∙ s.left (y * 130 + k * 2 + 1) (omega arith);
      left_after = λ k m p. r.moved (y * 130 + k * 2) (omega arith) (omega arith) ∙ s.left (y * 130 + k * 2 + 2) (omega arith) ∙ ap (λ (q : ℕ). get_or old q 0) {x = y * 130 + k * 2 + 2} {y = y * 130 + (k + 1) * 2} (omega arith);
      right-after = λ k m p. r.moved (y * 130 + k * 2 + 1) (omega arith) (omega arith) ∙ s.left (y * 130 + k * 2 + 1 + 2) (omega arith) ∙ ap (λ (q : ℕ). get_or old q 0) {x = y * 130 + k * 2 + 1 + 2} {y = y * 130 + (k + 1) * 2 + 1} (omega arith);
    }

-- ---- a row painted by a run
module _ (w h y : ℕ) (z : Sized w h) (below : y < h) (s : Shape) (old : List Float) (size : length old ≡ h * w * 3) where
  abbrev runs : List ℕ
  runs = runs_of (covered s.kind) w h

  abbrev brush : Brush
  brush = brush_of s.opacity s.red s.green s.blue

  -- in row y a pixel lies in the run exactly if it is covered
  row_run_lem : (x : ℕ) → x < w → in_runs runs y (y + 1) x y ≡ covered s.kind x y
  row_run_lem x k = ⊎_elim (λ t. yes t ∙ sym t) (λ f. no f ∙ sym f) (true_or_false (covered s.kind x y))
    where
      yes : covered s.kind x y ≡ true → in_runs runs y (y + 1) x y ≡ true
      yes t = let b = (in_run s.kind w h z.h_high x y k below).1 t in on_run runs y (y + 1) x y (omega arith) (omega arith) b.0 b.1

      no : covered s.kind x y ≡ false → in_runs runs y (y + 1) x y ≡ false
      no f =
          ⊎_elim
          (λ (p : run_left runs y ≤ x).
          ⊎_elim
          (λ (q : run_right runs y ≤ x). off_run runs y (y + 1) x y (inr q))
          (λ (q : x < run_right runs y). no_both ((in_run s.kind w h z.h_high x y k below).0 (p, q)) f)
          (le-or-lt (run_right runs y) x))
          (λ (p : x < run_left runs y). off_run runs y (y + 1) x y (inl p))
          (le-or-lt (run_left runs y) x)

  -- the rows of numbers
  row_low : (i n : ℕ) → i < n * w * 3 → i / 3 / w < n
  row_low i n l = row_in_picture w n i z.w_low l

  row_high : (i n : ℕ) → n * w * 3 ≤ i → n ≤ i / 3 / w
  row_high i n l = ⊎_elim (λ (k : n ≤ i / 3 / w). k) (λ (k : i / 3 / w < n). absurd (high k)) (le-or-lt n (i / 3 / w))
    where
      high : i / 3 / w < n → ⊥
      high k = omega (arith, number_back w h i z.w_low, number_in w n (i / 3 / w) (i / 3 % w) (i % 3) (mod-lt i (omega arith)) k (mod-lt (i / 3) z.w_low))

  in_row : (i : ℕ) → y * w * 3 ≤ i → i < (y + 1) * w * 3 → i / 3 / w ≡ y
  in_row i a k = omega (arith, row_low i (y + 1) k, row_high i y a)

  in_picture : (i : ℕ) → i < (y + 1) * w * 3 → i < h * w * 3
  in_picture i k = let l : y + 1 ≤ h = omega arith in omega (arith, mul-le-mul_right w l)

  abbrev rowed : List Float
  rowed = brushed_rows brush runs y (y + 1) w h old

  rowed-number : (i : ℕ) → i < h * w * 3 → get_or rowed i nan ≡ cond (in_runs runs y (y + 1) (i / 3 % w) (i / 3 / w)) (mixed brush (i % 3) (get_or old i nan)) (get_or old i nan)
  rowed-number i k =
      list-number w h (recoloured (in_runs runs y (y + 1)) (mixed brush) (picture_of nan w old)) i nan k
      ∙ ap (λ (n : ℕ). cond (in_runs runs y (y + 1) (i / 3 % w) (i / 3 / w)) (mixed brush (i % 3) (get_or old n nan)) (get_or old n nan)) (number_back w h i z.w_low)

  rule_number : (i : ℕ) → i < h * w * 3 → get_or (shape_painted w h s old) i nan ≡ cond (covered s.kind (i / 3 % w) (i / 3 / w)) (mixed brush (i % 3) (get_or old i nan)) (get_or old i nan)
  unfolding painted
  rule_number i k =
      list-number w h (recoloured (covered s.kind) (λ ch old. blended s.opacity (channel_of s.red s.green s.blue ch) old) (picture_of nan w old)) i nan k
      ∙ ap (λ (n : ℕ). cond (covered s.kind (i / 3 % w) (i / 3 / w)) (blended s.opacity (channel_of s.red s.green s.blue (i % 3)) (get_or old n nan)) (get_or old n nan)) (number_back w h i z.w_low)
      ∙ ap (λ (v : Float). cond (covered s.kind (i / 3 % w) (i / 3 / w)) v (get_or old i nan)) (sym (mixed-blended s.opacity s.red s.green s.blue (i % 3) (get_or old i nan)))

  -- a number in the row by its test, and those of other rows
  by-test : (i : ℕ) → y * w * 3 ≤ i → i < (y + 1) * w * 3 → in_runs runs y (y + 1) (i / 3 % w) (i / 3 / w) ≡ covered s.kind (i / 3 % w) (i / 3 / w)
  by-test i a k =
      let e = in_row i a k in
      ap (in_runs runs y (y + 1) (i / 3 % w)) e ∙ row_run_lem (i / 3 % w) (mod-lt (i / 3) z.w_low) ∙ ap (covered s.kind (i / 3 % w)) (sym e)

  spared : (i : ℕ) → i < h * w * 3 → in_runs runs y (y + 1) (i / 3 % w) (i / 3 / w) ≡ false → get_or rowed i nan ≡ get_or old i nan
  spared i k f = rowed-number i k ∙ ap (λ (t : Bool). cond t (mixed brush (i % 3) (get_or old i nan)) (get_or old i nan)) f

  row_painted : RowPainted w h y (s ∷ []) old rowed
  unfolding painted_on
  row_painted = record {
    row = λ i a k. rowed-number i (in_picture i k) ∙ ap (λ (t : Bool). cond t (mixed brush (i % 3) (get_or old i nan)) (get_or old i nan)) (by-test i a k) ∙ sym (rule_number i (in_picture i k));
    above = λ i a k. spared i (omega (arith, in_picture i (omega (arith, row_more)))) (not-before runs y (y + 1) (i / 3 % w) (i / 3 / w) (row_low i y k));
    below = λ i a k. spared i k (not_yet runs y (y + 1) (i / 3 % w) (i / 3 / w) (row_high i (y + 1) a));
  }
    where
      row_more : y * w * 3 ≤ (y + 1) * w * 3
      row_more = let l : y ≤ y + 1 = omega arith in omega (arith, mul-le-mul_right w l)

  -- the run was lent, and came back brushed
  pub stroke_painted : (b : Brush) (left right : ℕ) (new : List Float) → b ≡ brush_of s.opacity s.red s.green s.blue → left ≡ run_left (runs_of (covered s.kind) w h) y → right ≡ run_right (runs_of (covered s.kind) w h) y
      → new ≡ brushed_part b ((y * w + left) * 3) ((y * w + right) * 3) old → RowPainted w h y (s ∷ []) old new
  stroke_painted b left right new p l r e =
      subst (RowPainted w h y (s ∷ []) old)
      (sym
      (e
      ∙ ap (λ (t : Brush). brushed_part t ((y * w + left) * 3) ((y * w + right) * 3) old) p
      ∙ rows_more brush runs y w h old y left right old size (omega arith) below (runs-within s.kind w h z) l r (rows_none brush runs y w h old size)))
      row_painted

  -- a run without a pixel
  pub none_painted : run_right (runs_of (covered s.kind) w h) y ≤ run_left (runs_of (covered s.kind) w h) y → RowPainted w h y (s ∷ []) old old
  unfolding painted_on
  none_painted o = record {
    row = λ i a k.
        sym
        (rule_number i (in_picture i k)
        ∙ ap (λ (t : Bool). cond t (mixed brush (i % 3) (get_or old i nan)) (get_or old i nan))
        (sym (by-test i a k)
        ∙ ap (in_runs runs y (y + 1) (i / 3 % w)) (in_row i a k)
        ∙ ⊎_elim (λ (q : run_right runs y ≤ i / 3 % w). off_run runs y (y + 1) (i / 3 % w) y (inr q)) (λ (q : i / 3 % w < run_right runs y). off_run runs y (y + 1) (i / 3 % w) y (inl (omega (arith, q, o)))) (le-or-lt (run_right runs y) (i / 3 % w))));
    above = λ i a k. refl;
    below = λ i a k. refl;
  }

  -- within 0..1 stays within 0..1
  pub row_within : (new : List Float) → length new ≡ length old → T (fits s) → T (ieee.fits binary32 s.opacity) → T (all_within old) → RowPainted w h y (s ∷ []) old new → T (all_within new)
  unfolding painted_on
  row_within new e fitting single inside r =
      every_of within new nan
      (λ k l.
      ⊎_elim
      (λ (under : (y + 1) * w * 3 ≤ k). subst (λ (v : Float). T (within v)) (sym (r.below k under (omega (arith, e, size)))) (every-each within old k nan inside (omega (arith, e))))
      (λ (upper : k < (y + 1) * w * 3).
      ⊎_elim
      (λ (here : y * w * 3 ≤ k). subst (λ (v : Float). T (within v)) (sym (r.row k here upper)) (every-each within (shape_painted w h s old) k nan all (omega (arith, e, size, painted-length))))
      (λ (over : k < y * w * 3). subst (λ (v : Float). T (within v)) (sym (r.above k (omega arith) over)) (every-each within old k nan inside (omega (arith, e))))
      (le-or-lt (y * w * 3) k))
      (le-or-lt ((y + 1) * w * 3) k))
    where
      all : T (all_within (shape_painted w h s old))
      all = painted-within s.kind s.opacity s.red s.green s.blue w h old size single (fits-opacity s fitting) (holds_not _ (fits_colour s fitting)) inside

      painted-length : length (shape_painted w h s old) ≡ h * w * 3
      painted-length = length-painted s.kind s.opacity s.red s.green s.blue w h old

-- ---- more shapes on a row
pub row_none : (w h y from : ℕ) (l : List Shape) (old : List Float) → RowPainted w h y (slice from from l) old old
row_none w h y from l old = record { row = λ i a k. ap (λ (q : List Float). get_or q i nan) (part_none (shape_painted w h) old from l); above = λ i a k. refl; below = λ i a k. refl }

pub row_more : (w h y : ℕ) → 0 < w → y < h → (from i : ℕ) (l : List Shape) → from ≤ i → i < length l → (old now next : List Float) → RowPainted w h y (slice from i l) old now → RowPainted w h y (get_or l i blank ∷ []) now next
    → RowPainted w h y (slice from (i + 1) l) old next
row_more w h y columns below from i l low inside old now next s r = record {
  row =
      part_same w h columns y (y + 1) (omega arith) (painted_on (shape_painted w h) old (slice from i l)) now next (painted_on (shape_painted w h) old (slice from (i + 1) l)) (get_or l i blank) s.row r.row
      (part-more (shape_painted w h) old (painted_on (shape_painted w h) old (slice from i l)) from i l blank low inside refl);
  above = λ k a b. r.above k a b ∙ s.above k a b;
  below = λ k a b. r.below k a b ∙ s.below k a b;
}

-- ---- all rows, one after another
pub record RowsPainted (w h y : ℕ) (l : List Shape) (old new : List Float) : Type 0 where
  pub done : SameRows w 0 y new (painted_on (shape_painted w h) old l)
  pub left : SameRows w y h new old

pub rows_painted_none : (w h : ℕ) (l : List Shape) (old : List Float) → RowsPainted w h 0 l old old
rows_painted_none w h l old = record { done = λ i a k. absurd (omega (arith, zero-mul w)); left = λ i a k. refl }

pub rows_painted_more : (w h y : ℕ) → 0 < w → y < h → (l : List Shape) (old now next : List Float) → RowsPainted w h y l old now → RowPainted w h y l now next → RowsPainted w h (y + 1) l old next
rows_painted_more w h y columns below l old now next s r = record {
  done = λ i a k.
      ⊎_elim
      (λ (here : y * w * 3 ≤ i).
      r.row i here k ∙ painted_on_same w h columns y (y + 1) (omega arith) l now old (λ m b c. s.left m b (omega (arith, inside, c))) i here k)
      (λ (over : i < y * w * 3). r.above i (omega (arith, zero-mul w)) over ∙ s.done i a over)
      (le-or-lt (y * w * 3) i);
  left = λ i a k. r.below i a k ∙ s.left i (omega (arith, more, a)) k;
}
  where
    inside : (y + 1) * w * 3 ≤ h * w * 3
    inside = let l : y + 1 ≤ h = omega arith in omega (arith, mul-le-mul_right w l)

    more : y * w * 3 ≤ (y + 1) * w * 3
    more = let l : y ≤ y + 1 = omega arith in omega (arith, mul-le-mul_right w l)
