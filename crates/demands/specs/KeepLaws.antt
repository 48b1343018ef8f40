-- Laws: a taken call has the sizes of what is lent; a paint call keeps the table; rows outside the reach stay; two calls and a build.
use Rattle.std.specs.Prelude.{◌≡◌, Bool, true, not, ◌||◌, cond, List, Result, ⊤, ℕ, ◌+◌, ◌*◌, ◌≤◌, ◌<◌, T, eqb, pos, length, Float}
use Rattle.std.proofs.Math.Path.{refl}
use Rattle.std.proofs.Common.{sym, ap, ap₂, ◌∙◌, subst, ⊎_elim, mul_comm, arith}
use Rattle.std.proofs.Math.Bool.{false, or-true}
use Rattle.std.proofs.Math.Nat.{eq_of_mul-eq-mul_right}
use Rattle.std.proofs.Math.Decide.{ℕ_discrete}
use Rattle.std.specs.Int.Signed.{le_z, lt_z}
use Rattle.std.specs.Float.{nan, binary32}
use Rattle.std.specs.Float.Ieee.{fits}
use borrow.Author.Tests.{eq-eqb, ne_eqb, le-ltb, not-false}
use Rattle.laws.specs.Bools.{is_true, true_is, true_or_false, or_left, or_right}
use Rattle.laws.specs.Fit.{no_both}
use Rattle.laws.specs.RowSums.{picture_of}
use Rattle.laws.specs.RowSumLaws.{canvas_sum_same}
use Rattle.float.specs.Within.{within, all_within}
use Rattle.refusal.specs.Refusals.{Sized, bad_size}
use Rattle.refusal.specs.declared.Refusal.{Refusal}
use Rattle.refusal.specs.Outcomes.{number_of}
use Rattle.refusal.specs.OutcomeLaws.{number_of-injective}
use Rattle.refusal.specs.RefusalLaws.{sized}
use Rattle.refusal.specs.ThreeTests.{passed, at_none}
use Rattle.refusal.specs.Lengths.{bad_picture, bad_table}
use Rattle.refusal.specs.LengthLaws.{picture_length}
use Rattle.cover.specs.declared.Kind.{Kind}
use Rattle.cover.specs.Cover.{covered, reach}
use Rattle.cover.specs.CoverLaws.{in_reach}
use Rattle.picture.specs.Painting.{painted}
use Rattle.picture.specs.Pixels.{bad_colour}
use Rattle.picture.specs.PaintingLaws.{length-painted, painted_spares, painted-rows, painted-within}
use Rattle.table.specs.Layout.{Series, of_target, of_canvas, entry}
use Rattle.table.specs.Table.{f64_sums, picture, Table, redone, bad_lengths, build_refusal, BuildSays}
use Rattle.table.specs.TableLaws.{table-only, update_fresh}
use Rattle.paint.specs.Paint.{paint_refusal, Painted}
use Rattle.paint.specs.PaintLaws as paints
use Rattle.demands.specs.declared.Call.{Call}
use Rattle.demands.specs.declared.Numbers.{Numbers}
use Rattle.demands.specs.PaintCalls.{call_refusal, CallSays, State, Paints, Afresh, Kept, OutsideReach, SameRow, after_call, TwoCallsSays}

-- ---- on the same lent slices a taken call has the same sizes
pub same_rows : (w h w' h' : ℕ) → h' * w' * 3 ≡ h * w * 3 → h' * (w' + 1) * 15 ≡ h * (w + 1) * 15 → h' ≡ h
same_rows w h w' h' a b = omega arith

pub same_columns : (w h w' h' : ℕ) → 1 ≤ h → h' * w' * 3 ≡ h * w * 3 → h' * (w' + 1) * 15 ≡ h * (w + 1) * 15 → w' ≡ w
same_columns w h w' h' o a b =
    let e : h' ≡ h = same_rows w h w' h' a b in
    let f : h' * w' ≡ h * w = omega arith in
    eq_of_mul-eq-mul_right h o w' w (mul_comm w' h ∙ ap (λ (n : ℕ). n * w') (sym e) ∙ f ∙ mul_comm h w)

-- ---- what a build leaves is kept, and what is kept is what a build leaves
module _ (w h : ℕ) (target canvas : List Float) where
  abbrev pixels : Bool
  pixels = not (all_within target) || not (all_within canvas)

  pub built_kept : (old table : List Float) → BuildSays target canvas w h old 0 table → Kept w h target canvas table
  unfolding build_refusal
  built_kept old table b =
      let p = passed (bad_size w h) (bad_lengths w h (length target) (length canvas) (length old)) pixels 7 (omega arith) (sym b.answer) in
      let both = or_left (bad_picture w h (length target) || bad_picture w h (length canvas)) (bad_table w h (length old)) p.1 in
      record {
        sizes = sized w h p.0;
        target_size = picture_length w h (length target) (or_left (bad_picture w h (length target)) (bad_picture w h (length canvas)) both);
        canvas-size = picture_length w h (length canvas) (or_right (bad_picture w h (length target)) (bad_picture w h (length canvas)) both);
        target_within = true_is (all_within target) (not-false (all_within target) (or_left (not (all_within target)) (not (all_within canvas)) p.2));
        canvas-within = true_is (all_within canvas) (not-false (all_within canvas) (or_right (not (all_within target)) (not (all_within canvas)) p.2));
        built = b.done refl;
      }

  -- as a caller of build has it
  pub answered_kept : (old table : List Float) (r : ℕ) → r ≡ 0 → BuildSays target canvas w h old r table → Kept w h target canvas table
  answered_kept old table r z b = built_kept old table (subst (λ (k : ℕ). BuildSays target canvas w h old k table) z b)

  good_size : Sized w h → bad_size w h ≡ false
  unfolding bad_size
  good_size s = rw (le-ltb w 1 s.w_low, le-ltb 256 w s.w_high, le-ltb h 1 s.h_low, le-ltb 256 h s.h_high) refl

  good_picture : (n : ℕ) → n ≡ h * w * 3 → bad_picture w h n ≡ false
  unfolding bad_picture
  good_picture n e = rw (eq-eqb n (h * w * 3) e) refl

  good_table : (n : ℕ) → n ≡ h * (w + 1) * 15 → bad_table w h n ≡ false
  unfolding bad_table
  good_table n e = rw (eq-eqb n (h * (w + 1) * 15) e) refl

  pub kept_afresh : (table : List Float) → Kept w h target canvas table → Afresh w h target (record { canvas = canvas; table = table })
  unfolding build_refusal
  kept_afresh table k other r left e b = (z, table-only w h target canvas left table (b.done z) k.built)
    where
      lengths : bad_lengths w h (length target) (length canvas) (length other) ≡ false
      lengths =
          rw (
            good_picture (length target) k.target_size,
            good_picture (length canvas) k.canvas-size,
            good_table (length other) (e ∙ k.built.size),
          ) refl

      values : pixels ≡ false
      values = rw (is_true (all_within target) k.target_within, is_true (all_within canvas) k.canvas-within) refl

      z : r ≡ 0
      z = b.answer ∙ sym (at_none (bad_size w h) (bad_lengths w h (length target) (length canvas) (length other)) pixels 7 (omega arith) (good_size k.sizes) lengths values)

-- ---- a row that is not redone has no covered pixel
pub not-redone : (kind : Kind) (h x y : ℕ) → y < h → redone (reach kind h).first (reach kind h).last y ≡ false → covered kind x y ≡ false
unfolding redone
not-redone kind h x y l f =
    ⊎_elim
    (λ (t : covered kind x y ≡ true).
    let b = in_reach kind x y h l t in
    no_both
    (rw (
      is_true (le_z (reach kind h).first (pos y)) b.0.le,
      is_true (le_z (pos y) (reach kind h).last) b.1.le,
      or-true (lt_z (reach kind h).last (pos 0)),
    ) refl)
    f)
    (λ (n : covered kind x y ≡ false). n)
    (true_or_false (covered kind x y))

-- ---- a taken call keeps the table, and rows outside its reach
module _ (kind : Kind) (opacity red green blue : Float) (w h : ℕ) (target canvas table newCanvas newTable : List Float)
    (k : Kept w h target canvas table) (p : Painted kind opacity red green blue w h target canvas table newCanvas newTable) where
  pub taken_kept : T (fits binary32 opacity) → T (within opacity) → bad_colour red green blue ≡ false → Kept w h target newCanvas newTable
  taken_kept f a c = record {
    sizes = k.sizes;
    target_size = k.target_size;
    canvas-size = ap length p.picture ∙ length-painted kind opacity red green blue w h canvas;
    target_within = k.target_within;
    canvas-within = subst (λ (l : List Float). T (all_within l)) (sym p.picture) (painted-within kind opacity red green blue w h canvas k.canvas-size f a c k.canvas-within);
    built = update_fresh w h target newCanvas (reach kind h).first (reach kind h).last table newTable p.sums canvas same k.built;
  }
    where
      same : (ch y x : ℕ) → ch < 3 → y < h → x < w → redone (reach kind h).first (reach kind h).last y ≡ false → picture_of nan w newCanvas ch y x ≡ picture_of nan w canvas ch y x
      same ch y x c l m n =
          ap (λ (v : List Float). picture_of nan w v ch y x) p.picture
          ∙ painted_spares kind opacity red green blue w h canvas ch y x c l m (not-redone kind h x y l n)

  pub taken_spares : (ch y x : ℕ) → ch < 3 → y < h → x < w → OutsideReach kind h y → picture_of nan w newCanvas ch y x ≡ picture_of nan w canvas ch y x
  taken_spares ch y x c l m o =
      ap (λ (v : List Float). picture_of nan w v ch y x) p.picture
      ∙ painted-rows kind opacity red green blue w h canvas ch y x c l m k.sizes.h_high o

-- a row of two tables, where the pictures have the same row
same_sums : (w h : ℕ) (target canvas table newCanvas newTable : List Float) → Kept w h target canvas table → Kept w h target newCanvas newTable → (y : ℕ) → y < h
    → ((ch x : ℕ) → ch < 3 → x < w → picture_of nan w newCanvas ch y x ≡ picture_of nan w canvas ch y x)
    → (series : Series) (ch x : ℕ) → ch < 3 → x ≤ w → entry w newTable series ch y x ≡ entry w table series ch y x
same_sums w h target canvas table newCanvas newTable k n y l same (of_target s) ch x c m =
    n.built.targets s ch y x c l m ∙ sym (k.built.targets s ch y x c l m)
same_sums w h target canvas table newCanvas newTable k n y l same (of_canvas s) ch x c m =
    n.built.canvases s ch y x c l m
    ∙ canvas_sum_same f64_sums (picture w target) (picture w target) (picture w newCanvas) (picture w canvas) s ch y x (λ i g. refl) (λ i g. same ch i c (omega arith))
    ∙ sym (k.built.canvases s ch y x c l m)

-- ---- any call, taken or refused
abbrev pub KeptState : ℕ → ℕ → List Float → State → Type 0
KeptState w h target s = Kept w h target s.canvas s.table

module _ (w h : ℕ) (target : List Float) (c : Call) (s t : State) (step : Paints target c s t) (k : KeptState w h target s) where
  abbrev PaintedIn : ℕ → ℕ → Type 0
  PaintedIn m n = Painted c.kind c.opacity c.colour.red c.colour.green c.colour.blue m n target s.canvas s.table t.canvas t.table

  module _ (z : step.number ≡ 0) where
    tests : paints.Passed c.kind c.opacity c.colour.red c.colour.green c.colour.blue c.w c.h (length target) (length s.canvas) (length s.table)
    tests =
        paints.passed c.kind c.opacity c.colour.red c.colour.green c.colour.blue c.w c.h (length target) (length s.canvas) (length s.table) (sym step.says.answer ∙ z)

    abbrev pictures : c.h * c.w * 3 ≡ h * w * 3
    pictures = sym tests.lengths.canvas-length ∙ k.canvas-size

    abbrev tables : c.h * (c.w + 1) * 15 ≡ h * (w + 1) * 15
    tables = sym tests.lengths.table_long ∙ k.built.size

    -- a taken call has the sizes of what is lent
    pub own_rows : c.h ≡ h
    own_rows = same_rows w h c.w c.h pictures tables

    pub own_columns : c.w ≡ w
    own_columns = same_columns w h c.w c.h k.sizes.h_low pictures tables

    taken : PaintedIn w h
    taken = subst (PaintedIn w) own_rows (subst (λ (n : ℕ). PaintedIn n c.h) own_columns (step.says.done z))

  pub keeps : KeptState w h target t
  keeps = by (ℕ_discrete step.number 0)
    where
      by : Dec (step.number ≡ 0) → KeptState w h target t
      by (yes z) =
          taken_kept c.kind c.opacity c.colour.red c.colour.green c.colour.blue w h target s.canvas s.table t.canvas t.table k (taken z) step.single (tests z).opacity-within
          (tests z).colours
      by (no n) =
          subst (Kept w h target t.canvas) (sym (step.says.refused n).1)
          (subst (λ (l : List Float). Kept w h target l s.table) (sym (step.says.refused n).0) k)

  pub same_row : (y : ℕ) → y < h → OutsideReach c.kind h y → SameRow w y s t
  same_row y l o = record {
    picture = spared;
    sums = same_sums w h target s.canvas s.table t.canvas t.table k keeps y l spared;
  }
    where
      spared : (ch x : ℕ) → ch < 3 → x < w → picture_of nan w t.canvas ch y x ≡ picture_of nan w s.canvas ch y x
      spared ch x d m = by (ℕ_discrete step.number 0)
        where
          by : Dec (step.number ≡ 0) → picture_of nan w t.canvas ch y x ≡ picture_of nan w s.canvas ch y x
          by (yes z) =
              taken_spares c.kind c.opacity c.colour.red c.colour.green c.colour.blue w h target s.canvas s.table t.canvas t.table k (taken z) ch y x d l m o
          by (no n) = ap (λ (v : List Float). picture_of nan w v ch y x) (step.says.refused n).0

-- ---- two calls, and a build afresh
after_is : (c : Call) (target canvas table newCanvas newTable : List Float) (r : ℕ) → CallSays c target canvas table r newCanvas newTable → newCanvas ≡ after_call c target canvas table
after_is c target canvas table newCanvas newTable r e = by (ℕ_discrete r 0)
  where
    by : Dec (r ≡ 0) → newCanvas ≡ after_call c target canvas table
    by (yes z) = rw (eq-eqb (call_refusal c target canvas table) 0 (sym e.answer ∙ z)) (e.done z).picture
    by (no n) = rw (ne_eqb (call_refusal c target canvas table) 0 (λ y. n (e.answer ∙ y))) (e.refused n).0

pub two-done : (first second : Call) (w h : ℕ) (target canvas table between sums newCanvas newTable fresh newFresh : List Float) (a b d : Result ⊤ Refusal)
    → Kept w h target canvas table → length fresh ≡ length table → T (fits binary32 first.opacity) → T (fits binary32 second.opacity)
    → CallSays first target canvas table (number_of a) between sums → CallSays second target between sums (number_of b) newCanvas newTable → BuildSays target newCanvas w h fresh (number_of d) newFresh
    → TwoCallsSays first second w h target canvas table (record { first = a; second = b; afresh = d }) newCanvas newTable newFresh
two-done first second w h target canvas table between sums newCanvas newTable fresh newFresh a b d k room f g one two build = record {
  first-number = one.answer;
  second-number = two.answer ∙ ap₂ (λ (m n : ℕ). paint_refusal second.kind second.opacity second.colour.red second.colour.green second.colour.blue second.w second.h (length target) m n) canvases tables;
  afresh_number = again.0;
  picture = after_is second target between sums newCanvas newTable (number_of b) two
      ∙ ap₂ (λ (n : ℕ) (l : List Float). cond (eqb (paint_refusal second.kind second.opacity second.colour.red second.colour.green second.colour.blue second.w second.h (length target) (length l) n) 0) (painted second.kind second.opacity second.colour.red second.colour.green second.colour.blue second.w second.h l) l) tables (after_is first target canvas table between sums (number_of a) one);
  kept = after;
  afresh = again.1;
}
  where
    start : State
    start = record { canvas = canvas; table = table }

    middle : State
    middle = record { canvas = between; table = sums }

    end : State
    end = record { canvas = newCanvas; table = newTable }

    then : Kept w h target between sums
    then = keeps w h target first start middle (record { single = f; number = number_of a; says = one }) k

    after : Kept w h target newCanvas newTable
    after = keeps w h target second middle end (record { single = g; number = number_of b; says = two }) then

    canvases : length between ≡ length canvas
    canvases = then.canvas-size ∙ sym k.canvas-size

    tables : length sums ≡ length table
    tables = then.built.size ∙ sym k.built.size

    again : (number_of d ≡ 0) × (newFresh ≡ newTable)
    again = kept_afresh w h target newCanvas newTable after fresh (number_of d) newFresh (room ∙ sym tables ∙ then.built.size ∙ sym after.built.size) build

pub TwoCallsSays-unique : (first second : Call) (w h : ℕ) (target canvas table : List Float) (r q : Numbers) (c d s t f g : List Float)
    → TwoCallsSays first second w h target canvas table r c s f → TwoCallsSays first second w h target canvas table q d t g → (r ≡ q) × (c ≡ d) × (s ≡ t) × (f ≡ g)
TwoCallsSays-unique first second w h target canvas table r q c d s t f g p o = (numbers, pictures, sums, p.afresh ∙ sums ∙ sym o.afresh)
  where
    numbers : r ≡ q
    numbers =
        ap₂ (λ (a b : Result ⊤ Refusal). record { first = a; second = b; afresh = r.afresh })
        (number_of-injective r.first q.first (p.first-number ∙ sym o.first-number))
        (number_of-injective r.second q.second (p.second-number ∙ sym o.second-number))
        ∙ ap (λ (a : Result ⊤ Refusal). record { first = q.first; second = q.second; afresh = a })
        (number_of-injective r.afresh q.afresh (p.afresh_number ∙ sym o.afresh_number))

    pictures : c ≡ d
    pictures = p.picture ∙ sym o.picture

    sums : s ≡ t
    sums = table-only w h target d s t (subst (λ (l : List Float). Table w h target l s) pictures p.kept.built) o.kept.built
