-- Laws: what a passed test gives; a call's answer has one number, one picture and one table.
use Rattle.std.specs.Prelude.{◌≡◌, Bool, not, ◌||◌, ◌⊎◌, ℕ, ◌+◌, ◌*◌, ◌<◌, T, length, ℤ, pos, ◌<ℤ◌, ◌≤ℤ◌, Float}
use Rattle.std.proofs.Math.Path.{refl, sym}
use Rattle.std.proofs.Common.{ap, ◌∙◌, subst, inl, inr, arith}
use Rattle.std.proofs.Math.Bool.{true, false}
use mathlib.Core.List.{List, [], ◌∷◌}
use Rattle.std.proofs.Math.Decide.{ℕ_discrete}
use Rattle.std.specs.Int.Signed.{lt_z, le_z}
use Rattle.std.proofs.lemmas.Bool.{not-false}
use Rattle.laws.specs.Parts.{zord}
use Rattle.laws.specs.Fit.{lt_true, le_true}
use Rattle.laws.specs.Bools.{or_left, or_right, true_is, true_or_false}
use Rattle.float.specs.Within.{within}
use Rattle.refusal.specs.Refusals.{Test, Sized, lowest, size_if, length_if, place_if, opacity_if, colour_if, bad_size}
use Rattle.refusal.specs.RefusalLaws.{lowest-none, sized}
use Rattle.refusal.specs.Lengths.{bad_picture, bad_table}
use Rattle.refusal.specs.LengthLaws.{picture_length, table-length}
use Rattle.refusal.specs.ThreeTests.{two-passed, two_none}
use Rattle.refusal.specs.ChainLaws.{passed-by, met, none_left}
use Rattle.cover.specs.declared.Kind.{Kind}
use Rattle.cover.specs.declared.Reach.{Reach}
use Rattle.cover.specs.Cover.{covered, bad_places, reach, RowReachSays}
use Rattle.cover.specs.CoverLaws.{in_reach}
use Rattle.picture.specs.Painting.{BlendSays}
use Rattle.picture.specs.PaintingLaws.{length-painted, painted-nothing}
use Rattle.picture.specs.Pixels.{bad_colour}
use Rattle.table.specs.Table.{bad_lengths, lengths_refusal, redone, Updated, update_refusal, UpdateCanvasRowsSays}
use Rattle.table.specs.TableLaws.{updated-only}
use Rattle.paint.specs.Paint.{paint_refusal, Painted, PaintSays}

-- ---- sizes and lengths that passed
pub record Lengths (w h target canvas table : ℕ) : Type 0 where
  pub sizes : Sized w h
  pub target_length : target ≡ h * w * 3
  pub canvas-length : canvas ≡ h * w * 3
  pub table_long : table ≡ h * (w + 1) * 15

lengths_of : (w h target canvas table : ℕ) → bad_size w h ≡ false → bad_lengths w h target canvas table ≡ false → Lengths w h target canvas table
lengths_of w h target canvas table s l =
    let pictures = or_left (bad_picture w h target || bad_picture w h canvas) (bad_table w h table) l in
    record {
      sizes = sized w h s;
      target_length = picture_length w h target (or_left (bad_picture w h target) (bad_picture w h canvas) pictures);
      canvas-length = picture_length w h canvas (or_right (bad_picture w h target) (bad_picture w h canvas) pictures);
      table_long = table-length w h table (or_right (bad_picture w h target || bad_picture w h canvas) (bad_table w h table) l);
    }

pub lengths_passed : (w h target canvas table : ℕ) → lengths_refusal w h target canvas table ≡ 0 → Lengths w h target canvas table
lengths_passed w h target canvas table e =
    let p = two-passed (bad_size w h) (bad_lengths w h target canvas table) e in
    lengths_of w h target canvas table p.0 p.1

-- ---- every test that passed
pub record Passed (kind : Kind) (opacity red green blue : Float) (w h target canvas table : ℕ) : Type 0 where
  pub lengths : Lengths w h target canvas table
  pub places : bad_places kind ≡ false
  pub opacity-within : T (within opacity)
  pub colours : bad_colour red green blue ≡ false

module _ (kind : Kind) (opacity red green blue : Float) (w h target canvas table : ℕ) where
  abbrev colour_test : List Test
  colour_test = colour_if (bad_colour red green blue) ∷ []

  abbrev opacity_tests : List Test
  opacity_tests = opacity_if (not (within opacity)) ∷ colour_test

  abbrev place_tests : List Test
  place_tests = place_if (bad_places kind) ∷ opacity_tests

  abbrev length_tests : List Test
  length_tests = length_if (bad_lengths w h target canvas table) ∷ place_tests

  pub passed : paint_refusal kind opacity red green blue w h target canvas table ≡ 0 → Passed kind opacity red green blue w h target canvas table
  unfolding paint_refusal
  passed e =
      let a = lowest-none (size_if (bad_size w h)) length_tests tt e in
      let b = lowest-none (length_if (bad_lengths w h target canvas table)) place_tests tt a.1 in
      let c = lowest-none (place_if (bad_places kind)) opacity_tests tt b.1 in
      let d = lowest-none (opacity_if (not (within opacity))) colour_test tt c.1 in
      let f = lowest-none (colour_if (bad_colour red green blue)) [] tt d.1 in
      record {
        lengths = lengths_of w h target canvas table a.0 b.0;
        places = c.0;
        opacity-within = true_is (within opacity) (not-false (within opacity) d.0);
        colours = f.0;
      }

  pub lengths_none : paint_refusal kind opacity red green blue w h target canvas table ≡ 0 → lengths_refusal w h target canvas table ≡ 0
  unfolding paint_refusal
  lengths_none e =
      let a = lowest-none (size_if (bad_size w h)) length_tests tt e in
      let b = lowest-none (length_if (bad_lengths w h target canvas table)) place_tests tt a.1 in
      sym (two_none (bad_size w h) (bad_lengths w h target canvas table) a.0 b.0)

  -- the tests as the code asks them: sizes and lengths first, which stay refused whatever comes after
  pub sizes-refused : (k : ℕ) → k ≡ lengths_refusal w h target canvas table → (k ≡ 0 → ⊥) → k ≡ paint_refusal kind opacity red green blue w h target canvas table
  unfolding paint_refusal
  sizes-refused k e n = e ∙ by (bad_size w h) (bad_lengths w h target canvas table) refl refl (λ z. n (e ∙ z))
    where
      by : (a b : Bool) → bad_size w h ≡ a → bad_lengths w h target canvas table ≡ b → (lengths_refusal w h target canvas table ≡ 0 → ⊥)
          → lengths_refusal w h target canvas table ≡ lowest (size_if (bad_size w h) ∷ length_tests)
      by true b p q m = sym (met (size_if (bad_size w h)) (length_if (bad_lengths w h target canvas table) ∷ []) tt p) ∙ met (size_if (bad_size w h)) length_tests tt p
      by false true p q m =
          sym (passed-by (size_if (bad_size w h)) (length_if (bad_lengths w h target canvas table) ∷ []) p (met (length_if (bad_lengths w h target canvas table)) [] tt q))
          ∙ passed-by (size_if (bad_size w h)) length_tests p (met (length_if (bad_lengths w h target canvas table)) place_tests tt q)
      by false false p q m =
          absurd (m (sym (passed-by (size_if (bad_size w h)) (length_if (bad_lengths w h target canvas table) ∷ []) p (passed-by (length_if (bad_lengths w h target canvas table)) [] q none_left))))

  module _ (e : lengths_refusal w h target canvas table ≡ 0) where
    first_two : {k : ℕ} → k ≡ lowest place_tests → k ≡ paint_refusal kind opacity red green blue w h target canvas table
    unfolding paint_refusal
    first_two q =
        let p = two-passed (bad_size w h) (bad_lengths w h target canvas table) e in
        passed-by (size_if (bad_size w h)) length_tests p.0 (passed-by (length_if (bad_lengths w h target canvas table)) place_tests p.1 q)

    pub at_place : bad_places kind ≡ true → 4 ≡ paint_refusal kind opacity red green blue w h target canvas table
    at_place p = first_two (met (place_if (bad_places kind)) opacity_tests tt p)

    pub at-opacity : bad_places kind ≡ false → not (within opacity) ≡ true → 5 ≡ paint_refusal kind opacity red green blue w h target canvas table
    at-opacity p q = first_two (passed-by (place_if (bad_places kind)) opacity_tests p (met (opacity_if (not (within opacity))) colour_test tt q))

    pub at_colour : bad_places kind ≡ false → not (within opacity) ≡ false → bad_colour red green blue ≡ true → 6 ≡ paint_refusal kind opacity red green blue w h target canvas table
    at_colour p q r =
        first_two (passed-by (place_if (bad_places kind)) opacity_tests p
        (passed-by (opacity_if (not (within opacity))) colour_test q (met (colour_if (bad_colour red green blue)) [] tt r)))

    pub at_none : bad_places kind ≡ false → not (within opacity) ≡ false → bad_colour red green blue ≡ false → 0 ≡ paint_refusal kind opacity red green blue w h target canvas table
    at_none p q r =
        first_two (passed-by (place_if (bad_places kind)) opacity_tests p
        (passed-by (opacity_if (not (within opacity))) colour_test q (passed-by (colour_if (bad_colour red green blue)) [] r none_left)))

-- ---- a shape whose reach is empty paints nothing
pub painted-empty : (kind : Kind) (opacity red green blue : Float) (w h : ℕ) (canvas : List Float) (ends : Reach)
    → length canvas ≡ h * w * 3 → RowReachSays kind h ends → ends.last <ℤ ends.first → BlendSays kind opacity red green blue w h canvas canvas
painted-empty kind opacity red green blue w h canvas ends size e o =
    sym (painted-nothing kind opacity red green blue w h canvas size (λ x y m l. bare x y l (true_or_false (covered kind x y))))
  where
    gone : (reach kind h).last <ℤ (reach kind h).first
    gone = subst (λ (r : Reach). r.last <ℤ r.first) e o

    bare : (x y : ℕ) → y < h → (covered kind x y ≡ true) ⊎ (covered kind x y ≡ false) → covered kind x y ≡ false
    bare x y l (inl t) = let b = in_reach kind x y h l t in absurd (omega (arith, zord, gone, b.0, b.1))
    bare x y l (inr n) = n

-- ---- an update whose last row, of the picture, is before its first one redoes no row
updated_nothing : (w h : ℕ) (target canvas table : List Float) (ymin ymax : ℤ) → pos 0 ≤ℤ ymax → ymax <ℤ ymin → Updated w h target canvas ymin ymax table table
unfolding redone
updated_nothing w h target canvas table ymin ymax a b = record {
  size = refl;
  targets = λ s ch y x c l m. refl;
  canvases = λ s ch y x c l m. rw (none y);
}
  where
    not_last : (y : ℕ) → ymin ≤ℤ pos y → (le_z (pos y) ymax ≡ true) ⊎ (le_z (pos y) ymax ≡ false) → le_z (pos y) ymax ≡ false
    not_last y k (inl t) = absurd (omega (arith, zord, a, b, k, le_true (pos y) ymax t))
    not_last y k (inr f) = f

    not-above : (lt_z ymax (pos 0) ≡ true) ⊎ (lt_z ymax (pos 0) ≡ false) → lt_z ymax (pos 0) ≡ false
    not-above (inl t) = absurd (omega (arith, zord, a, lt_true ymax (pos 0) t))
    not-above (inr f) = f

    by : (y : ℕ) → (le_z ymin (pos y) ≡ true) ⊎ (le_z ymin (pos y) ≡ false) → redone ymin ymax y ≡ false
    by y (inl t) = rw (
      t,
      not-above (true_or_false (lt_z ymax (pos 0))),
      not_last y (le_true ymin (pos y) t) (true_or_false (le_z (pos y) ymax)),
    )
    by y (inr f) = rw f

    none : (y : ℕ) → redone ymin ymax y ≡ false
    none y = by y (true_or_false (le_z ymin (pos y)))

-- a call for a shape below the picture
pub nothing_done : (kind : Kind) (opacity red green blue : Float) (w h : ℕ) (target canvas table : List Float) (ends : Reach)
    → length canvas ≡ h * w * 3 → RowReachSays kind h ends → ends.last <ℤ ends.first → pos 0 ≤ℤ ends.last
    → Painted kind opacity red green blue w h target canvas table canvas table
nothing_done kind opacity red green blue w h target canvas table ends size e o n = record {
  picture = painted-empty kind opacity red green blue w h canvas ends size e o;
  sums = subst (λ (r : Reach). Updated w h target canvas r.first r.last table table) e (updated_nothing w h target canvas table ends.first ends.last n o);
}

-- ---- the picture keeps its length, so the update is not refused
pub both_done : (kind : Kind) (opacity red green blue : Float) (w h : ℕ) (target canvas table newCanvas newTable : List Float) (ymin ymax : ℤ) (k : ℕ)
    → lengths_refusal w h (length target) (length canvas) (length table) ≡ 0 → BlendSays kind opacity red green blue w h canvas newCanvas
    → ymin ≡ (reach kind h).first → ymax ≡ (reach kind h).last
    → UpdateCanvasRowsSays target newCanvas w h table ymin ymax k newTable → Painted kind opacity red green blue w h target canvas table newCanvas newTable
unfolding update_refusal
both_done kind opacity red green blue w h target canvas table newCanvas newTable ymin ymax k e p f l u = record {
  picture = p;
  sums =
      subst (λ (z : ℤ). Updated w h target newCanvas (reach kind h).first z table newTable) l
      (subst (λ (z : ℤ). Updated w h target newCanvas z ymax table newTable) f
      (u.done (u.answer ∙ ap (λ (n : ℕ). lengths_refusal w h (length target) n (length table)) same ∙ e)));
}
  where
    same : length newCanvas ≡ length canvas
    same =
        ap length p
        ∙ length-painted kind opacity red green blue w h canvas
        ∙ sym (lengths_passed w h (length target) (length canvas) (length table) e).canvas-length

-- ---- the two ways of a call
module _ (kind : Kind) (opacity red green blue : Float) (w h : ℕ) (target canvas table : List Float) where
  abbrev number : ℕ
  number = paint_refusal kind opacity red green blue w h (length target) (length canvas) (length table)

  pub paint-refused : (k : ℕ) → k ≡ number → (k ≡ 0 → ⊥) → PaintSays kind opacity red green blue w h target canvas table k canvas table
  paint-refused k e n = record { answer = e; done = λ z. absurd (n z); refused = λ m. (refl, refl) }

  pub paint_done : (newCanvas newTable : List Float) → number ≡ 0 → Painted kind opacity red green blue w h target canvas table newCanvas newTable
      → PaintSays kind opacity red green blue w h target canvas table 0 newCanvas newTable
  paint_done newCanvas newTable e p = record { answer = sym e; done = λ z. p; refused = λ n. absurd (n refl) }

  -- ---- one answer
  pub painted-only : (a b s t : List Float) → length table ≡ h * (w + 1) * 15
      → Painted kind opacity red green blue w h target canvas table a s → Painted kind opacity red green blue w h target canvas table b t → (a ≡ b) × (s ≡ t)
  painted-only a b s t l p q = (
    e,
    updated-only w h target a (reach kind h).first (reach kind h).last table s t l p.sums
        (rw (e) q.sums),
  )
    where
      e : a ≡ b
      e = p.picture ∙ sym q.picture

  pub PaintSays-unique : (r k : ℕ) (a b s t : List Float) → PaintSays kind opacity red green blue w h target canvas table r a s → PaintSays kind opacity red green blue w h target canvas table k b t
      → (r ≡ k) × (a ≡ b) × (s ≡ t)
  PaintSays-unique r k a b s t p q = (p.answer ∙ sym q.answer, (by (ℕ_discrete r 0)).0, (by (ℕ_discrete r 0)).1)
    where
      also : r ≡ 0 → k ≡ 0
      also z = q.answer ∙ sym p.answer ∙ z

      back : k ≡ 0 → r ≡ 0
      back z = p.answer ∙ sym q.answer ∙ z

      by : Dec (r ≡ 0) → (a ≡ b) × (s ≡ t)
      by (yes z) =
          painted-only a b s t (passed kind opacity red green blue w h (length target) (length canvas) (length table) (sym p.answer ∙ z)).lengths.table_long
          (p.done z) (q.done (also z))
      by (no n) =
          let x = p.refused n in
          let y = q.refused (λ z. n (back z)) in
          (x.0 ∙ sym y.0, x.1 ∙ sym y.1)
