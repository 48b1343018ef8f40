-- Laws: the refusals as a chain of tests, and what the work may rest on once none is left.
use Rattle.std.specs.Prelude.{◌≡◌, Bool, true, false, ◌||◌, ℕ, ◌+◌, ◌*◌, length, ℤ, Float}
use Rattle.std.proofs.Math.Path.{refl, sym, ap}
use Rattle.std.proofs.Common.{◌∙◌, arith}
use Rattle.std.proofs.Math.Bool.{not, cond, or-true}
use mathlib.Core.List.{List, [], ◌∷◌}
use Rattle.laws.specs.Bools.{or_left, or_right}
use Rattle.refusal.specs.Refusals.{lowest, size_if, length_if, pixel_if, bad_size}
use Rattle.refusal.specs.RefusalLaws.{lowest-none, sized}
use Rattle.refusal.specs.Lengths.{bad_picture, bad_table}
use Rattle.refusal.specs.LengthLaws.{picture_length, table-length}
use Rattle.float.specs.Within.{all_within}
use Rattle.table.specs.Table.{Table, Updated, bad_lengths, build_refusal, update_refusal, BuildSays, UpdateCanvasRowsSays}
use Rattle.table.specs.Fills.{Sizes}

size-first : (b c : Bool) → lowest (size_if true ∷ length_if b ∷ pixel_if c ∷ []) ≡ 1
unfolding lowest
size-first true true = refl
size-first true false = refl
size-first false true = refl
size-first false false = refl

-- a pixel is the last to be seen
pub build_after : (target canvas : List Float) (w h : ℕ) (table : List Float)
    → build_refusal target canvas w h table
    ≡ cond (bad_size w h) 1 (cond (bad_lengths w h (length target) (length canvas) (length table)) 2 (cond (not (all_within target) || not (all_within canvas)) 7 0))
unfolding build_refusal lowest
build_after target canvas w h table =
    by (bad_size w h) (bad_lengths w h (length target) (length canvas) (length table))
    (not (all_within target) || not (all_within canvas))
  where
    by : (a b c : Bool) → lowest (size_if a ∷ length_if b ∷ pixel_if c ∷ []) ≡ cond a 1 (cond b 2 (cond c 7 0))
    by true b c = size-first b c
    by false true true = refl
    by false true false = refl
    by false false true = refl
    by false false false = refl

pub sizes-after : (a b : Bool) → lowest (size_if a ∷ length_if b ∷ []) ≡ cond a 1 (cond b 2 0)
unfolding lowest
sizes-after true true = refl
sizes-after true false = refl
sizes-after false true = refl
sizes-after false false = refl

-- no refusal: the sizes go together
module _ (target canvas : List Float) (w h : ℕ) (table : List Float) (e : update_refusal target canvas w h table ≡ 0) where
  passed : (bad_size w h ≡ false) × (bad_lengths w h (length target) (length canvas) (length table) ≡ false)
  unfolding update_refusal
  passed =
      let a = lowest-none (size_if (bad_size w h)) (length_if (bad_lengths w h (length target) (length canvas) (length table)) ∷ []) tt e in
      let b = lowest-none (length_if (bad_lengths w h (length target) (length canvas) (length table))) [] tt a.1 in
      (a.0, b.0)

  pub table_size_lem : length table ≡ h * (w + 1) * 15
  table_size_lem =
      table-length w h (length table)
      (or_right (bad_picture w h (length target) || bad_picture w h (length canvas)) (bad_table w h (length table)) passed.1)

  pub sizes : Sizes w h target canvas table
  sizes =
      let pictures = or_left (bad_picture w h (length target) || bad_picture w h (length canvas)) (bad_table w h (length table)) passed.1 in
      let s = sized w h passed.0 in
      record {
        narrow = s.w_high;
        low = s.h_high;
        targets = picture_length w h (length target) (or_left (bad_picture w h (length target)) (bad_picture w h (length canvas)) pictures) ∙ omega arith;
        canvases = picture_length w h (length canvas) (or_right (bad_picture w h (length target)) (bad_picture w h (length canvas)) pictures) ∙ omega arith;
        places = table_size_lem ∙ omega arith;
      }

-- ---- the answers, as the code comes to them

module _ (target canvas : List Float) (w h : ℕ) (table : List Float) where
  abbrev sizes_refusal : ℕ
  sizes_refusal = lowest (size_if (bad_size w h) ∷ length_if (bad_lengths w h (length target) (length canvas) (length table)) ∷ [])

  -- a refusal for the sizes stays one, whatever the pixels are
  sizes_stay : (a b c : Bool) (k : ℕ) → k ≡ cond a 1 (cond b 2 0) → (k ≡ 0 → ⊥) → k ≡ cond a 1 (cond b 2 (cond c 7 0))
  sizes_stay true b c k e n = e
  sizes_stay false true c k e n = e
  sizes_stay false false c k e n = absurd (n e)

  pub build_refused : (k : ℕ) → k ≡ sizes_refusal → (k ≡ 0 → ⊥) → BuildSays target canvas w h table k table
  build_refused k e n = record {
    answer =
        sizes_stay (bad_size w h) (bad_lengths w h (length target) (length canvas) (length table)) (not (all_within target) || not (all_within canvas)) k (e ∙ sizes-after _ _) n
        ∙ sym (build_after target canvas w h table);
    done = λ z. absurd (n z);
    refused = λ m. refl;
  }

  pub update_refused : (ymin ymax : ℤ) (k : ℕ) → k ≡ sizes_refusal → (k ≡ 0 → ⊥) → UpdateCanvasRowsSays target canvas w h table ymin ymax k table
  unfolding update_refusal
  update_refused ymin ymax k e n = record { answer = e; done = λ z. absurd (n z); refused = λ m. refl }

  pub update_done : (ymin ymax : ℤ) (new : List Float) → sizes_refusal ≡ 0 → Updated w h target canvas ymin ymax table new → UpdateCanvasRowsSays target canvas w h table ymin ymax 0 new
  unfolding update_refusal
  update_done ymin ymax new e u = record { answer = sym e; done = λ z. u; refused = λ n. absurd (n refl) }

  -- sizes that pass leave the pixels to decide
  pixels : sizes_refusal ≡ 0 → build_refusal target canvas w h table ≡ cond (not (all_within target) || not (all_within canvas)) 7 0
  unfolding update_refusal
  pixels e =
      let p = passed target canvas w h table e in
      build_after target canvas w h table
      ∙ ap (λ (a : Bool). cond a 1 (cond (bad_lengths w h (length target) (length canvas) (length table)) 2 (cond (not (all_within target) || not (all_within canvas)) 7 0))) p.0
      ∙ ap (λ (b : Bool). cond b 2 (cond (not (all_within target) || not (all_within canvas)) 7 0)) p.1

  pub bad_target : (b : Bool) → b ≡ all_within target → not b ≡ true → not (all_within target) || not (all_within canvas) ≡ true
  bad_target b e f = ap (λ (x : Bool). not x || not (all_within canvas)) (sym e) ∙ ap (λ (x : Bool). x || not (all_within canvas)) f

  pub bad_canvas : (b : Bool) → b ≡ all_within canvas → not b ≡ true → not (all_within target) || not (all_within canvas) ≡ true
  bad_canvas b e f = ap (λ (x : Bool). not (all_within target) || not x) (sym e) ∙ ap (λ (x : Bool). not (all_within target) || x) f ∙ or-true (not (all_within target))

  pub build_pixel : sizes_refusal ≡ 0 → not (all_within target) || not (all_within canvas) ≡ true → BuildSays target canvas w h table 7 table
  build_pixel e f = record {
    answer = sym (pixels e ∙ ap (λ (b : Bool). cond b 7 0) f);
    done = λ z. absurd (omega arith);
    refused = λ m. refl;
  }

  pub build_done : (new : List Float) → sizes_refusal ≡ 0 → all_within target ≡ true → all_within canvas ≡ true → Table w h target canvas new → BuildSays target canvas w h table 0 new
  build_done new e f g t = record {
    answer = sym (pixels e ∙ ap (λ (b : Bool). cond (not b || not (all_within canvas)) 7 0) f ∙ ap (λ (b : Bool). cond (not b) 7 0) g);
    done = λ z. t;
    refused = λ n. absurd (n refl);
  }
