-- Laws: what document 01 shuts out, shown on the promises: nothing that meets them does it.
use Rattle.std.specs.Prelude.{◌≡◌, Bool, true, false, not, cond, List, [], ℕ, ◌<◌, pos, length, Float}
use Rattle.std.proofs.Math.Path.{refl}
use Rattle.std.proofs.Common.{sym, ap, ◌∙◌, arith, eq-eqb}
use Rattle.std.specs.Float.{nan}
use Rattle.std.specs.Float.Ieee.{add, sub, mul, round, le}
use Rattle.laws.specs.RowSums.{canvas_values, canvas_sum, picture_of}
use Rattle.laws.specs.Before.{before}
use Rattle.laws.specs.Fit.{no_both}
use Rattle.laws.specs.F64.{◌⊕◌}
use Rattle.refusal.specs.Refusals.{lowest, size_if, length_if, place_if, opacity_if, colour_if, bad_size, bad_place}
use Rattle.refusal.specs.Lengths.{bad_picture, bad_table}
use Rattle.refusal.specs.ChainLaws.{passed-by, none_left}
use Rattle.float.specs.Within.{nought, one, within}
use Rattle.cover.specs.declared.Kind.{Kind}
use Rattle.cover.specs.declared.Kind.TheVariants.{Circle}
use Rattle.cover.specs.Cover.{covered, bad_places}
use Rattle.cover.specs.Figures.{cover_figures}
use Rattle.table.specs.Layout.{of_canvas, entry}
use Rattle.table.specs.Table.{bad_lengths, BuildSays}
use Rattle.score.specs.declared.Request.{Request}
use Rattle.grade.specs.declared.Score.{Score}
use Rattle.refusal.specs.Outcomes.{Outcome}
use Rattle.score.specs.Scoring.{span_refusal, SpanScoreSays}
use Rattle.picture.specs.Painting.{blended}
use Rattle.picture.specs.PaintingLaws.{painted-at}
use Rattle.picture.specs.Pixels.{bad_colour}
use Rattle.paint.specs.Paint.{paint_refusal, PaintSays}
use Rattle.shapes.specs.declared.Shape.{Shape}
use Rattle.shapes.specs.declared.Shapes.{Shapes}
use Rattle.shapes.specs.declared.Candidates.{Candidates}
use Rattle.shapes.specs.Lists.{listed}
use Rattle.refine.specs.declared.Refined.{Refined}
use Rattle.refine.specs.Tests as refine
use Rattle.traces.specs.Refinement.{Progress, refined}
use Rattle.traces.specs.Scenes.{scene_of}
use Rattle.refine.specs.Answers.{Told, done_with, refused_with, RefineShapesSays}
use Rattle.demands.specs.declared.Call.{Call}
use Rattle.demands.specs.PaintCalls.{State, Paints}
use Rattle.demands.specs.KeepLaws.{KeptState, keeps}
use Rattle.demands.specs.DemandThree.{Reached, reached_kept}
use Rattle.demands.specs.DemandTwo.{scored_count, span_score_counts_covered_pixels}

-- "a port refusing all calls (demand 2; refusals given only as tabled)"
pub paint-is-taken : (kind : Kind) (opacity red green blue : Float) (w h : ℕ) (target canvas table : List Float) (r : ℕ) (canvas' table' : List Float)
    → bad_size w h ≡ false
    → bad_lengths w h (length target) (length canvas) (length table) ≡ false
    → bad_places kind ≡ false
    → not (within opacity) ≡ false
    → bad_colour red green blue ≡ false
    → PaintSays kind opacity red green blue w h target canvas table r canvas' table'
    → r ≡ 0
unfolding paint_refusal
paint-is-taken kind opacity red green blue w h target canvas table r canvas' table' a b c d e p =
    p.answer
    ∙ sym
    (passed-by (size_if (bad_size w h)) _ a
    (passed-by (length_if (bad_lengths w h (length target) (length canvas) (length table))) _ b
    (passed-by (place_if (bad_places kind)) _ c (passed-by (opacity_if (not (within opacity))) _ d (passed-by (colour_if (bad_colour red green blue)) [] e none_left)))))

-- for one, a circle on a picture of one pixel
pub dot_taken : paint_refusal (Circle (pos 0) (pos 0) (pos 1)) one one one one 1 1 3 3 30 ≡ 0
unfolding paint_refusal lowest bad_size bad_picture bad_table bad_places bad_place bad_colour within le
dot_taken = refl

-- "one score for all shapes (demand 2)"
pub scores_tell_shapes_apart : (request : Request) (levels table : List Float) (r s : Outcome Score)
    → SpanScoreSays (Circle (pos 0) (pos 0) (pos 1)) request levels 16 16 table r
    → SpanScoreSays (Circle (pos 0) (pos 0) (pos 0)) request levels 16 16 table s
    → span_refusal (Circle (pos 0) (pos 0) (pos 1)) request levels 16 16 table ≡ 0
    → span_refusal (Circle (pos 0) (pos 0) (pos 0)) request levels 16 16 table ≡ 0
    → r ≡ s
    → ⊥
scores_tell_shapes_apart request levels table r s p q y z e =
    omega (
      arith,
      span_score_counts_covered_pixels (Circle (pos 0) (pos 0) (pos 1)) request levels 16 16 table r p y,
      span_score_counts_covered_pixels (Circle (pos 0) (pos 0) (pos 0)) request levels 16 16 table s q z,
      ap scored_count e,
      cover_figures.1.0.0,
      cover_figures.1.1.0.0,
    )

-- ---- black and white
white_on_black : le (blended one one nought) nought ≡ false
unfolding blended add sub mul round le
white_on_black = refl

white_above_black : le one nought ≡ false
unfolding le
white_above_black = refl

black_is : le nought nought ≡ true
unfolding le
black_is = refl

-- two numbers of which one is at most black and the other is not
apart : (a b : Float) → le a nought ≡ true → le b nought ≡ false → b ≡ a → ⊥
apart a b p q e = no_both (ap (λ (v : Float). le v nought) e ∙ p) q

-- "a paint that does nothing (demand 2)": a taken call in white at opacity 1 leaves no covered pixel black
pub no_idle_paint : (kind : Kind) (w h : ℕ) (target canvas table canvas' table' : List Float) → PaintSays kind one one one one w h target canvas table 0 canvas' table'
    → (y x : ℕ) → y < h → x < w → covered kind x y ≡ true → picture_of nan w canvas 0 y x ≡ nought → canvas' ≡ canvas → ⊥
no_idle_paint kind w h target canvas table canvas' table' p y x l m t b e =
    apart nought (blended one one nought) black_is white_on_black (sym white ∙ ap (λ (v : List Float). picture_of nan w v 0 y x) e ∙ b)
  where
    white : picture_of nan w canvas' 0 y x ≡ blended one one nought
    white =
        ap (λ (v : List Float). picture_of nan w v 0 y x) (p.done refl).picture
        ∙ painted-at kind one one one one w h canvas 0 y x (omega arith) l m
        ∙ ap (λ (c : Bool). cond c (blended one one (picture_of nan w canvas 0 y x)) (picture_of nan w canvas 0 y x)) t
        ∙ ap (blended one one) b

-- ---- the table after a call
module _ (w h : ℕ) (target canvas table other : List Float) (built : BuildSays target canvas w h other 0 table) where
  -- place 1 of a row has the canvas's number of the first column
  first_place_lem : (s : State) → KeptState w h target s → (ch y : ℕ) → ch < 3 → y < h
      → entry w s.table (of_canvas canvas_values) ch y 1 ≡ nought ⊕ picture_of nan w s.canvas ch y 0
  unfolding canvas_sum before
  first_place_lem s k ch y c l = k.built.canvases canvas_values ch y 1 c l k.sizes.w_low

  black_stays : nought ⊕ nought ≡ nought
  unfolding add
  black_stays = refl

  white_stays : nought ⊕ one ≡ one
  unfolding add round
  white_stays = refl

  -- "one updating the table at the first paint only (demand 3)": after any calls, one more that turns a number of the first column from black to white
  -- does not leave the table as it was
  pub no_stale_table : (calls : List Call) (call : Call) (s t : State)
      → Reached w h target canvas table other built calls s
      → Paints target call s t
      → (ch y : ℕ) → ch < 3 → y < h
      → picture_of nan w s.canvas ch y 0 ≡ nought
      → picture_of nan w t.canvas ch y 0 ≡ one
      → t.table ≡ s.table
      → ⊥
  no_stale_table calls call s t r p ch y c l black white same =
      let k = reached_kept w h target canvas table other built calls s r in
      apart nought one black_is white_above_black
      (sym (first_place_lem t (keeps w h target call s t p k) ch y c l ∙ ap (λ (v : Float). nought ⊕ v) white ∙ white_stays)
      ∙ ap (λ (q : List Float). entry w q (of_canvas canvas_values) ch y 1) same
      ∙ first_place_lem s k ch y c l
      ∙ ap (λ (v : Float). nought ⊕ v) black
      ∙ black_stays)

-- "a count not equal to the covered pixels, or trials not those of the rule (demand 2)"
module _ (w h : ℕ) (red green blue : Float) (target : List Float) (list : Shapes) (candidates : Candidates) (passes : ℕ) (first second : List Float) (r : Refined) (first' second' : List Float) where
  abbrev by_the_rule : Progress Shape
  by_the_rule = refined (scene_of w h red green blue target candidates) passes (listed list)

  pub trials_are_those_of_the_rule : RefineShapesSays w h red green blue target list candidates passes first second r first' second'
      → refine.refusal_of w h red green blue target list candidates passes (length first) (length second) ≡ 0
      → (r.trials ≡ by_the_rule.trials) × (r.passes ≡ by_the_rule.passes) × (r.acceptances ≡ by_the_rule.acceptances) × (listed r.shapes ≡ by_the_rule.list)
  trials_are_those_of_the_rule p z =
      let e = p.answer ∙ ap (λ (b : Bool). cond b (done_with by_the_rule) (refused_with (refine.refusal_of w h red green blue target list candidates passes (length first) (length second)) list)) (eq-eqb _ 0 z) in
      (ap (λ (t : Told). t.trials) e, ap (λ (t : Told). t.passes) e, ap (λ (t : Told). t.acceptances) e, ap (λ (t : Told). t.list) e)
