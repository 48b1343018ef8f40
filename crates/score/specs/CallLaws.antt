-- Laws: the refusals of the calls, test by test, and what a call that is not refused knows.
use Rattle.std.specs.Prelude.{◌≡◌, Bool, true, not, ◌||◌, List, [], ◌∷◌, ℕ, ◌+◌, ◌*◌, ◌≤◌, T, eqb, length, Float}
use Rattle.std.proofs.Math.Path.{refl, sym, ap}
use Rattle.std.proofs.Common.{◌∙◌, ap₂, arith, eq-eqb, eqb-true}
use Rattle.std.proofs.Math.Bool.{false, cond}
use Rattle.std.proofs.lemmas.Bool.{not-false}
use Rattle.laws.specs.Fit.{no_both}
use Rattle.laws.specs.Bools.{or_left, or_right}
use Rattle.refusal.specs.Refusals.{Test, Sized, lowest, size_if, length_if, count_if, place_if, opacity_if, bad_size}
use Rattle.refusal.specs.RefusalLaws.{above, lowest_skip, lowest-take, lowest-none, lowest-empty, sized}
use Rattle.refusal.specs.Lengths.{bad_picture, bad_table}
use Rattle.cover.specs.declared.Kind.{Kind}
use Rattle.cover.specs.Cover.{bad_places}
use Rattle.grade.specs.declared.Score.{Score}
use Rattle.refusal.specs.Outcomes.{Outcome, Done, Refused}
use Rattle.grade.specs.Finalize.{finalized, no_score}
use Rattle.grade.specs.FinalizeLaws.{finalized-none}
use Rattle.grade.specs.Answered.{answered}
use Rattle.grade.specs.AnsweredLaws.{answered-done}
use Rattle.grade.specs.AlphaSweep.{bad_levels}
use Rattle.score.specs.declared.Request.{Request}
use Rattle.score.specs.declared.Request.TheVariants.{Opacity}
use Rattle.sums.specs.declared.ShapeSums.{ShapeSums}
use Rattle.sums.specs.Sums.{no_sums}
use Rattle.refusal.specs.ThreeTests as three
use Rattle.gather.specs.RunSumLaws.{no_count, none_spans, none_points, none_reached}
use Rattle.cover.specs.declared.reached.Rows.{Rows}
use Rattle.cover.specs.ReachRows.{ReachRowsSays}
use Rattle.float.specs.Within.{within}
use Rattle.score.specs.Usual.{Usual}
use Rattle.gather.specs.Gathered.{span_sums, point_sums}
use Rattle.score.specs.Scoring.{SpanScoreSays, PointScoreSays, score_at, bad_count, bad_opacity, span_refusal, point_refusal, span_sums_refusal, point_sums_refusal, CollectSpanSumsSays, CollectPointSumsSays}

pub or-first : (a b : Bool) → a ≡ true → a || b ≡ true
or-first a b h = ap (λ (t : Bool). t || b) h

pub or-second : (a b : Bool) → b ≡ true → a || b ≡ true
or-second true b h = refl
or-second false b h = h

pub or_neither : (a b : Bool) → a ≡ false → b ≡ false → a || b ≡ false
or_neither a b h g = ap (λ (t : Bool). t || b) h ∙ g

-- a size and a length before other tests
module _ (a b : Bool) (r : List Test) (up : T (above 2 r)) where
  pub size-first : T (above 1 (length_if b ∷ r)) → a ≡ true → lowest (size_if a ∷ length_if b ∷ r) ≡ 1
  size-first u h = lowest-take (size_if a) (length_if b ∷ r) h u

  pub length-next : a ≡ false → b ≡ true → lowest (size_if a ∷ length_if b ∷ r) ≡ 2
  length-next h g = lowest_skip (size_if a) (length_if b ∷ r) h ∙ lowest-take (length_if b) r g up

  pub others_next : a ≡ false → b ≡ false → lowest (size_if a ∷ length_if b ∷ r) ≡ lowest r
  others_next h g = lowest_skip (size_if a) (length_if b ∷ r) h ∙ lowest_skip (length_if b) r g

-- what is not refused by any of the five
pub record Passed (a b c d e : Bool) : Type 0 where
  pub size : a ≡ false
  pub lengths : b ≡ false
  pub count : c ≡ false
  pub place : d ≡ false
  pub opacity : e ≡ false

pub passed : (a b c d e : Bool) → lowest (size_if a ∷ length_if b ∷ count_if c ∷ place_if d ∷ opacity_if e ∷ []) ≡ 0 → Passed a b c d e
passed a b c d e h =
    let p = lowest-none (size_if a) (length_if b ∷ count_if c ∷ place_if d ∷ opacity_if e ∷ []) tt h in
    let q = lowest-none (length_if b) (count_if c ∷ place_if d ∷ opacity_if e ∷ []) tt p.1 in
    let r = lowest-none (count_if c) (place_if d ∷ opacity_if e ∷ []) tt q.1 in
    let s = lowest-none (place_if d) (opacity_if e ∷ []) tt r.1 in
    let t = lowest-none (opacity_if e) [] tt s.1 in
    record { size = p.0; lengths = q.0; count = r.0; place = s.0; opacity = t.0 }

pub table-length : (w h n : ℕ) → bad_table w h n ≡ false → n ≡ h * (w + 1) * 15
unfolding bad_table
table-length w h n e = eqb-true n (h * (w + 1) * 15) (not-false (eqb n (h * (w + 1) * 15)) e)

pub picture_length : (w h n : ℕ) → bad_picture w h n ≡ false → n ≡ h * w * 3
unfolding bad_picture
picture_length w h n e = eqb-true n (h * w * 3) (not-false (eqb n (h * w * 3)) e)

-- both pictures have their lengths
pub picture_lengths : (w h m n : ℕ) → bad_picture w h m || bad_picture w h n ≡ false → (m ≡ h * w * 3) × (n ≡ h * w * 3)
picture_lengths w h m n e =
    (picture_length w h m (or_left (bad_picture w h m) (bad_picture w h n) e), picture_length w h n (or_right (bad_picture w h m) (bad_picture w h n) e))

pub span_passed : (kind : Kind) (request : Request) (levels : List Float) (w h : ℕ) (table : List Float) → span_refusal kind request levels w h table ≡ 0
    → Passed (bad_size w h) (bad_levels levels || bad_table w h (length table)) (bad_count request) (bad_places kind) (bad_opacity request levels)
unfolding span_refusal
span_passed kind request levels w h table e =
    passed (bad_size w h) (bad_levels levels || bad_table w h (length table)) (bad_count request) (bad_places kind) (bad_opacity request levels) e

pub point_passed : (kind : Kind) (request : Request) (levels : List Float) (w h : ℕ) (target canvas : List Float)
    → point_refusal kind request levels w h target canvas ≡ 0
    → Passed (bad_size w h) (bad_levels levels || (bad_picture w h (length target) || bad_picture w h (length canvas))) (bad_count request) (bad_places kind) (bad_opacity request levels)
unfolding point_refusal
point_passed kind request levels w h target canvas e =
    passed (bad_size w h) (bad_levels levels || (bad_picture w h (length target) || bad_picture w h (length canvas))) (bad_count request) (bad_places kind) (bad_opacity request levels) e

-- ---- a call at one opacity that passed its tests in one go is not refused
none-refused : (a b c d e : Bool) → a ≡ false → b ≡ false → c ≡ false → d ≡ false → e ≡ false
    → lowest (size_if a ∷ length_if b ∷ count_if c ∷ place_if d ∷ opacity_if e ∷ []) ≡ 0
none-refused a b c d e ha hb hc hd he =
    others_next a b (count_if c ∷ place_if d ∷ opacity_if e ∷ []) tt ha hb
    ∙ lowest_skip (count_if c) (place_if d ∷ opacity_if e ∷ []) hc
    ∙ lowest_skip (place_if d) (opacity_if e ∷ []) hd
    ∙ lowest_skip (opacity_if e) [] he
    ∙ lowest-empty

module _ (kind : Kind) (opacity : Float) (levels : List Float) (w h : ℕ) (u : Usual kind opacity (length levels) w h) where
  fine : bad_opacity (Opacity opacity) levels ≡ false
  fine = ap not u.opacity_in

  enough : bad_levels levels ≡ false
  enough = ap not (eq-eqb (length levels) 64 u.levels_64)

  pub usual_span : (table : List Float) → bad_table w h (length table) ≡ false → span_refusal kind (Opacity opacity) levels w h table ≡ 0
  unfolding span_refusal
  usual_span table e =
      none-refused (bad_size w h) (bad_levels levels || bad_table w h (length table)) false (bad_places kind) (bad_opacity (Opacity opacity) levels)
      u.size (or_neither (bad_levels levels) (bad_table w h (length table)) enough e) refl u.places fine

  pub usual_point : (target canvas : List Float) → bad_picture w h (length target) || bad_picture w h (length canvas) ≡ false → point_refusal kind (Opacity opacity) levels w h target canvas ≡ 0
  unfolding point_refusal
  usual_point target canvas e =
      none-refused (bad_size w h) (bad_levels levels || (bad_picture w h (length target) || bad_picture w h (length canvas))) false (bad_places kind) (bad_opacity (Opacity opacity) levels)
      u.size (or_neither (bad_levels levels) (bad_picture w h (length target) || bad_picture w h (length canvas)) enough e) refl u.places fine

-- ---- a call at one opacity that passed its tests in one go: what its rows ask, and its answer
module _ (request : Request) (opacity : Float) (levels : List Float) (number : Request → ℕ) (sums : ShapeSums) (asks : request ≡ Opacity opacity)
    (passes : number (Opacity opacity) ≡ 0) where
  told : (q : ShapeSums) (s : Score) (a : Outcome Score) → q ≡ sums → s ≡ finalized q opacity → a ≡ answered 0 s → a ≡ answered (number request) (score_at sums request levels)
  unfolding score_at
  told q s a z g e =
      e ∙ ap Done (g ∙ ap (λ (u : ShapeSums). finalized u opacity) z)
      ∙ sym (ap₂ (λ (n : ℕ) (u : Request). cond (eqb n 0) (Done (score_at sums u levels)) (Refused n)) (ap number asks ∙ passes) asks)

  nothing-told : (s : Score) → no_sums ≡ sums → s ≡ no_score opacity 0 → Done s ≡ answered (number request) (score_at sums request levels)
  nothing-told s z e = told no_sums s (Done s) z (e ∙ finalized-none no_sums opacity no_count) refl

pub usual_rows : (kind : Kind) (opacity : Float) (n w h : ℕ) → Usual kind opacity n w h → Sized w h × (bad_places kind ≡ false)
usual_rows kind opacity n w h u = (sized w h u.size, u.places)

module _ (kind : Kind) (request : Request) (opacity : Float) (levels : List Float) (w h : ℕ) (asks : within opacity ≡ true → request ≡ Opacity opacity) where
  module _ (table : List Float) (f : Usual kind opacity (length levels) w h × (bad_table w h (length table) ≡ false)) where
    pub span_told : (q : ShapeSums) (s : Score) (a : Outcome Score) → q ≡ span_sums kind w h table → s ≡ finalized q opacity → a ≡ answered 0 s
        → SpanScoreSays kind request levels w h table a
    span_told =
        told request opacity levels (λ u. span_refusal kind u levels w h table) (span_sums kind w h table) (asks f.0.opacity_in)
        (usual_span kind opacity levels w h f.0 table f.1)

    pub span_nothing : (r : Rows) → ReachRowsSays kind w h r → r.bottom ≤ r.top → (s : Score) → s ≡ no_score opacity 0
        → SpanScoreSays kind request levels w h table (Done s)
    span_nothing r e l s =
        nothing-told request opacity levels (λ u. span_refusal kind u levels w h table) (span_sums kind w h table) (asks f.0.opacity_in)
        (usual_span kind opacity levels w h f.0 table f.1) s
        (none_spans kind w h (sized w h f.0.size).h_high (none_reached kind w h r e l) table)

  module _ (target canvas : List Float)
      (f : Usual kind opacity (length levels) w h × (bad_picture w h (length target) || bad_picture w h (length canvas) ≡ false)) where
    pub point_told : (q : ShapeSums) (s : Score) (a : Outcome Score) → q ≡ point_sums kind w h target canvas → s ≡ finalized q opacity → a ≡ answered 0 s
        → PointScoreSays kind request levels w h target canvas a
    point_told =
        told request opacity levels (λ u. point_refusal kind u levels w h target canvas) (point_sums kind w h target canvas) (asks f.0.opacity_in)
        (usual_point kind opacity levels w h f.0 target canvas f.1)

    pub point_nothing : (r : Rows) → ReachRowsSays kind w h r → r.bottom ≤ r.top → (s : Score) → s ≡ no_score opacity 0
        → PointScoreSays kind request levels w h target canvas (Done s)
    point_nothing r e l s =
        nothing-told request opacity levels (λ u. point_refusal kind u levels w h target canvas) (point_sums kind w h target canvas) (asks f.0.opacity_in)
        (usual_point kind opacity levels w h f.0 target canvas f.1) s
        (none_points kind w h (sized w h f.0.size).h_high (none_reached kind w h r e l) target canvas)

-- ---- sums that are collected
pub span_sums-passed : (kind : Kind) (w h : ℕ) (table : List Float) → span_sums_refusal kind w h table ≡ 0
    → (bad_size w h ≡ false) × (bad_table w h (length table) ≡ false) × (bad_places kind ≡ false)
unfolding span_sums_refusal
span_sums-passed kind w h table e = three.passed (bad_size w h) (bad_table w h (length table)) (bad_places kind) 4 (omega arith) e

pub point_sums-passed : (kind : Kind) (w h : ℕ) (target canvas : List Float) → point_sums_refusal kind w h target canvas ≡ 0
    → (bad_size w h ≡ false) × (bad_picture w h (length target) || bad_picture w h (length canvas) ≡ false) × (bad_places kind ≡ false)
unfolding point_sums_refusal
point_sums-passed kind w h target canvas e =
    three.passed (bad_size w h) (bad_picture w h (length target) || bad_picture w h (length canvas)) (bad_places kind) 4 (omega arith) e

-- ---- sums of a call that passed its tests in one go
module _ (kind : Kind) (w h : ℕ) {opacity : Float} {n : ℕ} where
  module _ (table : List Float) (f : Usual kind opacity n w h × (bad_table w h (length table) ≡ false)) where
    span_sums-taken : span_sums_refusal kind w h table ≡ 0
    unfolding span_sums_refusal
    span_sums-taken = sym (three.at_none (bad_size w h) (bad_table w h (length table)) (bad_places kind) 4 (omega arith) f.0.size f.1 f.0.places)

    pub span_sums-told : (q : ShapeSums) → q ≡ span_sums kind w h table → CollectSpanSumsSays kind w h table (Done q)
    span_sums-told q e = answered-done (span_sums_refusal kind w h table) (span_sums kind w h table) q span_sums-taken e

    pub span_sums-nothing : (r : Rows) → ReachRowsSays kind w h r → r.bottom ≤ r.top → (q : ShapeSums) → q ≡ no_sums → CollectSpanSumsSays kind w h table (Done q)
    span_sums-nothing r e l q g = span_sums-told q (g ∙ none_spans kind w h (sized w h f.0.size).h_high (none_reached kind w h r e l) table)

  module _ (target canvas : List Float) (f : Usual kind opacity n w h × (bad_picture w h (length target) || bad_picture w h (length canvas) ≡ false)) where
    point_sums-taken : point_sums_refusal kind w h target canvas ≡ 0
    unfolding point_sums_refusal
    point_sums-taken =
        sym (three.at_none (bad_size w h) (bad_picture w h (length target) || bad_picture w h (length canvas)) (bad_places kind) 4 (omega arith) f.0.size f.1 f.0.places)

    pub point_sums-told : (q : ShapeSums) → q ≡ point_sums kind w h target canvas → CollectPointSumsSays kind w h target canvas (Done q)
    point_sums-told q e = answered-done (point_sums_refusal kind w h target canvas) (point_sums kind w h target canvas) q point_sums-taken e

    pub point_sums-nothing : (r : Rows) → ReachRowsSays kind w h r → r.bottom ≤ r.top → (q : ShapeSums) → q ≡ no_sums → CollectPointSumsSays kind w h target canvas (Done q)
    point_sums-nothing r e l q g = point_sums-told q (g ∙ none_points kind w h (sized w h f.0.size).h_high (none_reached kind w h r e l) target canvas)

pub not-holds : (b : Bool) → not b ≡ true → b ≡ false
not-holds true h = no_both h refl
not-holds false h = refl
