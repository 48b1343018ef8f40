-- Laws: demand 3, sentence by sentence. From a table built for a target and a picture, over any list of paint calls, refused ones among them, each with its own
-- sizes, shape, opacity and colour, on the same lent slices and with the target fixed.
use Rattle.std.specs.Prelude.{◌≡◌, Bool, true, false, cond, List, ◌++◌, ℕ, ◌≤◌, ◌<◌, ℤ, pos, ◌+ℤ◌, ◌-ℤ◌, Float}
use Rattle.std.proofs.Math.Path.{refl}
use Rattle.std.proofs.Common.{sym, ap, ◌∙◌}
use Rattle.std.specs.Float.{nan}
use Rattle.laws.specs.Before.{before}
use Rattle.laws.specs.Calls.{Calls}
use Rattle.laws.specs.CallLaws.{calls_keep, calls_split}
use Rattle.laws.specs.Pictures.{channel_of}
use Rattle.laws.specs.PixelSums.{span_sum, point_sum}
use Rattle.laws.specs.PixelSumLaws.{spans_are_points}
use Rattle.laws.specs.RowSums.{picture_of}
use Rattle.sums.specs.Sums.{no_sums, plus, minus}
use Rattle.cover.specs.declared.Kind.{Kind}
use Rattle.cover.specs.Cover.{covered}
use Rattle.cover.specs.CoverLaws.{convex}
use Rattle.picture.specs.Painting.{blended, painted}
use Rattle.picture.specs.PaintingLaws.{painted-at}
use Rattle.table.specs.Layout.{place_of}
use Rattle.table.specs.Table.{BuildSays}
use Rattle.table.specs.ReadLaws.{pixel_of, table-place}
use Rattle.gather.specs.Gathered.{span_sums}
use Rattle.demands.specs.declared.Call.{Call}
use Rattle.demands.specs.PaintCalls.{State, Paints, Afresh, OutsideReach, SameRow, summed, times_summed, repeated}
use Rattle.demands.specs.KeepLaws.{KeptState, built_kept, kept_afresh, keeps, same_row}
use Rattle.demands.specs.OnceLaws.{summed_once}

module _ (w h : ℕ) (target canvas table other : List Float) (built : BuildSays target canvas w h other 0 table) where
  abbrev start : State
  start = record { canvas = canvas; table = table }

  -- from the start to s, by these calls
  abbrev pub Reached : List Call → State → Type 0
  Reached calls s = Calls (Paints target) calls start s

  pub reached_kept : (calls : List Call) (s : State) → Reached calls s → KeptState w h target s
  reached_kept calls s r =
      calls_keep (Paints target) (KeptState w h target) (λ c s t p k. keeps w h target c s t p k) calls start s r (built_kept w h target canvas other table built)

  -- (a) "after every call the table equals the one built afresh"
  pub table_afresh : (calls : List Call) (s : State) → Reached calls s → Afresh w h target s
  table_afresh calls s r = kept_afresh w h target s.canvas s.table (reached_kept calls s r)

  -- every call: however a list of calls is cut in two, there is the state between, and its table is afresh
  pub table_afresh_between : (calls more : List Call) (end : State) → Reached (calls ++ more) end
      → (s : State) × Reached calls s × Calls (Paints target) more s end × Afresh w h target s
  table_afresh_between calls more end r =
      let m = calls_split (Paints target) calls more start end r in
      (m.0, m.1, m.2, table_afresh calls m.0 m.1)

  -- so what a score reads of it are the sums of the pixels, as they now are, before each place
  pub score_reads : (calls : List Call) (s : State) → Reached calls s → (y x : ℕ) → y < h → x ≤ w → place_of w s.table y x ≡ before no_sums plus (pixel_of w target s.canvas y) x
  score_reads calls s r y x l m = table-place w h target s.canvas s.table (reached_kept calls s r).built y x l m

  -- (c) "no number in a row outside the shape's reach has changed, in the picture or the table"
  pub rows_outside_same : (calls : List Call) (c : Call) (s t : State) → Reached calls s → Paints target c s t → (y : ℕ) → y < h → OutsideReach c.kind h y → SameRow w y s t
  rows_outside_same calls c s t r p y l o = same_row w h target c s t p (reached_kept calls s r) y l o

-- (b) "the pixels that scoring a shape sums are exactly those that painting it blends, each once"
module _ (kind : Kind) (w h : ℕ) where
  -- a span score's sums are this rule at ShapeSums
  pub score_rule : (table : List Float) → span_sums kind w h table ≡ span_sum no_sums plus minus (place_of w table) (covered kind) w h
  unfolding span_sums
  score_rule table = refl

  -- at whole numbers, for every f: it is the sum of f over the covered pixels, in row order
  pub score-sums-covered : (f : ℕ → ℕ → ℤ) → summed kind w h f ≡ point_sum (pos 0) ◌+ℤ◌ ◌-ℤ◌ f (covered kind) w h
  score-sums-covered f = spans_are_points (covered kind) w (convex kind) f h

  -- a covered pixel is summed once, any other not at all
  pub score_sums_once : (x y : ℕ) → x < w → y < h → times_summed kind w h x y ≡ cond (covered kind x y) 1 0
  score_sums_once x y m l = summed_once kind w h x y m l

  -- painting blends each pixel as often as scoring sums it
  pub paint_blends_what_score_sums : (opacity red green blue : Float) (canvas : List Float) (ch y x : ℕ) → ch < 3 → y < h → x < w
      → picture_of nan w (painted kind opacity red green blue w h canvas) ch y x
      ≡ repeated (times_summed kind w h x y) (blended opacity (channel_of red green blue ch)) (picture_of nan w canvas ch y x)
  paint_blends_what_score_sums opacity red green blue canvas ch y x c l m =
      painted-at kind opacity red green blue w h canvas ch y x c l m
      ∙ by (covered kind x y)
      ∙ ap (λ (n : ℕ). repeated n (blended opacity (channel_of red green blue ch)) (picture_of nan w canvas ch y x)) (sym (score_sums_once x y m l))
    where
      by : (t : Bool)
          → cond t (blended opacity (channel_of red green blue ch) (picture_of nan w canvas ch y x)) (picture_of nan w canvas ch y x)
          ≡ repeated (cond t 1 0) (blended opacity (channel_of red green blue ch)) (picture_of nan w canvas ch y x)
      by true = refl
      by false = refl
