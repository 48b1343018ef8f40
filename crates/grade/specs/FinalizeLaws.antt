-- Laws: one answer meets the promise of `finalize` and of `no_score`; the steps of the code.
use Rattle.std.specs.Prelude.{◌≡◌, ℕ, Bool, true, false, not, ◌&&◌, cond, T, Float}
use Rattle.std.proofs.Common.{refl, sym, ◌∙◌, subst}
use borrow.Author.Tests.{eq-eqb, ne_eqb}
use Rattle.std.specs.Float.{binary32}
use Rattle.std.specs.Float.Ieee.{fits, is_nan, lt}
use Rattle.std.specs.Float.Ieee.Fits.{and_i}
use Rattle.laws.specs.F64.{◌⊕◌, ◌⊖◌, ◌⊗◌}
use Rattle.float.specs.Within.{nought, one, number}
use Rattle.float.specs.Clamped.{clamped}
use Rattle.float.specs.NarrowLaws.{narrowed_no_nan, narrowed-fits}
use Rattle.float.specs.Narrowed.{narrowed}
use Rattle.sums.specs.Sums.{channel}
use Rattle.sums.specs.declared.ShapeSums.{ShapeSums}
use Rattle.grade.specs.declared.Score.{Score}
use Rattle.grade.specs.Finalize.{Summed, rest, over_channels, count_of, wanted_of, colour_of, error_after, colour_at, wanted_at, before_at, after_at, wide_change, no_score, finalized, NoScoreSays, FinalizeSays}

pub FinalizeSays-unique : (s : ShapeSums) (a : Float) (r q : Score) → FinalizeSays s a r → FinalizeSays s a q → r ≡ q
FinalizeSays-unique s a r q f g = f ∙ sym g

pub NoScoreSays-unique : (a : Float) (n : ℕ) (r q : Score) → NoScoreSays a n r → NoScoreSays a n q → r ≡ q
NoScoreSays-unique a n r q f g = f ∙ sym g

-- the colour of a number is a number
pub clamped-number : (q : Float) → T (number q) → T (number (clamped q))
unfolding clamped is_nan
clamped-number q h = by (lt q nought) (lt one q)
  where
    by : (a b : Bool) → T (number (cond a nought (cond b one q)))
    by true b = tt
    by false true = tt
    by false false = h

pub known_number : (q : Float) → T (number q) → T (number (narrowed (clamped q)))
known_number q h = narrowed_no_nan (clamped q) (clamped-number q h)

-- a colour that is a number is one of f32
pub colour_held : (s : ShapeSums) (a p : Float) (ch : ℕ) → p ≡ colour_at s a ch → T (number p) → T (fits binary32 p && not (is_nan p))
unfolding colour_at colour_of
colour_held s a p ch e n = and_i (fits binary32 p) (not (is_nan p)) (subst (λ (x : Float). T (fits binary32 x)) (sym e) (narrowed-fits _)) n

-- the code's steps, over plain numbers
module _ (s : ShapeSums) (a m n : Float) (hm : m ≡ rest a) (hn : n ≡ count_of s) where
  pub colour_step : (p : Float) (ch : ℕ) → p ≡ colour_of (channel s.s_t ch) (channel s.s_c ch) m (a ⊗ n)
      → p ≡ colour_at s a ch
  unfolding colour_at
  colour_step p ch h = simp (h, hm, hn)

  -- where denom is above 0
  positive : (t c denom : Float) → lt nought denom ≡ true → colour_of t c m denom ≡ narrowed (clamped (wanted_of t c m denom))
  unfolding colour_of
  positive t c denom e = simp e

  pub known_step : (p : Float) (ch : ℕ) → lt nought (a ⊗ n) ≡ true → p ≡ narrowed (clamped (wanted_at s ch m (a ⊗ n))) → p ≡ colour_at s a ch
  known_step p ch e h = colour_step p ch (h ∙ sym (positive (channel s.s_t ch) (channel s.s_c ch) (a ⊗ n) e))

  pub after_steps : (p0 p1 p2 e0 e1 e2 : Float) → (p0 ≡ colour_at s a 0) × (p1 ≡ colour_at s a 1) × (p2 ≡ colour_at s a 2)
      → e0 ≡ error_after (channel s.s_t2 0) (channel s.s_tc 0) (channel s.s_c2 0) (channel s.s_t 0) (channel s.s_c 0) a m p0 n
      → e1 ≡ error_after (channel s.s_t2 1) (channel s.s_tc 1) (channel s.s_c2 1) (channel s.s_t 1) (channel s.s_c 1) a m p1 n
      → e2 ≡ error_after (channel s.s_t2 2) (channel s.s_tc 2) (channel s.s_c2 2) (channel s.s_t 2) (channel s.s_c 2) a m p2 n
      → nought ⊕ e0 ⊕ e1 ⊕ e2 ≡ over_channels (after_at s a)
  unfolding after_at
  after_steps p0 p1 p2 e0 e1 e2 h l0 l1 l2 = simp (l0, l1, l2, h.0, h.1, h.2, hm, hn)

  -- the same where the sums of target and canvas go by number
  pub summed_steps : (t0 t1 t2 c0 c1 c2 p0 p1 p2 e0 e1 e2 : Float) → Summed s t0 t1 t2 c0 c1 c2 → (p0 ≡ colour_at s a 0) × (p1 ≡ colour_at s a 1) × (p2 ≡ colour_at s a 2)
      → e0 ≡ error_after (channel s.s_t2 0) (channel s.s_tc 0) (channel s.s_c2 0) t0 c0 a m p0 n
      → e1 ≡ error_after (channel s.s_t2 1) (channel s.s_tc 1) (channel s.s_c2 1) t1 c1 a m p1 n
      → e2 ≡ error_after (channel s.s_t2 2) (channel s.s_tc 2) (channel s.s_c2 2) t2 c2 a m p2 n
      → nought ⊕ e0 ⊕ e1 ⊕ e2 ≡ over_channels (after_at s a)
  summed_steps t0 t1 t2 c0 c1 c2 p0 p1 p2 e0 e1 e2 d h l0 l1 l2 =
      let t = d.target in
      let c = d.canvas in
      after_steps p0 p1 p2 e0 e1 e2 h (rw (t.0, c.0) at l0) (rw (t.1, c.1) at l1) (rw (t.2, c.2) at l2)

module _ (s : ShapeSums) (opacity a after before ch : Float) (count : ℕ) (he : a ≡ opacity) where
  pub counted_steps : (p0 p1 p2 : Float) → (count ≡ s.count) × (s.count ≡ 0 → ⊥) → (p0 ≡ colour_at s a 0) × (p1 ≡ colour_at s a 1) × (p2 ≡ colour_at s a 2)
      → after ≡ over_channels (after_at s a) → before ≡ over_channels (before_at s) → ch ≡ narrowed (after ⊖ before)
      → ◌≡◌ {A = Score} (record { opacity = opacity; count = count; change = ch; red = p0; green = p1; blue = p2 }) (finalized s opacity)
  unfolding finalized wide_change
  counted_steps p0 p1 p2 k h ha hb hc = simp (k.0, ne_eqb s.count 0 k.1, hc, ha, hb, h.0, h.1, h.2, he)

-- the same with the count that the sums have
module _ (s : ShapeSums) (opacity a after before ch : Float) (he : a ≡ opacity) where
  pub finalized_steps : (p0 p1 p2 : Float) → (s.count ≡ 0 → ⊥) → (p0 ≡ colour_at s a 0) × (p1 ≡ colour_at s a 1) × (p2 ≡ colour_at s a 2)
      → after ≡ over_channels (after_at s a) → before ≡ over_channels (before_at s) → ch ≡ narrowed (after ⊖ before)
      → ◌≡◌ {A = Score} (record { opacity = opacity; count = s.count; change = ch; red = p0; green = p1; blue = p2 }) (finalized s opacity)
  finalized_steps p0 p1 p2 z = counted_steps s opacity a after before ch s.count he p0 p1 p2 (refl, z)

pub finalized-none : (s : ShapeSums) (a : Float) → s.count ≡ 0 → no_score a 0 ≡ finalized s a
unfolding finalized
finalized-none s a z = simp (eq-eqb s.count 0 z)
