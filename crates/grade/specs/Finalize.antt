-- Rules: document 01, "Score, in f64, with m = 1 - a worked out in f32 and both then widened", line by line as in `finalize` of raster.rs.
-- Each operation is rounded once. A widened number is the number itself.
use Rattle.std.specs.Prelude.{◌≡◌, false, cond, ℕ, eqb, pos, Float}
use Rattle.std.specs.Float.{fin, binary32, binary64}
use Rattle.std.specs.Float.Ieee.{sub, lt, of_int}
use Rattle.laws.specs.F64.{◌⊕◌, ◌⊖◌, ◌⊗◌, ◌⊘◌}
use Rattle.float.specs.Within.{nought, one}
use Rattle.float.specs.Clamped.{clamped}
use Rattle.float.specs.Narrowed.{narrowed}
use Rattle.sums.specs.Sums.{channel}
use Rattle.sums.specs.declared.ShapeSums.{ShapeSums}
use Rattle.grade.specs.declared.Score.{Score}

abbrev pub two : Float
two = fin false 1 (pos 1)

-- 1 - a, in f32
abbrev pub rest : Float → Float
rest a = sub binary32 one a

-- a channel's error as it is
unfoldable pub error_before : Float → Float → Float → Float
error_before t2 tc c2 = t2 ⊖ two ⊗ tc ⊕ c2

-- a channel's colour before it is held to 0..1
abbrev pub wanted_of : Float → Float → Float → Float → Float
wanted_of t c m denom = (t ⊖ m ⊗ c) ⊘ denom

-- a channel's colour: p = (t - m·c)/denom if denom > 0, else 0; below 0 becomes 0, above 1 becomes 1; narrowed
unfoldable pub colour_of : Float → Float → Float → Float → Float
colour_of t c m denom = narrowed (clamped (cond (lt nought denom) (wanted_of t c m denom) nought))

-- a channel's error with the colour p drawn over it
unfoldable pub error_after : Float → Float → Float → Float → Float → Float → Float → Float → Float → Float
error_after t2 tc c2 t c a m p n =
    t2 ⊖ two ⊗ m ⊗ tc ⊕ m ⊗ m ⊗ c2 ⊖ two ⊗ a ⊗ p ⊗ t ⊕ two ⊗ a ⊗ m ⊗ p ⊗ c ⊕ a ⊗ a ⊗ p ⊗ p ⊗ n

-- added over channels 0, 1, 2 from +0
abbrev pub over_channels : (ℕ → Float) → Float
over_channels f = nought ⊕ f 0 ⊕ f 1 ⊕ f 2

abbrev pub count_of : ShapeSums → Float
count_of s = of_int binary64 (pos s.count)

-- the colour of a channel, at the opacity a
unfoldable pub colour_at : ShapeSums → Float → ℕ → Float
colour_at s a ch = colour_of (channel s.s_t ch) (channel s.s_c ch) (rest a) (a ⊗ count_of s)

abbrev pub wanted_at : ShapeSums → ℕ → Float → Float → Float
wanted_at s ch m denom = wanted_of (channel s.s_t ch) (channel s.s_c ch) m denom

unfoldable pub before_at : ShapeSums → ℕ → Float
before_at s ch = error_before (channel s.s_t2 ch) (channel s.s_tc ch) (channel s.s_c2 ch)

unfoldable pub after_at : ShapeSums → Float → ℕ → Float
after_at s a ch =
    error_after (channel s.s_t2 ch) (channel s.s_tc ch) (channel s.s_c2 ch) (channel s.s_t ch) (channel s.s_c ch)
    a (rest a) (colour_at s a ch) (count_of s)

-- the sums of target and canvas, channel by channel
pub record Summed (s : ShapeSums) (t0 t1 t2 c0 c1 c2 : Float) : Type 0 where
  pub target : (t0 ≡ channel s.s_t 0) × (t1 ≡ channel s.s_t 1) × (t2 ≡ channel s.s_t 2)
  pub canvas : (c0 ≡ channel s.s_c 0) × (c1 ≡ channel s.s_c 1) × (c2 ≡ channel s.s_c 2)

-- the change before narrowing: after minus before
unfoldable pub wide_change : ShapeSums → Float → Float
wide_change s a = over_channels (after_at s a) ⊖ over_channels (before_at s)

-- change +0, colour 0
unfoldable pub no_score : Float → ℕ → Score
no_score a n = record { opacity = a; count = n; change = nought; red = nought; green = nought; blue = nought }

abbrev pub NoScoreSays : Float → ℕ → Score → Type 0
NoScoreSays a n r = r ≡ no_score a n

-- the score at the opacity a; nothing covered gives change +0 and colour 0
unfoldable pub finalized : ShapeSums → Float → Score
finalized s a =
    cond (eqb s.count 0) (no_score a 0)
    (record {
      opacity = a;
      count = s.count;
      change = narrowed (wide_change s a);
      red = colour_at s a 0;
      green = colour_at s a 1;
      blue = colour_at s a 2;
    })

abbrev pub FinalizeSays : ShapeSums → Float → Score → Type 0
FinalizeSays s a r = r ≡ finalized s a
