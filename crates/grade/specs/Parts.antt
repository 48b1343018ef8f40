-- Rules: the parts of `finalize`: a channel's error after in two steps, where m of the canvas is left and with the colour drawn over it, and
-- the numbers that a score is worked out from.
use Rattle.std.specs.Prelude.{◌≡◌, ℕ, Float}
use Rattle.laws.specs.F64.{◌⊕◌, ◌⊖◌, ◌⊗◌}
use Rattle.sums.specs.Sums.{channel}
use Rattle.sums.specs.declared.ShapeSums.{ShapeSums}
use Rattle.grade.specs.declared.parts.Parts.{Parts}
use Rattle.grade.specs.Finalize.{two, count_of}

-- a channel's error where m of the canvas is left and nothing is drawn yet: the first three terms of `error_after`
unfoldable pub error_left : Float → Float → Float → Float → Float
error_left t2 tc c2 m = t2 ⊖ two ⊗ m ⊗ tc ⊕ m ⊗ m ⊗ c2

-- the same with the colour p drawn over it: the last three
unfoldable pub error_drawn : Float → Float → Float → Float → Float → Float → Float → Float
error_drawn left t c a m p n = left ⊖ two ⊗ a ⊗ p ⊗ t ⊕ two ⊗ a ⊗ m ⊗ p ⊗ c ⊕ a ⊗ a ⊗ p ⊗ p ⊗ n

abbrev pub left_at : ShapeSums → Float → ℕ → Float
left_at s m ch = error_left (channel s.s_t2 ch) (channel s.s_tc ch) (channel s.s_c2 ch) m

abbrev pub parts_of : Float → Float → Float → Float → Float → Float → Float → Float → Float → Parts
parts_of t0 t1 t2 c0 c1 c2 l0 l1 l2 = record { t0 = t0; t1 = t1; t2 = t2; c0 = c0; c1 = c1; c2 = c2; l0 = l0; l1 = l1; l2 = l2 }

-- the numbers that a score is worked out from where m of the canvas is left: the covered count, and channel by channel the sums of target
-- and canvas and the errors where nothing is drawn yet
pub record Parted (s : ShapeSums) (m n : Float) (p : Parts) : Type 0 where
  pub pixels : n ≡ count_of s
  pub target : (p.t0 ≡ channel s.s_t 0) × (p.t1 ≡ channel s.s_t 1) × (p.t2 ≡ channel s.s_t 2)
  pub canvas : (p.c0 ≡ channel s.s_c 0) × (p.c1 ≡ channel s.s_c 1) × (p.c2 ≡ channel s.s_c 2)
  pub left : (p.l0 ≡ left_at s m 0) × (p.l1 ≡ left_at s m 1) × (p.l2 ≡ left_at s m 2)
