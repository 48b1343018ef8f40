-- Rules: document 01, "The table and its update", over any kind of number: P is what a picture holds, E what the sums are held in.
-- A picture is its value at each channel, row and column. A table is its number at each series, channel, row and place; where it keeps that number is said elsewhere.
use Rattle.std.specs.Prelude.{◌≡◌, Bool, cond, List, ℕ, ◌+◌, ◌*◌, ◌≤◌, ◌<◌, get_or}
use Rattle.laws.specs.Before.{before}

-- the series of the target alone
pub data OfTarget : Type 0 where
  target_values target_squares : OfTarget

-- and those that read the canvas
pub data OfCanvas : Type 0 where
  canvas_values canvas_squares products : OfCanvas

-- what adding up takes: nothing, the sum and the product of two, and a picture's value widened
pub record Summing (P E : Type 0) : Type 0 where
  pub none : E
  pub plus : E → E → E
  pub times : E → E → E
  pub widened : P → E

abbrev pub Picture : Type 0 → Type 0
Picture P = ℕ → ℕ → ℕ → P

-- a picture of w columns from its list: rows top down, channels together
abbrev pub picture_of : {P : Type 0} → P → ℕ → List P → Picture P
picture_of d w p ch y x = get_or p ((y * w + x) * 3 + ch) d

module _ {P E : Type 0} (k : Summing P E) where
  -- what a pixel adds to each series, by its target value t and its canvas value c
  abbrev pub target_term : OfTarget → P → E
  target_term target_values t = k.widened t
  target_term target_squares t = k.times (k.widened t) (k.widened t)

  abbrev pub canvas_term : OfCanvas → P → P → E
  canvas_term canvas_values t c = k.widened c
  canvas_term canvas_squares t c = k.times (k.widened c) (k.widened c)
  canvas_term products t c = k.times (k.widened t) (k.widened c)

  -- the sum of a series over the pixels before x of row y, left to right; each row starts afresh
  unfoldable pub target_sum : Picture P → OfTarget → ℕ → ℕ → ℕ → E
  target_sum target s ch y x = before k.none k.plus (λ i. target_term s (target ch y i)) x

  unfoldable pub canvas_sum : Picture P → Picture P → OfCanvas → ℕ → ℕ → ℕ → E
  canvas_sum target canvas s ch y x = before k.none k.plus (λ i. canvas_term s (target ch y i) (canvas ch y i)) x

  module _ (w h : ℕ) where
    -- the two parts of a table: each number is its sum
    abbrev pub TargetPart : Picture P → (OfTarget → ℕ → ℕ → ℕ → E) → Type 0
    TargetPart target number =
        (s : OfTarget) (ch y x : ℕ) → ch < 3 → y < h → x ≤ w → number s ch y x ≡ target_sum target s ch y x

    abbrev pub CanvasPart : Picture P → Picture P → (OfCanvas → ℕ → ℕ → ℕ → E) → Type 0
    CanvasPart target canvas number =
        (s : OfCanvas) (ch y x : ℕ) → ch < 3 → y < h → x ≤ w → number s ch y x ≡ canvas_sum target canvas s ch y x

    -- an update leaves the target's part as it was
    abbrev pub TargetKept : (OfTarget → ℕ → ℕ → ℕ → E) → (OfTarget → ℕ → ℕ → ℕ → E) → Type 0
    TargetKept old new =
        (s : OfTarget) (ch y x : ℕ) → ch < 3 → y < h → x ≤ w → new s ch y x ≡ old s ch y x

    -- and has the canvas's sums of some rows afresh, those of the others as they were
    abbrev pub CanvasRedone : (ℕ → Bool) → Picture P → Picture P → (OfCanvas → ℕ → ℕ → ℕ → E) → (OfCanvas → ℕ → ℕ → ℕ → E) → Type 0
    CanvasRedone redone target canvas old new =
        (s : OfCanvas) (ch y x : ℕ) → ch < 3 → y < h → x ≤ w → new s ch y x ≡ cond (redone y) (canvas_sum target canvas s ch y x) (old s ch y x)
