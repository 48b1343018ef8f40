-- Laws: an update after a change of the canvas in some rows gives the sums afresh, over any kind of number.
use Rattle.std.specs.Prelude.{◌≡◌, refl, Bool, true, false, cond, ℕ, ◌+◌, ◌*◌, ◌≤◌, ◌<◌}
use Rattle.std.proofs.Common.{sym, ◌∙◌, arith}
use Rattle.std.proofs.Math.Path.{ap}
use Rattle.laws.specs.Before.{before}
use Rattle.laws.specs.BeforeLaws.{before_same}
use Rattle.laws.specs.RowSums.{OfTarget, OfCanvas, Summing, Picture, target_term, canvas_term, target_sum, canvas_sum, TargetPart, CanvasPart, TargetKept, CanvasRedone}

module _ {P E : Type 0} (k : Summing P E) where
  -- a sum reads its own channel and row, and there the pixels before x
  pub target_sum_same : (a b : Picture P) (s : OfTarget) (ch y x : ℕ) → ((i : ℕ) → i < x → a ch y i ≡ b ch y i)
      → target_sum k a s ch y x ≡ target_sum k b s ch y x
  unfolding target_sum
  target_sum_same a b s ch y x e = before_same k.none k.plus _ _ x (λ i l. ap (target_term k s) (e i l))

  pub canvas_sum_same : (a b c d : Picture P) (s : OfCanvas) (ch y x : ℕ)
      → ((i : ℕ) → i < x → a ch y i ≡ b ch y i) → ((i : ℕ) → i < x → c ch y i ≡ d ch y i)
      → canvas_sum k a c s ch y x ≡ canvas_sum k b d s ch y x
  unfolding canvas_sum
  canvas_sum_same a b c d s ch y x e f =
      before_same k.none k.plus _ _ x (λ i l. ap (λ t. canvas_term k s t (c ch y i)) (e i l) ∙ ap (canvas_term k s (b ch y i)) (f i l))

  module _ (w h : ℕ) (target canvas changed : Picture P) (redone : ℕ → Bool) (old new : OfCanvas → ℕ → ℕ → ℕ → E) where
    -- rows that are not redone have the canvas that they had: then all sums are those of the changed canvas
    pub redone-fresh : ((ch y x : ℕ) → ch < 3 → y < h → x < w → redone y ≡ false → changed ch y x ≡ canvas ch y x)
        → CanvasPart k w h target canvas old → CanvasRedone k w h redone target changed old new
        → CanvasPart k w h target changed new
    redone-fresh same part step s ch y x c l m = step s ch y x c l m ∙ by (redone y) refl
      where
        by : (b : Bool) → redone y ≡ b → cond b (canvas_sum k target changed s ch y x) (old s ch y x) ≡ canvas_sum k target changed s ch y x
        by true e = refl
        by false e =
            part s ch y x c l m
            ∙ canvas_sum_same target target canvas changed s ch y x (λ i g. refl) (λ i g. sym (same ch y i c l (omega arith) e))

  -- and the target's part stays what it was
  pub kept_target : (w h : ℕ) (target : Picture P) (old new : OfTarget → ℕ → ℕ → ℕ → E)
      → TargetPart k w h target old → TargetKept k w h old new → TargetPart k w h target new
  kept_target w h target old new part keeps s ch y x c l m = keeps s ch y x c l m ∙ part s ch y x c l m
