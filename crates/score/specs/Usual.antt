-- Rules: what a call at one opacity knows of its numbers where they passed their tests in one go.
use Rattle.std.specs.Prelude.{◌≡◌, false, true, ℕ, Float}
use Rattle.refusal.specs.Refusals.{bad_size}
use Rattle.float.specs.Within.{within}
use Rattle.cover.specs.declared.Kind.{Kind}
use Rattle.cover.specs.Cover.{bad_places}

pub record Usual (kind : Kind) (opacity : Float) (levels w h : ℕ) : Type 0 where
  pub size : bad_size w h ≡ false
  pub levels_64 : levels ≡ 64
  pub opacity_in : within opacity ≡ true
  pub places : bad_places kind ≡ false
